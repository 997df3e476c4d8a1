-- The pages of a pool, each in the store with its bytes, or out of it.
use Rattle.std.specs.Prelude.{◌≡◌, ◌%◌, ◌+◌, ◌≤◌, ◌++◌, ℕ, List, Option, Some, length, take, drop, replicate, slice_get, slice_set, option_and_then, IfSome}
use Rattle.page_memory.specs.Memory.{Memory, page_of}

-- a page of zeros
unfoldable pub zero_page : List ℕ
zero_page = replicate 4096 0

-- the pages of a pool, each with its bytes where it is in
abbrev pub Pages : Type 0
Pages = List (Option (List ℕ))

-- what is at an index of a list in which some positions are empty
abbrev pub slot_at : {X : Type 0} → List (Option X) → ℕ → Option X
slot_at slots i = option_and_then (λ slot. slot) (slice_get slots i)

-- the bytes of a page that is in
abbrev pub page_at : Pages → ℕ → Option (List ℕ)
page_at pages p = slot_at pages p

-- the byte at an address, or nothing where the address is outside the pool or its page is out
abbrev pub byte_at : Pages → Memory
byte_at pages place = option_and_then (λ bytes. slice_get bytes (place % 4096)) (page_at pages (page_of place))

-- a page with these bytes starting at an offset
abbrev pub with_bytes : List ℕ → ℕ → List ℕ → List ℕ
with_bytes page at new = take at page ++ new ++ drop (at + length new) page

-- what a store shows: its pages, the pages reached since the touched list was cleared, and how many touches that list does not have
pub record Contents : Type 0 where
  pub pages : Pages
  pub touched : List ℕ
  pub unlisted : ℕ

-- the pool with these bytes in one page, which is in, starting at an offset
abbrev pub with_page_bytes : Pages → ℕ → ℕ → List ℕ → Pages
with_page_bytes pages p at new = slice_set pages p (option_and_then (λ page. Some (with_bytes page at new)) (page_at pages p))

-- a page that is in has all its 4,096 bytes
abbrev pub IsWhole : Pages → ℕ → Type 0
IsWhole pages p = IfSome (page_at pages p) (λ page. length page ≡ 4096)

abbrev pub AreWhole : Pages → Type 0
AreWhole pages = (p : ℕ) → IsWhole pages p

-- what a store keeps of its pages: there are at most 65,536, and those that are in are whole
pub record IsPool (pages : Pages) : Type 0 where
  pub few : length pages ≤ 65536
  pub whole : AreWhole pages
