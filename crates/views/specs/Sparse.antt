-- A pool of which only some pages are given, by their numbers: all others are zeros.
use Rattle.std.specs.Prelude.{◌≡◌, ◌+◌, ◌≤◌, ◌%◌, ◌&&◌, ◌==◌, ℕ, Bool, not, nat_le, nat_lt, List, [], ◌∷◌, Option, Some, None, if◌then◌else◌, length, slice_get, option_and_then}
use Rattle.std.specs.List.{AllByRecursion, list_any}
use Rattle.page_memory.specs.{Memory.{Memory, page_of}, Pages.zero_page}
use Rattle.views.specs.declared.sparse_memory.GivenPage.{GivenPage}

-- The bytes of a page: those that it was given, or zeros.
abbrev pub bytes_of_page : List GivenPage → ℕ → List ℕ
bytes_of_page [] p = zero_page
bytes_of_page (page ∷ rest) p = if page.number == p then page.bytes else bytes_of_page rest p

-- the pages with these bytes for one of them
abbrev pub with_page : List GivenPage → ℕ → List ℕ → List GivenPage
with_page [] p bytes = record { number = p; bytes = bytes } ∷ []
with_page (page ∷ rest) p bytes = if page.number == p then record { number = page.number; bytes = bytes } ∷ rest else page ∷ with_page rest p bytes

-- The pages of a pool: this many starting at a first one, those that are given, and those that are out.
pub record SparsePool : Type 0 where
  pub first : ℕ
  pub count : ℕ
  pub given : List GivenPage
  pub out : List ℕ

abbrev pub is_of_pool : SparsePool → ℕ → Bool
is_of_pool pool p = nat_le pool.first p && nat_lt p (pool.first + pool.count)

abbrev pub is_out : SparsePool → ℕ → Bool
is_out pool p = list_any (λ out. out == p) pool.out

-- a page that is of the pool, and not out, is there
abbrev pub is_there : SparsePool → ℕ → Bool
is_there pool p = is_of_pool pool p && not (is_out pool p)

-- the bytes of a page that is there
abbrev pub page_in : SparsePool → ℕ → Option (List ℕ)
page_in pool p = if is_there pool p then Some (bytes_of_page pool.given p) else None

-- the byte at an address, by what is at each page
abbrev pub byte_by : (ℕ → Option (List ℕ)) → Memory
byte_by pages place = option_and_then (λ bytes. slice_get bytes (place % 4096)) (pages (page_of place))

-- THE BYTE at an address: nothing where the address is outside of the pool, or its page is out
unfoldable pub byte_in : SparsePool → Memory
byte_in pool = byte_by (page_in pool)

-- what a sparse memory shows: its pool, the pages reached since the touched list was emptied, and how many touches that list does not have
pub record SparseContents : Type 0 where
  pub pool : SparsePool
  pub touched : List ℕ
  pub unlisted : ℕ

-- What a sparse memory keeps: each given page is whole, its addresses end at 2^64, and as many more pages can be given as the touched list has room for.
pub record IsSparse (pool : SparsePool) (capacity : ℕ) (touched : List ℕ) : Type 0 where
  pub whole : AllByRecursion (λ page. length page.bytes ≡ 4096) pool.given
  pub few : pool.first + pool.count ≤ 4503599627370496
  pub room : length pool.given + 4 ≤ capacity + length touched
