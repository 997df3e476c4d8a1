-- What is said of an entry in a slot of a queue: the bytes that are there in the world.
use Rattle.std.specs.{Fmt.{decimal, digit_glyph, digits}, List.Contains}
use Rattle.std.specs.Prelude.{◌≡◌, ◌≢◌, ◌⊎◌, ℕ, zero, suc, ◌+◌, ◌*◌, ◌/◌, ◌%◌, ◌<◌, true, Option, Some, None, List, [], ◌∷◌, ◌++◌, codes, take, drop, length}
use Rattle.machine_model.specs.{Claims.claims_of, State.State}
use Rattle.page_ledger.specs.declared.owner.Owner.{Owner, TheVariants.Queue}
use Rattle.page_memory.specs.{Memory.bytes_at, Pages.byte_at, declared.page.Half.{Half, TheVariants.{Submission, Completion}}}

-- a page has an owner in the world, and that is not this half of a queue
abbrev pub IsOfAnother : State → ℕ → Half → ℕ → Type 0
IsOfAnother world q half p = (owner : Owner) × Contains (claims_of world.host) (p, owner) × (owner ≢ Queue q half)

-- the first page that a half of a queue has in the world
pub record IsFirstPage (world : State) (q : ℕ) (half : Half) (p : ℕ) : Type 0 where
  pub has : Contains (claims_of world.host) (p, Queue q half)
  pub first : (k : ℕ) → k < p → IsOfAnother world q half k

abbrev pub entry_size : Half → ℕ
entry_size Submission = 64
entry_size Completion = 16

-- where a slot lies
pub record IsSlot (world : State) (q : ℕ) (half : Half) (slot : ℕ) (addr : ℕ) : Type 0 where
  pub page : ℕ
  pub is : IsFirstPage world q half page
  pub lies : addr ≡ 4096 * page + entry_size half * slot

-- the half has no page in the world
abbrev pub HasNoPage : State → ℕ → Half → Type 0
HasNoPage world q half = (p : ℕ) → p < length world.memory → IsOfAnother world q half p

-- THE ENTRY in a slot: where it lies, and its bytes
pub record StandsIn (world : State) (q : ℕ) (half : Half) (slot : ℕ) (addr : ℕ) (bytes : List ℕ) : Type 0 where
  pub slot_at : IsSlot world q half slot addr
  pub has : bytes_at (byte_at world.memory) addr (entry_size half) ≡ Some bytes

-- there is none: the half has no page, or a byte of the slot is missing
abbrev pub IsMissing : State → ℕ → Half → ℕ → Type 0
IsMissing world q half slot =
    HasNoPage world q half ⊎ ((addr : ℕ) × IsSlot world q half slot addr × (bytes_at (byte_at world.memory) addr (entry_size half) ≡ None))

-- How bytes are shown

-- a byte, in two hexadecimal digits after a space
abbrev pub byte_text : ℕ → List ℕ
byte_text b = 32 ∷ digit_glyph true (b / 16) ∷ digit_glyph true (b % 16) ∷ []

abbrev pub row_bytes_text : List ℕ → List ℕ
row_bytes_text [] = []
row_bytes_text (b ∷ bs) = byte_text b ++ row_bytes_text bs

-- this many rows of 16 bytes, each a line
unfoldable pub rows_text : ℕ → List ℕ → List ℕ
rows_text zero bytes = []
rows_text (suc n) bytes = codes "   " ++ (row_bytes_text (take 16 bytes) ++ ((10 ∷ []) ++ rows_text n (drop 16 bytes)))

-- an address, as a page and an offset in it
abbrev pub place_text : ℕ → List ℕ
place_text addr = codes "page " ++ (decimal (addr / 4096) ++ (codes " + " ++ (digits 16 true (addr % 4096) ++ codes "h")))

abbrev pub name_text : Half → List ℕ
name_text Submission = codes "  submission queue "
name_text Completion = codes "  completion queue "

-- a slot with its bytes
abbrev pub slot_text : Half → ℕ → ℕ → ℕ → List ℕ → List ℕ
slot_text half q slot addr bytes =
    name_text half ++ (decimal q ++ (codes " slot " ++ (decimal slot ++ (codes ", " ++ (place_text addr ++ ((10 ∷ []) ++ rows_text (length bytes / 16) bytes))))))

-- THE TEXT of a slot: where its entry lies, and the bytes that are there, which are found too; nothing where there is none
abbrev pub SaysSlot : State → ℕ → Half → ℕ → Option (List ℕ) → List ℕ → List ℕ → Type 0
SaysSlot world q half slot None before after = IsMissing world q half slot × (after ≡ before)
SaysSlot world q half slot (Some bytes) before after = (addr : ℕ) × StandsIn world q half slot addr bytes × (after ≡ before ++ slot_text half q slot addr bytes)
