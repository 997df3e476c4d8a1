-- What is said of a page.
use Rattle.std.specs.{Fmt.{decimal, digit_glyph, digits, padded_integral, format_spec}, List.{list_all, Contains}}
use Rattle.std.specs.Prelude.{◌≡◌, ℕ, zero, suc, ◌+◌, ◌-◌, ◌*◌, ◌/◌, ◌%◌, ◌^◌, ◌<◌, ◌==◌, ◌&&◌, Bool, true, false, Option, Some, None, List, [], ◌∷◌, ◌++◌, codes, if◌then◌else◌, nat_le, take, drop, length}
use Rattle.machine_model.specs.{Claims.claims_of, State.State}
use Rattle.page_ledger.specs.declared.owner.Owner.{Owner, TheVariants.{Free, Queue, Command}}
use Rattle.page_memory.specs.{Memory.bytes_at, Pages.byte_at}
use Rattle.shell.specs.declared.pages.Before.{Before}

-- a byte, in two hexadecimal digits after a space
abbrev pub byte_text : ℕ → List ℕ
byte_text b = 32 ∷ digit_glyph true (b / 16) ∷ digit_glyph true (b % 16) ∷ []

abbrev pub row_bytes_text : List ℕ → List ℕ
row_bytes_text [] = []
row_bytes_text (b ∷ bs) = byte_text b ++ row_bytes_text bs

-- an offset in a page, in three hexadecimal digits before a space
abbrev pub place_text : ℕ → List ℕ
place_text at = padded_integral (format_spec 32 0 4 3 (2 ^ 64 - 1)) false [] (digits 16 true at) ++ (32 ∷ [])

-- the line of a row
abbrev pub row_text : ℕ → List ℕ → List ℕ
row_text at row = place_text at ++ (row_bytes_text row ++ (10 ∷ []))

abbrev pub is_zeros : List ℕ → Bool
is_zeros row = list_all (λ b. b == 0) row

-- what is said of a row after another: its line; of rows of zeros that follow each other the first one's line, and `*` for the others
abbrev pub row_said : Before → ℕ → List ℕ → List ℕ
row_said before at row = if is_zeros row && before.zeros then (if before.starred then [] else 42 ∷ 10 ∷ []) else row_text at row

abbrev pub before_next : Before → List ℕ → Before
before_next before row = record { zeros = is_zeros row; starred = is_zeros row && before.zeros }

-- what is said of this many rows of 16 bytes
unfoldable pub rows_text : ℕ → Before → ℕ → List ℕ → List ℕ
rows_text zero before at bytes = []
rows_text (suc n) before at bytes =
    row_said before at (take 16 bytes) ++ rows_text n (before_next before (take 16 bytes)) (at + 16) (drop 16 bytes)

-- what is said of the bytes of a page
abbrev pub bytes_text : List ℕ → List ℕ
bytes_text bytes = rows_text 256 (record { zeros = false; starred = false }) 0 bytes

-- that a page is out, and which command has it
abbrev pub out_text : ℕ → Owner → List ℕ
out_text p Free = codes "page " ++ (decimal p ++ codes " is out of the pool\n")
out_text p (Queue q half) = codes "page " ++ (decimal p ++ codes " is out of the pool\n")
out_text p (Command q cid role) =
    codes "page " ++ (decimal p ++ (codes " is out of the pool: command " ++ (decimal q ++ (codes " " ++ (decimal cid ++ codes " has it\n")))))

abbrev pub in_or_out_text : ℕ → Option (List ℕ) → Owner → List ℕ
in_or_out_text p None owner = out_text p owner
in_or_out_text p (Some bytes) owner = bytes_text bytes

abbrev pub no_page_text : ℕ → ℕ → List ℕ
no_page_text pages p = codes "there is no page " ++ (decimal p ++ (codes "; the last one is " ++ (decimal (pages - 1) ++ (10 ∷ []))))

abbrev pub page_text : ℕ → ℕ → Option (List ℕ) → Owner → List ℕ
page_text pages p bytes owner = if nat_le pages p then no_page_text pages p else in_or_out_text p bytes owner

-- THE TEXT of a page: the bytes that the world's pool has there; of a page that is out, its owner in the world
pub record SaysPage (world : State) (p : ℕ) (text : List ℕ) : Type 0 where
  pub owner : Owner
  pub owns : p < length world.memory → bytes_at (byte_at world.memory) (4096 * p) 4096 ≡ None → Contains (claims_of world.host) (p, owner)
  pub said : text ≡ page_text (length world.memory) p (bytes_at (byte_at world.memory) (4096 * p) 4096) owner
