-- Which of some names a word is nearest to.
use Rattle.std.specs.{Char.to_ascii_lowercase, Str.{IsAscii, chars}}
use Rattle.std.specs.Prelude.{◌≡◌, ◌≤◌, ◌<◌, ◌*◌, ◌&&◌, ℕ, Bool, false, true, Some, List, [], length, map, nat_le, slice_get, slice_index_or}
use Rattle.strsim.specs.Edits.{osa_table}

-- a word that is compared with names
pub record IsCompared (word : List ℕ) : Type 0 where
  pub few : length word ≤ 32
  pub ascii : IsAscii word

abbrev pub in_lower_case : List ℕ → List ℕ
in_lower_case word = map to_ascii_lowercase word

-- how many edits lead from one text to the other, where an edit is a character more, less or other, or two that are swapped
unfoldable pub edits : List ℕ → List ℕ → ℕ
edits text name = (osa_table (chars text) (chars name)).last_row (length (chars name))

-- how many lead to the name at a position
abbrev pub edits_at : List ℕ → List (List ℕ) → ℕ → ℕ
edits_at text names place = edits text (slice_index_or names place [])

-- this many edits are few for a word of this length
abbrev pub are_few : ℕ → ℕ → Bool
are_few edits len = nat_le edits 2 && nat_le (edits * 3) len

-- of this many first names, the one at a position is reached by few edits, by fewer than any before it, and by no more than any after it
pub record IsFewest (edits_to : ℕ → ℕ) (len : ℕ) (count : ℕ) (place : ℕ) : Type 0 where
  pub inside : place < count
  pub few : are_few (edits_to place) len ≡ true
  pub before : (k : ℕ) → k < place → edits_to place < edits_to k
  pub behind : (k : ℕ) → place < k → k < count → edits_to place ≤ edits_to k

-- THE NAME that a word is nearest to
abbrev pub IsNearest : List ℕ → List (List ℕ) → List ℕ → Type 0
IsNearest text names name = (place : ℕ) × (slice_get names place ≡ Some name) × IsFewest (edits_at text names) (length text) (length names) place

-- few edits lead to none of these names
abbrev pub NoneIsNear : List ℕ → List (List ℕ) → Type 0
NoneIsNear text names = (k : ℕ) → k < length names → are_few (edits_at text names k) (length text) ≡ false
