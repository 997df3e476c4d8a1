-- A set of numbers as words of 64 bits: number i is inside where bit i % 64 of word i / 64 is 1.
use Rattle.std.specs.{Int.bit_at, Prelude.{◌≡◌, ◌≢◌, ◌==◌, ◌/◌, ◌%◌, Bool, List, ℕ, length, slice_index}}

-- whether a bit of a word is 1
abbrev pub is_one : ℕ → ℕ → Bool
is_one word place = bit_at word place == 1

-- whether a number is in the set
abbrev pub is_set : List ℕ → ℕ → Bool
is_set words i = is_one (slice_index words (i / 64)) (i % 64)

-- The number i is put into the set or taken out. All others stay, and so do all words but its own.
pub record IsPut (old : List ℕ) (i : ℕ) (inside : Bool) (now : List ℕ) : Type 0 where
  pub size : length now ≡ length old
  pub here : is_set now i ≡ inside
  pub others : (j : ℕ) → j ≢ i → is_set now j ≡ is_set old j
  pub words : (w : ℕ) → w ≢ i / 64 → slice_index now w ≡ slice_index old w
