-- A list of Bools as words of bits, with a summary of the words.
use Rattle.std.specs.{List.range_with_len, Prelude.{◌≡◌, ◌+◌, ◌≤◌, ◌/◌, ◌==◌, Bool, false, List, ℕ, length, map, not, slice_index, slice_index_or}}
use Rattle.slot_table.specs.Bits.{is_set}

-- whether the list has a position, and true there
abbrev pub is_true_at : List Bool → ℕ → Bool
is_true_at list i = slice_index_or list i false

-- the list of this many bits of words
abbrev pub bools_of : List ℕ → ℕ → List Bool
bools_of words len = map (is_set words) (range_with_len 0 len)

-- There are 65,536 positions at most. The words have a bit for each, and no other bit is 1. The summary has a bit for each word, which is 1 where the word has a 1.
pub record IsSummed (words summary : List ℕ) (len : ℕ) : Type 0 where
  pub most : len ≤ 65536
  pub size : length words ≡ (len + 63) / 64
  pub above : length summary ≡ (length words + 63) / 64
  pub past : (i : ℕ) → len ≤ i → is_set words i ≡ false
  pub sums : (w : ℕ) → is_set summary w ≡ not (slice_index words w == 0)
