-- Strings of bytes.
use Rattle.std.specs.Prelude.{◌≡◌, ◌<◌, ℕ, List, length, slice_index}

-- a number of bytes, each below 256 (`slice_index` is 0 past the end)
pub record IsBytes (many : ℕ) (bytes : List ℕ) : Type 0 where
  pub count : length bytes ≡ many
  pub below : (i : ℕ) → slice_index bytes i < 256
