-- The bytes of a pool one after the other, each there or missing.
use Rattle.std.specs.Prelude.{◌≡◌, ◌+◌, ◌%◌, ◌≤◌, ◌++◌, ℕ, List, Option, None, length, take, drop, replicate}

-- what a flat memory shows: its bytes, the pages reached since the touched list was cleared, and how many touches that list does not have
pub record FlatContents : Type 0 where
  pub bytes : List (Option ℕ)
  pub touched : List ℕ
  pub unlisted : ℕ

-- the bytes with a range of them missing
abbrev pub without : List (Option ℕ) → ℕ → ℕ → List (Option ℕ)
without bytes from count = take from bytes ++ replicate count None ++ drop (from + count) bytes

-- what a flat memory keeps of its bytes: they are those of whole pages, 65,536 at most
pub record IsFlat (bytes : List (Option ℕ)) : Type 0 where
  pub few : length bytes ≤ 268435456
  pub whole : length bytes % 4096 ≡ 0
