-- What holds of every walk.
use Rattle.std.specs.Prelude.{◌≡◌, ◌≤◌, ◌<◌, ◌+◌, ◌*◌, ◌/◌, ◌^◌, ℕ, Option, Some, None}
use Rattle.sgl_descriptor.specs.declared.Descriptor.{Descriptor, TheVariants.{DataBlock, BitBucket, Segment, LastSegment}}
use Rattle.controller_walk.specs.declared.{cursor.Cursor.Cursor, progress.{Block.Block, Progress.Progress, State.State}}
use Rattle.controller_walk.specs.declared.progress.State.TheVariants.{First, Next, Data, Over}

-- one descriptor or more is left in a segment, and all that are left lie below 2 ^ 64
abbrev pub IsCursor : Cursor → Type 0
IsCursor c = (0 < c.left) × (c.place + 16 * c.left ≤ 2 ^ 64)

abbrev pub IsAfter : Option Cursor → Type 0
IsAfter None = Unit {0}
IsAfter (Some c) = IsCursor c

-- A block that is being moved isn't empty and ends at 2 ^ 64 at most; its bytes and those wanted after it end those that are needed.
abbrev pub IsBlock : ℕ → ℕ → Block → Type 0
IsBlock need wanted block = (0 < block.len) × (block.place + block.len ≤ 2 ^ 64) × (block.offset + (block.len + wanted) ≡ need)

-- what a descriptor without fault has: a range below 2 ^ 64, if it has one, and a link names a segment that is not empty
abbrev pub IsClear : Descriptor → Type 0
IsClear (DataBlock addr len) = addr + len ≤ 2 ^ 64
IsClear (BitBucket len) = Unit {0}
IsClear (Segment addr len) = (0 < len / 16) × (addr + 16 * (len / 16) ≤ 2 ^ 64)
IsClear (LastSegment addr len) = (0 < len / 16) × (addr + 16 * (len / 16) ≤ 2 ^ 64)

abbrev pub IsStateOf : ℕ → ℕ → State → Type 0
IsStateOf need wanted (First sgl1) = Unit {0}
IsStateOf need wanted (Next c) = IsCursor c
IsStateOf need wanted (Data block after) = IsBlock need wanted block × IsAfter after
IsStateOf need wanted (Over fault) = Unit {0}

-- what holds of a walk whatever it meets next
pub record IsBounded (w : Progress) : Type 0 where
  pub need : w.need ≤ 1048576
  pub wanted : w.wanted ≤ w.need
  pub allowed : w.allowed ≤ 4095

-- what holds of every walk
pub record IsProgress (w : Progress) : Type 0 where
  pub bounded : IsBounded w
  pub state : IsStateOf w.need w.wanted w.state
