-- Ranges of blocks, as a Deallocate names them.
use Rattle.std.specs.Int.{w32, w64, to_le_bytes}
use Rattle.std.specs.Prelude.{ℕ, ◌++◌, List, replicate}
use Rattle.io_commands.specs.declared.range.BlockRange.{BlockRange}

-- its 16 bytes: no context attributes, the number of blocks, the first block
abbrev pub range_bytes : BlockRange → List ℕ
range_bytes range = replicate 4 0 ++ to_le_bytes w32 range.blocks ++ to_le_bytes w64 range.slba
