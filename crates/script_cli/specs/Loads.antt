-- The ranges of a load.
use Rattle.std.specs.Prelude.{◌≤◌, ℕ, Option, Some, None}
use Rattle.script_cli.specs.declared.workload.Load.{Load}

-- a number of blocks, if there is one, is one that an image may have
abbrev pub FitsSize : Option ℕ → Type 0
FitsSize None = Unit {0}
FitsSize (Some blocks) = (1 ≤ blocks) × (blocks ≤ 65536)

-- what is loaded lies in its ranges
pub record FitsLoad (what : Load) : Type 0 where
  pub some_blocks : 1 ≤ what.command_blocks
  pub few_blocks : what.command_blocks ≤ 256
  pub some_submitters : 1 ≤ what.submitters
  pub few_submitters : what.submitters ≤ 16
  pub some_depth : 1 ≤ what.depth
  pub little_depth : what.depth ≤ 256
  pub reads : what.reads ≤ 100
  pub size : FitsSize what.size
