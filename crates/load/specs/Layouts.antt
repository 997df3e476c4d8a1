-- How a load shares out the blocks of an image.
use Rattle.std.specs.Prelude.{◌≡◌, ◌≤◌, ◌*◌, ◌/◌, ℕ, Option, Some, None, nat_lt, unwrap_or, if◌then◌else◌}
use Rattle.load.specs.declared.layout.Layout.{Layout}
use Rattle.script_cli.specs.declared.workload.Load.{Load}

-- how many blocks are used, of this many: those that are said, or all
abbrev pub blocks_used : Load → ℕ → ℕ
blocks_used what blocks = unwrap_or what.size blocks

-- How many blocks are needed, and how many there are, where these are too few: more are to be used than there are, or those in use have no slot for each submitter.
abbrev pub too_few : Load → ℕ → Option (ℕ × ℕ)
too_few what blocks =
    if nat_lt blocks (blocks_used what blocks) then Some (blocks_used what blocks, blocks)
    else if nat_lt (blocks_used what blocks) (what.submitters * what.command_blocks) then Some (what.submitters * what.command_blocks, blocks_used what blocks)
    else None

-- these blocks are shared out among the submitters, in slots of the commands' blocks
pub record IsLayoutFor (what : Load) (blocks : ℕ) (layout : Layout) : Type 0 where
  pub used : layout.blocks ≡ blocks_used what blocks
  pub there : layout.blocks ≤ blocks
  pub submitters : layout.submitters ≡ what.submitters
  pub slot_blocks : layout.slot_blocks ≡ what.command_blocks
  pub slots : layout.slots ≡ layout.blocks / (what.submitters * what.command_blocks)
