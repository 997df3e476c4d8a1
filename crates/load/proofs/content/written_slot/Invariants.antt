-- the blocks that are left come after the bytes so far
use Rattle.std.proofs.Common.{◌≡◌, ◌++◌, ◌+◌, ◌-◌}
use Rattle.load.specs.Content.{blocks_bytes, written}
use Rattle.load.proofs.content.written_slot.Given as goal

abbrev pub invariant-loop-block : goal.invariant-loop-block
invariant-loop-block l =
    l.bytes.items ++ blocks_bytes l.seed l.generation l.block (l.first + l.fn.layout.slot_blocks - l.block) ≡ written l.fn.layout l.seed l.slot l.generation
