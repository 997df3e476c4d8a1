-- the numbers so far are those below the next one
use Rattle.std.proofs.Common.{◌-◌}
use Rattle.load.specs.Picking.{AreCounted}
use Rattle.load.proofs.picks.in_turn.Given as goal

abbrev pub invariant-loop-slot : goal.invariant-loop-slot
invariant-loop-slot l = AreCounted l.from (l.slot - l.from) l.slots.items
