-- what is left comes after the pieces so far
use Rattle.std.proofs.Common.{◌≡◌, ◌++◌}
use Rattle.load.specs.Planning.{pieces_of}
use Rattle.load.proofs.plan.pieces_of.Given as goal

abbrev pub invariant-loop-rest : goal.invariant-loop-rest
invariant-loop-rest l = l.pieces ++ pieces_of l.rest ≡ pieces_of l.blocks

abbrev pub decreases-loop-rest : goal.decreases-loop-rest
decreases-loop-rest l = l.rest
