use Rattle.std.proofs.Common.{◌≡◌, drop}
use Rattle.machine_model.specs.Refusals.{same_pieces}
use Rattle.host_core.proofs.compare.same_pieces.Given as goal

abbrev pub invariant-loop-i : goal.invariant-loop-i
invariant-loop-i l = same_pieces l.a l.b ≡ same_pieces (drop l.i l.a) (drop l.i l.b)
