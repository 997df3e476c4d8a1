use Rattle.std.proofs.Common.{◌≡◌}
use Rattle.arrayvec.specs.ArrayVec.{array_vec_len}
use Rattle.two_sides.specs.Opening.{halves_from}
use Rattle.step_core.proofs.open.halves.Given as goal

abbrev pub invariant-loop-q : goal.invariant-loop-q
invariant-loop-q l = (l.halves.items ≡ halves_from 0 l.entries l.q) × (array_vec_len l.halves ≡ l.q)
