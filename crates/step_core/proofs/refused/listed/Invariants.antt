use Rattle.std.proofs.Common.{◌≡◌, take}
use Rattle.arrayvec.specs.ArrayVec.{array_vec_len}
use Rattle.step_core.proofs.refused.listed.Given as goal

abbrev pub invariant-loop-number : goal.invariant-loop-number
invariant-loop-number l = (l.pages.items ≡ take l.number-index l.numbers) × (array_vec_len l.pages ≡ l.number-index)
