use Rattle.std.proofs.Common.{arith}
use Rattle.host_core.proofs.compare.same_numbers.Goals as goal

pub bounds-numbers-i : goal.bounds-numbers-i
bounds-numbers-i g c = omega arith
