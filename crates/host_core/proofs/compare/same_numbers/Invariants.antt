use Rattle.std.{proofs.Common.{◌≡◌, drop, nat_eq}, specs.Cmp.Lexicographic.pointwise}
use Rattle.io_commands.specs.Values.{numbers_of}
use Rattle.host_core.proofs.compare.same_numbers.Given as goal

abbrev pub invariant-loop-i : goal.invariant-loop-i
invariant-loop-i g l = pointwise nat_eq (numbers_of l.pages) l.numbers ≡ pointwise nat_eq (numbers_of (drop l.i l.pages)) (drop l.i l.numbers)
