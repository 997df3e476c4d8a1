-- the next word is searched for inside the line
use Rattle.std.proofs.Common.{◌≤◌, length}
use Rattle.program.proofs.below.place_of_option.Given as goal

abbrev pub invariant-loop : goal.invariant-loop
invariant-loop l = l.at ≤ length l.line
