-- the position is in the line
use Rattle.std.proofs.Common.{◌≤◌, length}
use Rattle.texts.proofs.faults.finding.words_after.Given as goal

abbrev pub invariant-loop-slot : goal.invariant-loop-slot
invariant-loop-slot l = l.at ≤ length l.line
