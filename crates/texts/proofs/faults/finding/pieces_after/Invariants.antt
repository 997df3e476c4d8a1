-- the position is in the line
use Rattle.std.proofs.Common.{◌≤◌, length}
use Rattle.texts.proofs.faults.finding.pieces_after.Given as goal

abbrev pub invariant-words : goal.invariant-words
invariant-words l = l.at ≤ length l.line
