use Rattle.std.proofs.Common.{◌≡◌, ◌≤◌, ◌+◌, false, drop}
use Rattle.io_commands.proofs.Fewest.{begun}
use Rattle.io_commands.proofs.least.joined_count.Given as goal

abbrev pub invariant-loop-piece : goal.invariant-loop-piece
invariant-loop-piece l = record {
  counted : l.count + begun l.fills (drop l.piece-index l.pieces) ≡ begun false l.pieces;
  few : l.count ≤ l.piece-index;
}
