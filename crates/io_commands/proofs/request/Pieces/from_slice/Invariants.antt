use Rattle.std.proofs.Common.{◌≡◌, take}
use Rattle.io_commands.proofs.request.Pieces.from_slice.Given as goal

abbrev pub invariant-loop-piece : goal.invariant-loop-piece
invariant-loop-piece g l = l.made ≡ take l.piece-index l.pieces
