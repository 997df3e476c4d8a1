use Rattle.std.proofs.Common.{◌≡◌, map, take}
use Rattle.nvmesgl_c.specs.Requests as requests
use Rattle.nvmesgl_c.proofs.words.piece.made_of.Given as goal

abbrev pub invariant-loop-piece : goal.invariant-loop-piece
invariant-loop-piece l = l.made ≡ map requests.piece_of (take l.piece-index l.pieces)
