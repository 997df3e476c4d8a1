use Rattle.std.proofs.Common.{◌≡◌}
use Rattle.std.specs.Prelude.{replicate}
use Rattle.io_commands.specs.declared.request.Piece.TheVariants as piece
use Rattle.nvmesgl_c.proofs.words.request.pieces_for.Given as goal

-- a piece for each page so far
abbrev pub invariant-loop : goal.invariant-loop
invariant-loop l = l.pieces ≡ replicate l.counter (piece.Data 0 4096)
