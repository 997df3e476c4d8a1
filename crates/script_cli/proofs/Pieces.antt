-- How pieces go on, word by word.
use Rattle.std.proofs.Common.{◌≡◌, ℕ, true, false, Some, None, Ok, Err, List, [], ◌∷◌, ◌++◌, refl}
use Rattle.io_commands.specs.declared.request.Piece.{Piece}
use Rattle.script_cli.specs.{Grammar.{Words, begins_option, ends_pieces, pieces_from}, Pieces.piece, declared.fault.LineFault.TheVariants.BadPiece}

-- they end where no word is left, and where the next one comes after them
pub pieces_end : (so_far : List Piece) (ws : Words) → ends_pieces ws ≡ true → pieces_from so_far ws ≡ Ok (so_far, ws)
unfolding pieces_from
pieces_end so_far [] ends = refl
pieces_end so_far (word ∷ rest) ends = rw ends refl

-- they go on with a piece
pub piece_next : (so_far : List Piece) (word : List ℕ) (rest : Words) (next : Piece) → begins_option word ≡ false → piece word ≡ Some next → pieces_from so_far (word ∷ rest) ≡ pieces_from (so_far ++ next ∷ []) rest
unfolding pieces_from
piece_next so_far word rest next on is = rw (on, is) refl

-- and any other word is a fault
pub no_piece : (so_far : List Piece) (word : List ℕ) (rest : Words) → begins_option word ≡ false → piece word ≡ None → pieces_from so_far (word ∷ rest) ≡ Err BadPiece
unfolding pieces_from
no_piece so_far word rest on is = rw (on, is) refl
