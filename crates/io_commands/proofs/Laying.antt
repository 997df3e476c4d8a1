-- The bytes of data pieces laid over others, piece by piece.
use Rattle.std.proofs.Common.{◌≡◌, ℕ, List, ◌∷◌, ◌++◌, ◌+◌, refl, sym, append_assoc, length, drop, sum_by}
use Rattle.std.proofs.lemmas.List.{drop-drop}
use Rattle.std.proofs.lemmas.List.Sums.{sum_by-cons}
use Rattle.std.specs.Prelude.{slice_range}
use Rattle.io_commands.specs.DataBytes.{PagesOut, data_length, gathered}
use Rattle.io_commands.specs.declared.request.Piece.{Piece, TheVariants.{Data}}

-- a piece has its bytes at the front, and the pieces after it have theirs after them
pub piece_laid : (pieces others : List Piece) (piece : Piece) (offset len : ℕ) (pages behind : PagesOut) (page : ℕ × List ℕ) (into front back here rest : List ℕ)
    → pieces ≡ piece ∷ others → piece ≡ Data offset len → pages ≡ page ∷ behind → here ≡ slice_range page.1 offset (offset + len) → front ≡ here → back ≡ drop len into
    → rest ≡ gathered others behind ++ drop (sum_by data_length others) back
    → front ++ rest ≡ gathered pieces pages ++ drop (sum_by data_length pieces) into
piece_laid pieces others piece offset len pages behind page into front back here rest are is there bytes copied left laid =
    rw (are, is, there, sum_by-cons data_length (Data offset len) others, copied, bytes, laid, left, drop-drop (sum_by data_length others) len into)
    (sym (append_assoc (slice_range page.1 offset (offset + len)) (gathered others behind) (drop (len + sum_by data_length others) into)))
