-- The bytes of a command's data pages: how they are filled, and how they are gathered, piece by piece.
use Rattle.std.specs.Prelude.{ℕ, ◌+◌, List, [], ◌∷◌, ◌++◌, take, drop, slice_range}
use Rattle.page_memory.specs.Pages.{with_bytes}
use Rattle.io_commands.specs.declared.request.Piece.{Piece, TheVariants.{Data, Bucket}}

-- pages outside the store: their numbers and their bytes
abbrev pub PagesOut : Type 0
PagesOut = List (ℕ × List ℕ)

-- how many bytes of data a piece is
abbrev pub data_length : Piece → ℕ
data_length (Data offset len) = len
data_length (Bucket len) = 0

-- the data pages with these bytes in the data pieces, one piece after the other
abbrev pub filled : List Piece → PagesOut → List ℕ → PagesOut
filled [] pages bytes = pages
filled (Bucket len ∷ pieces) pages bytes = filled pieces pages bytes
filled (Data offset len ∷ pieces) [] bytes = []
filled (Data offset len ∷ pieces) (page ∷ pages) bytes =
    (page.0, with_bytes page.1 offset (take len bytes)) ∷ filled pieces pages (drop len bytes)

-- the bytes of the data pieces, one after the other
abbrev pub gathered : List Piece → PagesOut → List ℕ
gathered [] pages = []
gathered (Bucket len ∷ pieces) pages = gathered pieces pages
gathered (Data offset len ∷ pieces) [] = []
gathered (Data offset len ∷ pieces) (page ∷ pages) = slice_range page.1 offset (offset + len) ++ gathered pieces pages
