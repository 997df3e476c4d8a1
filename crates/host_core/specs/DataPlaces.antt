-- Where the data of an outstanding command lies.
use Rattle.std.specs.Option.{option_and_then}
use Rattle.std.specs.Prelude.{ℕ, List, [], ◌∷◌, Option, slice_get}
use Rattle.io_commands.specs.declared.request.Piece.{Piece, TheVariants.{Data, Bucket}}
use Rattle.machine_model.specs.{State.{Host, record_at}, Work.Work}
use Rattle.machine_model.specs.declared.words.Work.TheVariants.{Io, Management}
use Rattle.host_core.specs.declared.data_place.DataPlace.{DataPlace}

-- each data piece has a page of its own, in order
abbrev pub places : List Piece → List ℕ → List DataPlace
places [] pages = []
places (Bucket len ∷ pieces) pages = places pieces pages
places (Data offset len ∷ pieces) [] = []
places (Data offset len ∷ pieces) (p ∷ pages) = record { page = p; offset = offset; len = len } ∷ places pieces pages

abbrev pub places_of : Work → List ℕ → List DataPlace
places_of (Io request) pages = places request.pieces pages
places_of (Management kind) pages = []

abbrev pub place_at : Host → ℕ → ℕ → ℕ → Option DataPlace
place_at h q cid i = option_and_then (λ r. slice_get (places_of r.work r.data_pages) i) (record_at h q cid)
