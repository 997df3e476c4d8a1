use Rattle.std.proofs.Common.{◌≡◌, drop, slice_get}
use Rattle.host_core.specs.DataPlaces.{places}
use Rattle.host_core.proofs.data_place.place_among.Given as goal

-- the piece that is looked for is at this index of those that are left
abbrev pub invariant-loop-piece : goal.invariant-loop-piece
invariant-loop-piece l = slice_get (places l.fn.pieces l.fn.pages) l.fn.i ≡ slice_get (places (drop l.piece-index l.fn.pieces) l.rest) l.left
