-- A walk over the rows of a table, starting at the first, each time to the next row.
use Rattle.std.specs.Prelude.{ℕ, zero, suc, List, [], ◌∷◌, map, Option, Some, None}
use Rattle.slot_table.specs.Rows.{Row, place_behind}

module _ {R : Type 0} where
  -- the slots of rows
  abbrev pub places_of : List (Row R) → List (ℕ × ℕ)
  places_of rows = map (λ row. (row.q, row.cid)) rows

  -- the slots that a walk meets starting at this one, at most this many
  abbrev pub walk_from : List (Row R) → Option (ℕ × ℕ) → ℕ → List (ℕ × ℕ)
  walk_from rows at zero = []
  walk_from rows None (suc most) = []
  walk_from rows (Some place) (suc most) =
      place ∷ walk_from rows (place_behind rows place.0 place.1) most
