-- The free pages of a pool by a Bool for each page.
use Rattle.std.specs.Prelude.{Bool, List, ℕ, filter, length}
use Rattle.slot_table.specs.Places.{is_true_at}
use Rattle.page_ledger.specs.Owners.{pages_from}

-- the free pages, in rising order
abbrev pub true_places : List Bool → List ℕ
true_places flags = filter (is_true_at flags) (pages_from 0 (length flags))
