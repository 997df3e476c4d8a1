-- Which submission was the last of a queue and identifier.
use Rattle.std.specs.Prelude.{◌≡◌, ℕ, ◌==◌, ◌&&◌, Bool, List, Option, None, Some}
use Rattle.io_commands.specs.Drafts.{DraftContents}
use Rattle.slot_table.specs.{Rows.{Row, value_at}, Table.TableOf}
use Rattle.driver_book.specs.History.{last_place}

-- what contracts see of the submissions of a book: their drafts, in their order, and whether there is a table of the last ones
pub record SubmissionsContents : Type 0 where
  pub drafts : List DraftContents
  pub tabled : Bool

-- the same queue and identifier
abbrev pub is_place : ℕ → ℕ → ℕ → ℕ → Bool
is_place q cid p id = (q == p) && (cid == id)

-- the number that a table has for a queue and identifier is that of the last submission there
abbrev pub IsLatest : List (Row ℕ) → List DraftContents → Type 0
IsLatest rows drafts = (q cid number : ℕ) → value_at rows q cid ≡ Some number → last_place q cid drafts ≡ Some number

-- what a table has is so, where there is one
abbrev pub IsLatestIfAny : Option (TableOf ℕ) → List DraftContents → Type 0
IsLatestIfAny None drafts = Unit {0}
IsLatestIfAny (Some table) drafts = IsLatest table.rows drafts
