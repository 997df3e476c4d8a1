-- How a table threads its list through the slots. No public clause cites this module.
use Rattle.std.specs.Prelude.{◌≡◌, ◌≢◌, ℕ, zero, suc, ◌+◌, ◌*◌, ◌/◌, ◌%◌, ◌<◌, ◌≤◌, ◌==◌, if◌then◌else◌, List, [], ◌∷◌, length, Option, Some, None, is_some}
use Rattle.std.specs.Prelude.{count_by, slice_index_or}
use Rattle.slot_table.specs.{Chains.{Threads, rows_of as rows_at}, Rows.Row, declared.link.Link.Link}

-- the slot after this one
abbrev pub after_of : List Link → ℕ → ℕ
after_of links i = (slice_index_or links i (record { before = 0; after = 0 })).after

-- the slot before this one
abbrev pub before_of : List Link → ℕ → ℕ
before_of links i = (slice_index_or links i (record { before = 0; after = 0 })).before

-- the second slot now follows the first, and no other link changed
pub record Rejoins (old new : List Link) (x y : ℕ) : Type 0 where
  pub after : after_of new x ≡ y
  pub before : before_of new y ≡ x
  pub other_after : (k : ℕ) → k ≢ x → after_of new k ≡ after_of old k
  pub other_before : (k : ℕ) → k ≢ y → before_of new k ≡ before_of old k
  pub as_long : length new ≡ length old

-- the slots starting at this one, before the end, at most this many
abbrev pub walk : List Link → ℕ → ℕ → ℕ → List ℕ
walk links end at zero = []
walk links end at (suc most) =
    if at == end then [] else at ∷ walk links end (after_of links at) most

-- the queue and the identifier of a slot
abbrev pub split : ℕ → ℕ → ℕ × ℕ
split places i = (i / places, i % places)

-- the same but for the end
abbrev pub place_of : ℕ → ℕ → ℕ → Option (ℕ × ℕ)
place_of places end i = if i == end then None else Some (split places i)

module _ {R : Type 0} where
  -- the record in a slot
  abbrev pub record_at : List (Option R) → ℕ → Option R
  record_at records i = slice_index_or records i None

  -- the rows of these slots
  abbrev pub rows_of : ℕ → List (Option R) → List ℕ → List (Row R)
  rows_of places records is = rows_at (split places) (record_at records) is

  -- the links lead through the slots that have a record, each once
  pub record IsThreaded (queues places len : ℕ) (records : List (Option R)) (links : List Link) : Type 0 where
    pub few_queues : queues ≤ 65536
    pub few_places : places < 65536
    pub all_places : length records ≡ queues * places
    pub all_links : length links ≡ length records + 1
    pub thread : Threads (λ i. i) (after_of links) (before_of links) (record_at records) (length records) len
    pub occupied : count_by is_some records ≡ len
