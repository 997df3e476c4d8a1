-- How links lead through slots, and the rows of slots. No public clause cites this module.
use Rattle.std.specs.{List.AllByRecursion, Prelude.{◌≡◌, ◌≢◌, ℕ, List, [], ◌∷◌, length, Option, Some, None, IsSome}}
use Rattle.slot_table.specs.Rows.{Row}

-- A link leads from a slot or the list's end to another: at is what stands for a slot there.
module _ {K P : Type 0} (at : K → P) where
  -- the slot is not among these
  abbrev pub Lacks : P → List K → Type 0
  Lacks p xs = AllByRecursion (λ x. at x ≢ p) xs

  abbrev pub AreDistinct : List K → Type 0
  AreDistinct [] = Unit {0}
  AreDistinct (x ∷ xs) = Lacks (at x) xs × AreDistinct xs

  module _ (after before : P → P) where
    -- the second slot follows the first, and both say so
    abbrev pub AreJoined : P → P → Type 0
    AreJoined x y = (after x ≡ y) × (before y ≡ x)

    -- starting at x the links lead through these slots to the end
    abbrev pub Leads : P → List K → P → Type 0
    Leads x [] end = AreJoined x end
    Leads x (y ∷ ys) end = AreJoined x (at y) × Leads (at y) ys end

module _ {K R : Type 0} where
  -- a slot's row before others, if the slot has a record
  abbrev pub row_before : (K → ℕ × ℕ) → K → Option R → List (Row R) → List (Row R)
  row_before place k None rows = rows
  row_before place k (Some value) rows = record { q = (place k).0; cid = (place k).1; value = value } ∷ rows

  -- the rows of these slots
  abbrev pub rows_of : (K → ℕ × ℕ) → (K → Option R) → List K → List (Row R)
  rows_of place value [] = []
  rows_of place value (k ∷ ks) = row_before place k (value k) (rows_of place value ks)

  -- each of these slots has a record
  abbrev pub AreHeld : (K → Option R) → List K → Type 0
  AreHeld value ks = AllByRecursion (λ k. IsSome (value k)) ks

-- the links lead through the slots that have a record, each once
pub record Threads {K P R : Type 0} (at : K → P) (after before : P → P) (value : K → Option R) (end : P) (count : ℕ) : Type 0 where
  pub order : List K
  pub leads : Leads at after before end order end
  pub distinct : AreDistinct at order
  pub apart : Lacks at end order
  pub held : AreHeld value order
  pub listed : (k : K) → IsSome (value k) → Lacks at (at k) order → ⊥
  pub counted : length order ≡ count
