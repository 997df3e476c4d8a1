-- Rows: records with the queue and the identifier of their slots, in the order in which they were put.
use Rattle.std.specs.Coded.{Coded, code_by, coded×, coded_ℕ}
use Rattle.std.specs.Prelude.{◌≡◌, ℕ, ◌&&◌, ◌==◌, Bool, false, if◌then◌else◌, List, [], ◌∷◌, ◌++◌, Option, Some, None, refl}

-- a record with the queue and the identifier of its slot
pub record Row (R : Type 0) : Type 0 where
  pub q : ℕ
  pub cid : ℕ
  pub value : R

-- a row is stored as the tuple of its fields
abbrev pub row_code : {R : Type 0} → Coded R → Coded (Row R)
row_code {R} code =
    code_by
    (ℕ × (ℕ × R))
    (coded× coded_ℕ (coded× coded_ℕ code))
    (λ row. (row.q, (row.cid, row.value)))
    (λ p. record { q = p.0; cid = p.1.0; value = p.1.1 })
    (λ _. refl)

module _ {R : Type 0} where
  -- the row is in this slot
  abbrev pub is_at : Row R → ℕ → ℕ → Bool
  is_at row q cid = (row.q == q) && (row.cid == cid)

  -- the record in this slot
  abbrev pub value_at : List (Row R) → ℕ → ℕ → Option R
  value_at [] q cid = None
  value_at (row ∷ rows) q cid = if is_at row q cid then Some row.value else value_at rows q cid

  -- the rows but for the one in this slot
  abbrev pub without : List (Row R) → ℕ → ℕ → List (Row R)
  without [] q cid = []
  without (row ∷ rows) q cid = if is_at row q cid then rows else row ∷ without rows q cid

  -- the rows with another record in this slot, if one is there
  abbrev pub with_value : List (Row R) → ℕ → ℕ → R → List (Row R)
  with_value [] q cid value = []
  with_value (row ∷ rows) q cid value =
      if is_at row q cid then record row { value = value } ∷ rows else row ∷ with_value rows q cid value

  -- the rows with one more, after the others
  abbrev pub with_last : List (Row R) → ℕ → ℕ → R → List (Row R)
  with_last rows q cid value = rows ++ record { q = q; cid = cid; value = value } ∷ []

  -- no row is in this slot
  abbrev pub NoneAt : List (Row R) → ℕ → ℕ → Type 0
  NoneAt [] q cid = Unit {0}
  NoneAt (row ∷ rows) q cid = (is_at row q cid ≡ false) × NoneAt rows q cid

  -- at most one row is in a slot
  abbrev pub IsDistinct : List (Row R) → Type 0
  IsDistinct [] = Unit {0}
  IsDistinct (row ∷ rows) = NoneAt rows row.q row.cid × IsDistinct rows

  -- the slot of the first row
  abbrev pub first_place : List (Row R) → Option (ℕ × ℕ)
  first_place [] = None
  first_place (row ∷ rows) = Some (row.q, row.cid)

  -- the slot of the row after the one in this slot
  abbrev pub place_behind : List (Row R) → ℕ → ℕ → Option (ℕ × ℕ)
  place_behind [] q cid = None
  place_behind (row ∷ rows) q cid =
      if is_at row q cid then first_place rows else place_behind rows q cid
