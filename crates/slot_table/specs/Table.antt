-- What a contract sees of a table whose slots are made at the opening.
use Rattle.std.specs.{Coded.{Coded, code_by, coded×, coded_ℕ, coded_list}, Prelude.{ℕ, ◌<◌, List, [], ◌∷◌, refl}}
use Rattle.slot_table.specs.Rows.{Row, row_code, with_last}

-- how many queues there are, how many slots each has, and the rows in the order in which they were put
pub record TableOf (R : Type 0) : Type 0 where
  pub queues : ℕ
  pub places : ℕ
  pub rows : List (Row R)

-- a table is stored as the tuple of its fields
abbrev pub table_code : {R : Type 0} → Coded R → Coded (TableOf R)
table_code {R} code =
    code_by
    (ℕ × (ℕ × List (Row R)))
    (coded× coded_ℕ (coded× coded_ℕ (coded_list (row_code code))))
    (λ t. (t.queues, (t.places, t.rows)))
    (λ p. record { queues = p.0; places = p.1.0; rows = p.1.1 })
    (λ _. refl)

module _ {R : Type 0} where
  -- the table has this slot
  pub record IsPlace (table : TableOf R) (q cid : ℕ) : Type 0 where
    pub queue : q < table.queues
    pub identifier : cid < table.places

  -- the table with one row more, after the others
  abbrev pub with_row : TableOf R → ℕ → ℕ → R → TableOf R
  with_row table q cid value = record table { rows = with_last table.rows q cid value }

  -- each row is in one of the given slots of one of the given queues
  abbrev pub AreInside : ℕ → ℕ → List (Row R) → Type 0
  AreInside queues places [] = Unit {0}
  AreInside queues places (row ∷ rows) =
      (row.q < queues) × (row.cid < places) × AreInside queues places rows
