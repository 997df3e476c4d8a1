-- What a table ends as, where a `&mut` to one of its records is returned.
use Rattle.std.specs.{Borrow.{Lends, LendsIf, Fml, RattleType, MutBor}, Prelude.{ℕ, List, Option, Some}, declared.alloc.Allocator.Ghosts}
use Rattle.slot_table.specs.{Rows.{with_value, Row}, Table.TableOf, contracts.{linked_table.LinkedTable.the_row as linked_row, table.SlotTable.the_row}}
use Rattle.std.specs.contracts.option.Option as std_option

-- the slot ends with the last record written through r
abbrev pub lends_content : (R : RattleType) → MutBor (Option R.Denot) → MutBor R.Denot → Fml
lends_content R slot r = Lends (std_option.the_row R) R slot r (λ value. Some value)

module _ (R A : RattleType) (alloc : Ghosts A.Denot) (s : MutBor (TableOf R.Denot)) (q cid : ℕ) where
  -- once the borrow ends, the row of the slot has the last record written through r
  abbrev pub lends_record : MutBor R.Denot → Fml
  lends_record r =
      Lends (the_row R A alloc) R s r (λ value. record s.now { rows = with_value s.now.rows q cid value })

  -- the same where r is a reference, and at `None` the table stays as it is
  abbrev pub lends_get : Option (MutBor R.Denot) → Fml
  lends_get r =
      LendsIf (the_row R A alloc) R s r (λ value. record s.now { rows = with_value s.now.rows q cid value }) s.now

module _ (R A : RattleType) (alloc : Ghosts A.Denot) (s : MutBor (List (Row R.Denot))) (q cid : ℕ) where
  -- the same of a linked table
  abbrev pub lends_linked : Option (MutBor R.Denot) → Fml
  lends_linked r = LendsIf (linked_row R A alloc) R s r (λ value. with_value s.now q cid value) s.now
