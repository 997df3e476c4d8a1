use Rattle.std.proofs.Common.{sym, ap, ◌==◌}
use Rattle.slot_table.proofs.Slots.{length-rows}
use Rattle.slot_table.proofs.table.SlotTable.is_empty.Goals as goal

pub returns : goal.returns
returns g c = rw (← c.self.view_is) (ap (λ n. n == 0) (sym (length-rows c.self.invariant)))
