use Rattle.std.proofs.Common.{sym}
use Rattle.slot_table.proofs.Slots.{length-rows, rows-distinct, rows-inside}
use Rattle.slot_table.proofs.table.SlotTable.len.Goals as goal

pub returns : goal.returns
returns g c = rw (← c.self.view_is) (record { count = sym (length-rows c.self.invariant); distinct = rows-distinct c.self.invariant; inside = rows-inside c.self.invariant })
