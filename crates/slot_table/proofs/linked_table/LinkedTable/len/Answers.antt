use Rattle.std.proofs.Common.{sym, ◌∙◌}
use Rattle.slot_table.proofs.Linked.{length-rows, rows-distinct}
use Rattle.slot_table.proofs.linked_table.LinkedTable.len.Goals as goal

pub returns : goal.returns
returns g c = rw (← c.self.view_is) (record { count = c.len.ensures.len ∙ sym (length-rows _ _ c.self.invariant); distinct = rows-distinct _ _ c.self.invariant })
