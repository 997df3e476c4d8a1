use Rattle.slot_table.proofs.Linked.{first-rows}
use Rattle.slot_table.proofs.linked_table.LinkedTable.first.Goals as goal

pub returns : goal.returns
returns g c = rw (← c.self.view_is) (first-rows _ _ c.self.invariant)
