use Rattle.std.proofs.Common.{◌∙◌}
use Rattle.slot_table.proofs.Slots.{first_after}
use Rattle.slot_table.proofs.table.SlotTable.first.Goals as goal

pub place_of-requires : goal.place_of-requires
place_of-requires g c = rw (← c.self.view_is) (first_after c.self.invariant _ c.index.ensures).0

pub returns : goal.returns
returns g c = rw (← c.self.view_is) (rw (← c.self.view_is) at c.place_of.ensures ∙ (first_after c.self.invariant _ c.index.ensures).1)
