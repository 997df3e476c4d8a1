use Rattle.std.{proofs.Common.{◌≡◌, replicate, None}, specs.Vec.vec_capacity}
use Rattle.slot_table.proofs.table.SlotTable.open.Given as goal

abbrev pub invariant-loop : goal.invariant-loop
invariant-loop g l = (l.records.items ≡ replicate l.counter None) × (vec_capacity l.records ≡ l.end)
