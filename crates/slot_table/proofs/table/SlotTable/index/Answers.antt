use Rattle.std.proofs.Common.{arith}
use Rattle.slot_table.proofs.Slots.{rows-outside}
use Rattle.slot_table.proofs.table.SlotTable.index.Goals as goal

pub returns-then-from-self : goal.returns-then-from-self
returns-then-from-self g c = rw (← c.self.view_is) (rows-outside c.self.invariant c.args.q c.args.cid (λ p. absurd (omega (arith, p.0))))

pub returns-then-from-self-2 : goal.returns-then-from-self-2
returns-then-from-self-2 g c = rw (← c.self.view_is) (rows-outside c.self.invariant c.args.q c.args.cid (λ p. absurd (omega (arith, p.1))))
