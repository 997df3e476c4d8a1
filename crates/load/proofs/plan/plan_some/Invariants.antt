-- the commands so far are those of the slots that came
use Rattle.std.proofs.Common.{◌≡◌, ◌+◌, ◌*◌, map, take, All}
use Rattle.load.specs.Planning.{IsInside, planned_at, slots_of}
use Rattle.load.proofs.plan.plan_some.Given as goal

abbrev pub invariant-loop-slot : goal.invariant-loop-slot
invariant-loop-slot l = record {
  slots : slots_of l.plan.items ≡ map (λ slot. l.submitter * l.fn.layout.slots + slot) (take l.slot-index l.slot-items);
  inside : All (IsInside l.fn.layout) l.plan.items;
  planned : All (λ p. p ≡ planned_at l.generations p.slot p.kind) l.plan.items;
}
