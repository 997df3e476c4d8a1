-- the reads that are left come after those so far
use Rattle.std.proofs.Common.{◌≡◌, ◌++◌, ◌+◌, ◌-◌, All}
use Rattle.load.specs.{Planning.IsInside, Rounds.reads_from}
use Rattle.load.proofs.plan.reads_of.Given as goal

abbrev pub invariant-loop-slot : goal.invariant-loop-slot
invariant-loop-slot l = record {
  reads : l.plan.items ++ reads_from l.generations l.slot (l.first + l.many - l.slot) ≡ reads_from l.generations l.first l.many;
  inside : All (IsInside l.fn.layout) l.plan.items;
}
