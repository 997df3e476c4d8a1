-- this many submitters have their reads, each of a slot
use Rattle.std.{proofs.Common.{◌≡◌, ◌<◌, ◌+◌, ◌*◌, ℕ, List, All, length, map, vec_len}, specs.Prelude.slice_index_or}
use Rattle.load.specs.{Planning.IsInside, Rounds.reads_from, declared.plan.Planned.Planned}
use Rattle.load.proofs.course.Course.plan_reads.Given as goal

abbrev pub invariant-loop-submitter : goal.invariant-loop-submitter
invariant-loop-submitter l = record {
  count : vec_len l.plans ≡ l.submitter;
  inside : All (λ plan. All (IsInside l.layout) plan.items) l.plans.items;
  each :
      (s : ℕ) (d : List Planned) → s < length (map (λ plan. plan.items) l.plans.items)
      → slice_index_or (map (λ plan. plan.items) l.plans.items) s d ≡ reads_from l.self.generations.items (s * l.layout.slots + l.begin) l.many;
}
