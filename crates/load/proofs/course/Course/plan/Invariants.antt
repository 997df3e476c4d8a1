-- this many submitters have their plans; the slots and how often they were written stay
use Rattle.std.{proofs.Common.{All, ◌≡◌, ◌<◌, ℕ, List, length, map}, specs.Prelude.slice_index_or}
use Rattle.load.specs.{Course.share_of, Planning.{IsInside, IsPlanOf}, declared.plan.Planned.Planned}
use Rattle.load.proofs.course.Course.plan.Given as goal

abbrev pub invariant-loop-submitter : goal.invariant-loop-submitter
invariant-loop-submitter l = record {
  count : length l.plans.items ≡ l.submitter;
  each :
      (s : ℕ) (d : List Planned) → s < length (map (λ plan. plan.items) l.plans.items)
      → IsPlanOf l.layout l.fn.self.generations.items s (share_of l.commands l.layout.submitters s) (slice_index_or (map (λ plan. plan.items) l.plans.items) s d);
  inside : All (λ plan. All (IsInside l.self.layout) plan.items) l.plans.items;
  layout : l.self.layout ≡ l.layout;
  seed : l.self.seed ≡ l.fn.self.seed;
  queues : l.self.queues ≡ l.fn.self.queues;
  round : l.self.round ≡ l.fn.self.round;
  content : l.self.content ≡ l.fn.self.content;
  generations : l.self.generations ≡ l.fn.self.generations;
  tally : l.self.tally ≡ l.fn.self.tally;
}
