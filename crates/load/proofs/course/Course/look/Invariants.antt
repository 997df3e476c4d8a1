-- the submitters that are left are counted after those that came; the slots and what they held at first stay
use Rattle.std.{proofs.Common.{◌≡◌, map}, specs.{Iterator.Adapters.{zip_first, zip_second}, Slice.Iter.iter_rest}}
use Rattle.load.specs.{Rounds.all_noted, Tallies.{no_tally, tallies_from}}
use Rattle.load.proofs.course.Course.look.Given as goal

abbrev pub invariant-loop-plan : goal.invariant-loop-plan
invariant-loop-plan l = record {
  next : (goal.iterator-loop-plan).can_next l.plan-iterator;
  finite : (goal.iterator-loop-plan).is_finite l.plan-iterator;
  layout : l.self.layout ≡ l.layout;
  seed : l.self.seed ≡ l.fn.self.seed;
  queues : l.self.queues ≡ l.fn.self.queues;
  round : l.self.round ≡ l.fn.self.round;
  content : l.self.content ≡ l.fn.self.content;
  tally : l.self.tally ≡ l.fn.self.tally;
  noted :
      all_noted l.self.generations.items (map (λ plan. plan.items) (iter_rest (zip_first l.plan-iterator))) (map (λ list. list.items) (iter_rest (zip_second l.plan-iterator)))
      ≡ all_noted l.fn.self.generations.items (map (λ plan. plan.items) l.plans) l.ends;
  told :
      tallies_from l.tally (map (λ plan. plan.items) (iter_rest (zip_first l.plan-iterator)))
      (map (λ list. list.items) (iter_rest (zip_second l.plan-iterator)))
      ≡ tallies_from no_tally (map (λ plan. plan.items) l.plans) l.ends;
}
