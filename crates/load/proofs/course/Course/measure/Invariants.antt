-- all stays but what was measured
use Rattle.std.proofs.Common.{◌≡◌}
use Rattle.load.proofs.course.Course.measure.Given as goal

abbrev pub invariant-loop-plan : goal.invariant-loop-plan
invariant-loop-plan l = record {
  next : (goal.iterator-loop-plan).can_next l.plan-iterator;
  finite : (goal.iterator-loop-plan).is_finite l.plan-iterator;
  layout : l.self.layout ≡ l.fn.self.layout;
  seed : l.self.seed ≡ l.fn.self.seed;
  queues : l.self.queues ≡ l.fn.self.queues;
  round : l.self.round ≡ l.fn.self.round;
  content : l.self.content ≡ l.fn.self.content;
  generations : l.self.generations ≡ l.fn.self.generations;
  tally : l.self.tally ≡ l.fn.self.tally;
}
