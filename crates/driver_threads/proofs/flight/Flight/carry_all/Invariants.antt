-- each job so far has its end, or is in flight
use Rattle.std.{proofs.Common.{◌≡◌, ◌+◌, [], vec_len, length}, specs.{Vec.Iter.into_iter_len, VecDeque.{deque_len, deque_capacity}}}
use Rattle.driver_threads.specs.{Ends.IsUnderWay, JobSteps.Carries}
use Rattle.driver_threads.proofs.flight.Flight.carry_all.Given as goal

abbrev pub invariant-loop-job : goal.invariant-loop-job
invariant-loop-job g l = record {
  under_way : IsUnderWay l.self.seat.receipts l.self.ends.items l.self.flying.items;
  all : vec_len l.self.ends + deque_len l.self.flying ≡ vec_len l.initial.self.ends + length l.yielded;
  left : length l.yielded + into_iter_len l.job-iterator ≡ vec_len l.fn.jobs;
  carries : Carries g.D.Data.bytes g.D.Data.keeps g.L.LogBrand.opening l.initial.self.seat l.initial.self.ends.items l.initial.self.flying.items [] → Carries g.D.Data.bytes g.D.Data.keeps g.L.LogBrand.opening l.self.seat l.self.ends.items l.self.flying.items l.yielded;
  places : deque_capacity l.self.flying ≡ deque_capacity l.initial.self.flying;
}
