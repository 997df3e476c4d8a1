-- each command that is finished has its end
use Rattle.std.{proofs.Common.{◌≡◌, ◌+◌, ◌≤◌, vec_len}, specs.VecDeque.{deque_len, deque_capacity}}
use Rattle.driver_threads.specs.{Ends.IsUnderWay, JobSteps.CarriesOn}
use Rattle.driver_threads.proofs.flight.Flight.reserve.Given as goal

abbrev pub invariant-loop-alloc : goal.invariant-loop-alloc
invariant-loop-alloc g l = record {
  under_way : IsUnderWay l.self.seat.receipts l.self.ends.items l.self.flying.items;
  all : vec_len l.self.ends + deque_len l.self.flying ≡ vec_len l.initial.self.ends + deque_len l.initial.self.flying;
  fewer : deque_len l.self.flying ≤ deque_len l.initial.self.flying;
  carries : CarriesOn g.D.Data.bytes g.D.Data.keeps g.L.LogBrand.opening l.initial.self.seat l.initial.self.ends.items l.initial.self.flying.items l.self.seat l.self.ends.items l.self.flying.items;
  same : l.request ≡ l.fn.request;
  places : deque_capacity l.self.flying ≡ deque_capacity l.initial.self.flying;
}

abbrev pub decreases-loop-alloc : goal.decreases-loop-alloc
decreases-loop-alloc g l = deque_len l.self.flying
