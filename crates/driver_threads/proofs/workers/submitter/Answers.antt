-- Where each job has its end, none was cut off.
use Rattle.std.proofs.Common.{ap}
use Rattle.driver_book.specs.State.{SeatContents}
use Rattle.driver_threads.proofs.{Carried.carries_none, UnderWay.all_carried}
use Rattle.driver_threads.proofs.workers.submitter.Goals as goal

pub returns-clause-agree : goal.returns-clause-agree
returns-clause-agree g c =
    rw (c.land-seat.ensures.ends, c.land-seat.ensures.seat)
    (all_carried c.carry_all-carried.result _ _ _ c.new-ends.ensures.len c.carry_all-carried.ensures.fewer c.carry_all-carried.ensures.agree)

pub returns-clause-went : goal.returns-clause-went
returns-clause-went g c =
    rw (c.land-seat.ensures.ends, c.land-seat.ensures.seat)
    (λ same. all_carried c.carry_all-carried.result _ _ _ c.new-ends.ensures.len c.carry_all-carried.ensures.fewer c.carry_all-carried.ensures.went same (carries_none g.D.Data.bytes g.D.Data.keeps _ _ _ _ (ap (λ (s : SeatContents). s.receipts) c.in-Ok.ensures.seat.next) c.new-ends.ensures.items c.in-Ok-with_capacity.ensures.items))
