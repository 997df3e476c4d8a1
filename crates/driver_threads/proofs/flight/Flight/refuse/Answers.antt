-- The refused job's end comes after those of the commands that were in flight.
use Rattle.driver_threads.proofs.{Carried.carries_refused, UnderWay.one_refused}
use Rattle.driver_threads.proofs.flight.Flight.refuse.Goals as goal

pub returns-clause-under_way : goal.returns-clause-under_way
returns-clause-under_way g c =
    let flight = c.finish_all.new.self in
    rw (c.push_reserved.ensures.items, c.reserve.ensures.items) (one_refused flight.seat.receipts flight.ends.items flight.flying.items c.args.why c.in_ok-finish_all.ensures.under_way)

pub returns-clause-carries : goal.returns-clause-carries
returns-clause-carries g c job refuses jobs carries =
    let flight = c.finish_all.new.self in
    rw (c.push_reserved.ensures.items, c.reserve.ensures.items)
    (carries_refused g.D.Data.bytes g.D.Data.keeps _ flight.seat flight.ends.items flight.flying.items _ jobs job c.args.why flight.flying.ok.0 c.in_ok-finish_all.ensures.none (c.in_ok-finish_all.ensures.carries jobs carries) refuses)
