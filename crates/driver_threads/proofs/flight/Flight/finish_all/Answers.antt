-- Once nothing is in flight, each command ended as its receipt says.
use Rattle.std.{proofs.{Common.{rules, ◌≡◌, arith}, lemmas.Bool.Decides.nat_tests}, specs.VecDeque.deque_len}
use Rattle.driver_threads.proofs.UnderWay.{landed}
use Rattle.driver_threads.proofs.flight.Flight.finish_all.Goals as goal

pub returns-clause-agree : goal.returns-clause-agree
returns-clause-agree g c =
    let flight = c.loop-alloc.self in
    let none : deque_len flight.flying ≡ 0 = first_of (search rules, grind (arith, nat_tests)) in
    landed flight.seat.receipts flight.ends.items flight.flying.items (deque_len flight.flying) flight.flying.ok.0 none c.loop-alloc.invariant.under_way
