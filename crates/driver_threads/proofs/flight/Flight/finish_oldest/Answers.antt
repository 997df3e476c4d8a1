-- The oldest command in flight ended as its receipt says.
use Rattle.std.proofs.Common.{◌≡◌, ℕ, ◌-◌, ◌∷◌, length, ap, ◌∙◌, arith, subst}
use Rattle.driver_threads.{proofs.{Carried.carries_ended, UnderWay.{in_flight_fit, oldest_is_open, one_ended}}, specs.{Ends.IsUnderWay, JobSteps.Carries}}
use Rattle.driver_threads.proofs.flight.Flight.finish_oldest.Goals as goal

pub overflow_sub-place : goal.overflow_sub-place
overflow_sub-place g c =
    let flight = c.args.self.now in
    let fits = in_flight_fit flight.seat.receipts flight.ends.items flight.flying.items c.requires in
    let long : c.len.result ≡ length flight.flying.items = c.len.ensures ∙ flight.flying.ok.0 in
    let all : length c.receipts.result.now ≡ length flight.seat.receipts = ap length c.receipts.ensures in
    omega (arith, fits, long, all)

pub finished-requires : goal.finished-requires
finished-requires g c =
    let flight = c.args.self.now in
    let oldest : flight.flying.items ≡ c.in-Some.oldest ∷ c.pop_front.new.self.items = c.in-Some.ensures.items in
    oldest_is_open flight.seat.receipts flight.ends.items c.in-Some.oldest c.pop_front.new.self.items
    (subst (IsUnderWay flight.seat.receipts flight.ends.items) oldest c.requires)

pub returns-clause-under_way : goal.returns-clause-under_way
returns-clause-under_way g c =
    let flight = c.args.self.now in
    let rest = c.pop_front.new.self.items in
    let oldest : flight.flying.items ≡ c.in-Some.oldest ∷ rest = c.in-Some.ensures.items in
    let long : c.len.result ≡ length (c.in-Some.oldest ∷ rest) = c.len.ensures ∙ flight.flying.ok.0 ∙ ap length oldest in
    let all : length c.receipts.result.now ≡ length flight.seat.receipts = ap length c.receipts.ensures in
    let at : length c.receipts.result.now - c.len.result ≡ length flight.seat.receipts - length (c.in-Some.oldest ∷ rest) =
    ap (λ (n : ℕ). length c.receipts.result.now - n) long ∙ ap (λ (n : ℕ). n - length (c.in-Some.oldest ∷ rest)) all in
    rw (c.push_reserved.ensures.items, c.reserve.ensures.items)
    (one_ended flight.seat.receipts c.finished.new.seat.receipts flight.ends.items c.in-Some.oldest rest _ c.in_ok-end.end
    (subst (IsUnderWay flight.seat.receipts flight.ends.items) oldest c.requires) at c.in_ok-end.ensures.settled)

pub returns-clause-carries : goal.returns-clause-carries
returns-clause-carries g c jobs carries =
    let flight = c.args.self.now in
    let rest = c.pop_front.new.self.items in
    let oldest : flight.flying.items ≡ c.in-Some.oldest ∷ rest = c.in-Some.ensures.items in
    let long : c.len.result ≡ length (c.in-Some.oldest ∷ rest) = c.len.ensures ∙ flight.flying.ok.0 ∙ ap length oldest in
    let all : length c.receipts.result.now ≡ length flight.seat.receipts = ap length c.receipts.ensures in
    let at : length c.receipts.result.now - c.len.result ≡ length flight.seat.receipts - length (c.in-Some.oldest ∷ rest) =
    ap (λ (n : ℕ). length c.receipts.result.now - n) long ∙ ap (λ (n : ℕ). n - length (c.in-Some.oldest ∷ rest)) all in
    rw (c.push_reserved.ensures.items, c.reserve.ensures.items)
    (carries_ended g.D.Data.bytes g.D.Data.keeps _ flight.seat c.finished.new.seat flight.ends.items c.in-Some.oldest rest jobs _ c.in_ok-end.end at c.in_ok-end.ensures.gives_up
    (subst (λ flying. Carries g.D.Data.bytes g.D.Data.keeps g.L.LogBrand.opening flight.seat flight.ends.items flying jobs) oldest carries))
