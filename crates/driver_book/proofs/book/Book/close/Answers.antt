use Rattle.std.proofs.Common.{◌≡◌, refl, inl, inr, ◌<◌, ◌≤◌, length, vec_len, true, false, eqb-true, arith, ap, sym, ◌∙◌, subst}
use Rattle.driver_book.proofs.StandsInReceipts.{all_parts_back, closed_book, closes_book, missing_in, not_none, stand_in, wanted, enough_receipts}
use Rattle.driver_book.specs.{Close.{AllStand, RefusesClose, has_open, receipts_of}, History.{accepted, LeadsTo}, State.BookContents}
use Rattle.driver_book.specs.declared.report.CloseFault.TheVariants.{Missing, SeatOut, StillOut, Memory}
use Rattle.machine_model.specs.Claims.{counts_of}
use Rattle.driver_book.proofs.book.Book.close.Goals as goal

pub returns-clause-no_more : goal.returns-clause-no_more
returns-clause-no_more g c =
    let enough = enough_receipts c.self.inside.log.entries c.as_slice.result.now c.in_default.ensures in
    let log : accepted c.self.inside.log.entries ≡ accepted c.self.inside.log.entries = refl in
    let opened : accepted c.self.inside.log.entries ≡ accepted c.args.self.now.log = ap (λ s. accepted s.log) c.self.view_is in
    let seats : receipts_of c.as_slice.result.now ≡ receipts_of c.args.seats.items = ap receipts_of c.as_slice.ensures.value in
    let bound = c.audit.ensures.bound in
    let amount = c.take_in.ensures.amount in
    omega (arith, enough, log, seats, opened, bound, amount, c.self.invariant.counted)

pub returns-in-Some-clause-cause : goal.returns-in-Some-clause-cause
returns-in-Some-clause-cause g c =
    subst (λ (b : BookContents). RefusesClose (Missing c.in-Some.seat c.in-Some.number) b c.args.seats.items) c.self.view_is
    (missing_in c.in-Some.seat c.in-Some.number refl c.as_slice.ensures.value c.in-Some.ensures)

pub returns-then-len-from-clause-cause : goal.returns-then-len-from-clause-cause
returns-then-len-from-clause-cause g c =
    let long : length c.args.seats.items ≡ vec_len c.args.seats = ap length (sym c.as_slice.ensures.value) ∙ c.as_slice.ensures.len in
    subst (λ (b : BookContents). RefusesClose SeatOut b c.args.seats.items) c.self.view_is
    (stand_in refl c.as_slice.ensures.value c.in_default.ensures, omega (arith, long, c.if-len-from.true, c.len.ensures, c.from.ensures))

pub returns-then-any_open-clause-cause : goal.returns-then-any_open-clause-cause
returns-then-any_open-clause-cause g c =
    let long : length c.args.seats.items ≡ vec_len c.args.seats = ap length (sym c.as_slice.ensures.value) ∙ c.as_slice.ensures.len in
    let is_open : has_open c.args.seats.items ≡ true = ap has_open (sym c.as_slice-2.ensures.value) ∙ sym c.any_open.ensures ∙ c.if-any_open.true in
    subst (λ (b : BookContents). RefusesClose StillOut b c.args.seats.items) c.self.view_is
    (stand_in refl c.as_slice.ensures.value c.in_default.ensures, omega (arith, long, c.if-len-from.false, c.len.ensures, c.from.ensures), inl is_open)

pub returns-then-not-is_idle-clause-cause : goal.returns-then-not-is_idle-clause-cause
returns-then-not-is_idle-clause-cause g c =
    let long : length c.args.seats.items ≡ vec_len c.args.seats = ap length (sym c.as_slice.ensures.value) ∙ c.as_slice.ensures.len in
    subst (λ (b : BookContents). RefusesClose StillOut b c.args.seats.items) c.self.view_is
    (stand_in refl c.as_slice.ensures.value c.in_default.ensures, omega (arith, long, c.if-len-from.false, c.len.ensures, c.from.ensures), inr (not_none (length c.self.inside.world.state.host.records) (sym c.is_idle.ensures ∙ c.if-not-is_idle.true)))

pub returns-in_default-with_capacity-clause-cause : goal.returns-in_default-with_capacity-clause-cause
returns-in_default-with_capacity-clause-cause g c =
    let long : length c.args.seats.items ≡ vec_len c.args.seats = ap length (sym c.as_slice.ensures.value) ∙ c.as_slice.ensures.len in
    let shut : has_open c.args.seats.items ≡ false = ap has_open (sym c.as_slice-2.ensures.value) ∙ sym c.any_open.ensures ∙ c.if-any_open.false in
    let idle : length c.self.inside.world.state.host.records ≡ 0 = eqb-true (length c.self.inside.world.state.host.records) 0 (sym c.is_idle.ensures ∙ c.if-not-is_idle.false) in
    let some : 0 < c.len-2.result = wanted c.len-2.result c.with_capacity.result c.with_capacity.ensures.succeeds c.in_default-with_capacity.is in
    subst (λ (b : BookContents). RefusesClose Memory b c.args.seats.items) c.self.view_is
    (stand_in refl c.as_slice.ensures.value c.in_default.ensures, omega (arith, long, c.if-len-from.false, c.len.ensures, c.from.ensures), (shut, idle), omega (arith, long, some, c.len-2.ensures))

pub invariant_of-self : goal.invariant_of-self
invariant_of-self g c =
    closes_book c.self.invariant c.audit.ensures.total
    (c.audit.ensures.parts ∙ all_parts_back c.self.invariant (vec_len c.args.seats) c.take_in.new.rest.parts (omega (arith, c.if-len-from.false, c.len.ensures, c.from.ensures)) c.take_in.ensures.parts c.take_in.ensures.bound)

pub returns-clause-stand : goal.returns-clause-stand
returns-clause-stand g c =
    subst (λ (b : BookContents). AllStand b.log c.args.seats.items) c.self.view_is (stand_in refl c.as_slice.ensures.value c.in_default.ensures)

pub returns-clause-book : goal.returns-clause-book
returns-clause-book g c =
    let back = all_parts_back c.self.invariant (vec_len c.args.seats) c.take_in.new.rest.parts (omega (arith, c.if-len-from.false, c.len.ensures, c.from.ensures)) c.take_in.ensures.parts c.take_in.ensures.bound in
    closed_book c.self.view_is c.audit.new.share.amount (c.audit.ensures.amount ∙ c.audit.ensures.whole back ∙ sym c.self.invariant.counted)

pub returns-in-Some-clause-legal : goal.returns-in-Some-clause-legal
returns-in-Some-clause-legal g c = subst (λ (b : BookContents). LeadsTo b.opening b.log b.world) c.self.view_is c.self.invariant.legal

pub returns-then-len-from-clause-legal : goal.returns-then-len-from-clause-legal
returns-then-len-from-clause-legal g c = subst (λ (b : BookContents). LeadsTo b.opening b.log b.world) c.self.view_is c.self.invariant.legal

pub returns-then-any_open-clause-legal : goal.returns-then-any_open-clause-legal
returns-then-any_open-clause-legal g c = subst (λ (b : BookContents). LeadsTo b.opening b.log b.world) c.self.view_is c.self.invariant.legal

pub returns-then-not-is_idle-clause-legal : goal.returns-then-not-is_idle-clause-legal
returns-then-not-is_idle-clause-legal g c = subst (λ (b : BookContents). LeadsTo b.opening b.log b.world) c.self.view_is c.self.invariant.legal

pub returns-in_default-with_capacity-clause-legal : goal.returns-in_default-with_capacity-clause-legal
returns-in_default-with_capacity-clause-legal g c = subst (λ (b : BookContents). LeadsTo b.opening b.log b.world) c.self.view_is c.self.invariant.legal

pub returns-clause-opening : goal.returns-clause-opening
returns-clause-opening g c = sym (ap (λ (b : BookContents). b.opening) c.self.view_is)

pub returns-clause-legal : goal.returns-clause-legal
returns-clause-legal g c = subst (λ (b : BookContents). LeadsTo b.opening b.log b.world) c.self.view_is c.self.invariant.legal

pub returns-clause-all_seats : goal.returns-clause-all_seats
returns-clause-all_seats g c =
    let long : length c.args.seats.items ≡ vec_len c.args.seats = ap length (sym c.as_slice.ensures.value) ∙ c.as_slice.ensures.len in
    subst (λ (b : BookContents). b.out ≤ length c.args.seats.items) c.self.view_is (omega (arith, long, c.if-len-from.false, c.len.ensures, c.from.ensures))

pub returns-clause-done : goal.returns-clause-done
returns-clause-done g c =
    let idle : length c.self.inside.world.state.host.records ≡ 0 = eqb-true (length c.self.inside.world.state.host.records) 0 (sym c.is_idle.ensures ∙ c.if-not-is_idle.false) in
    (ap has_open (sym c.as_slice-2.ensures.value) ∙ sym c.any_open.ensures ∙ c.if-any_open.false, subst (λ (b : BookContents). length b.world.host.records ≡ 0) c.self.view_is idle)

pub returns-clause-report : goal.returns-clause-report
returns-clause-report g c = record {
  submissions = c.len-3.ensures ∙ c.self.invariant.numbered ∙ ap (λ (b : BookContents). accepted b.log) c.self.view_is;
  counts = c.counts.ensures.counts ∙ ap (λ (b : BookContents). counts_of b.world.host) c.self.view_is;
  receipts = c.of.ensures ∙ c.take_in.ensures.lists;
}
