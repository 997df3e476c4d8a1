use Rattle.std.proofs.Common.{◌≡◌, ◌+◌, ◌-◌, ℕ, length, sym, subst, ◌∙◌, arith}
use Rattle.driver_book.proofs.Tables.{is_made, is_none_made, made_within, within_at, stands_by, found_more, found_here, found_all, one_stands, none_stands, tells_made}
use Rattle.driver_book.specs.Table.{AreBelow, AreWithin, Tells}
use Rattle.driver_book.proofs.two_passes.first_behind.Goals as goal

pub does_stand-requires-clause-queue : goal.does_stand-requires-clause-queue
does_stand-requires-clause-queue g c =
    let log = c.args.log.now.entries in
    let p = c.loop-place.place - 1 in
    let within = made_within (length c.args.ends.retired) c.args.ends.identifiers log p c.in-Some.made (is_made log p c.in-Some.made c.in-Some.ensures.submission) c.requires.within in
    omega (arith, within.0, c.loop-place.invariant.queues)

pub does_stand-requires-clause-identifier : goal.does_stand-requires-clause-identifier
does_stand-requires-clause-identifier g c =
    let log = c.args.log.now.entries in
    let p = c.loop-place.place - 1 in
    let within = made_within (length c.args.ends.retired) c.args.ends.identifiers log p c.in-Some.made (is_made log p c.in-Some.made c.in-Some.ensures.submission) c.requires.within in
    omega (arith, within.1, c.loop-place.invariant.identifiers)

pub loop-place-preserved-then-not-does_stand : goal.loop-place-preserved-then-not-does_stand
loop-place-preserved-then-not-does_stand g c =
    let log = c.args.log.now.entries in
    let seats = c.args.seats.now in
    let p = c.loop-place.place - 1 in
    let so_far = c.loop-place.invariant in
    let s = c.in-Some.made in
    let m = is_made log p s c.in-Some.ensures.submission in
    let back : c.loop-place.place ≡ p + 1 = omega (arith, c.loop-place-test.true) in
    let tells : Tells c.loop-place.ends log (p + 1) = subst (λ (n : ℕ). Tells c.loop-place.ends log n) back so_far.tells in
    let counts = c.go_back.new.self.of_seats.items in
    let below : AreBelow seats (length counts) = subst (AreBelow seats) (sym (c.go_back.ensures.seats ∙ so_far.seats)) c.requires.below in
    let within : AreWithin (length c.loop-place.ends.retired) c.loop-place.ends.identifiers log (length log) = within_at c.args.ends c.loop-place.ends log so_far.queues so_far.identifiers c.requires.within in
    let fails = stands_by log p c.go_back.new.self.number counts c.loop-place.ends seats s m c.go_back.ensures.counted below within tells ∙ sym c.does_stand.ensures ∙ c.if-not-does_stand.true in
    record {
      counted = c.go_back.ensures.counted;
      seats = c.go_back.ensures.seats ∙ so_far.seats;
      tells = tells_made c.loop-place.ends log p s m tells;
      queues = so_far.queues;
      identifiers = so_far.identifiers;
      found = rw c.unwrap_or.ensures (found_here log seats p c.go_back.new.self.number s m c.requires.seated fails c.go_back.ensures.counted.all);
    }

pub loop-place-preserved-else-not-does_stand : goal.loop-place-preserved-else-not-does_stand
loop-place-preserved-else-not-does_stand g c =
    let log = c.args.log.now.entries in
    let seats = c.args.seats.now in
    let p = c.loop-place.place - 1 in
    let so_far = c.loop-place.invariant in
    let s = c.in-Some.made in
    let m = is_made log p s c.in-Some.ensures.submission in
    let back : c.loop-place.place ≡ p + 1 = omega (arith, c.loop-place-test.true) in
    let tells : Tells c.loop-place.ends log (p + 1) = subst (λ (n : ℕ). Tells c.loop-place.ends log n) back so_far.tells in
    let counts = c.go_back.new.self.of_seats.items in
    let below : AreBelow seats (length counts) = subst (AreBelow seats) (sym (c.go_back.ensures.seats ∙ so_far.seats)) c.requires.below in
    let within : AreWithin (length c.loop-place.ends.retired) c.loop-place.ends.identifiers log (length log) = within_at c.args.ends c.loop-place.ends log so_far.queues so_far.identifiers c.requires.within in
    let stands = stands_by log p c.go_back.new.self.number counts c.loop-place.ends seats s m c.go_back.ensures.counted below within tells ∙ sym c.does_stand.ensures ∙ c.if-not-does_stand.false in
    record {
      counted = c.go_back.ensures.counted;
      seats = c.go_back.ensures.seats ∙ so_far.seats;
      tells = tells_made c.loop-place.ends log p s m tells;
      queues = so_far.queues;
      identifiers = so_far.identifiers;
      found = found_more log seats p c.loop-place.found (one_stands log seats p s m stands) (rw back at so_far.found);
    }

pub loop-place-preserved : goal.loop-place-preserved
loop-place-preserved g c =
    let log = c.args.log.now.entries in
    let seats = c.args.seats.now in
    let p = c.loop-place.place - 1 in
    let so_far = c.loop-place.invariant in
    let back : c.loop-place.place ≡ p + 1 = omega (arith, c.loop-place-test.true) in
    record {
      counted = c.go_back.ensures.counted;
      seats = c.go_back.ensures.seats ∙ so_far.seats;
      tells = c.go_back-in-None.ensures.tells;
      queues = c.go_back-in-None.ensures.queues ∙ so_far.queues;
      identifiers = c.go_back-in-None.ensures.identifiers ∙ so_far.identifiers;
      found = found_more log seats p c.loop-place.found (none_stands log seats p (is_none_made log p c.in-None.ensures.submission)) (rw back at so_far.found);
    }

pub returns : goal.returns
returns g c = found_all c.args.log.now.entries c.args.seats.now c.loop-place.place c.loop-place.found (omega (arith, c.loop-place-test.false)) c.loop-place.invariant.found
