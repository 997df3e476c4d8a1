use Rattle.std.proofs.Common.{◌≡◌, ◌-◌, ℕ, List, ap, ◌∙◌, arith}
use Rattle.driver_book.proofs.Tables.{is_made, is_none_made, counted_back, uncounted_back, all_next}
use Rattle.driver_book.specs.{Table.count_of}
use Rattle.driver_book.proofs.two_passes.Counted.go_back.Goals as goal

pub returns-in_err-made-clause-counted : goal.returns-in_err-made-clause-counted
returns-in_err-made-clause-counted g c =
    uncounted_back c.args.log.now.entries c.args.place c.args.self.now.number c.args.self.now.of_seats.items (is_none_made c.args.log.now.entries c.args.place c.in_err-made.ensures) c.requires.counted

pub overflow_sub-self : goal.overflow_sub-self
overflow_sub-self g c =
    let m = is_made c.args.log.now.entries c.args.place c.in_ok-made.made c.in_ok-made.ensures in
    omega (arith, c.requires.counted.all, all_next c.args.log.now.entries c.args.place c.in_ok-made.made m)

pub returns-clause-counted : goal.returns-clause-counted
returns-clause-counted g c =
    let m = is_made c.args.log.now.entries c.args.place c.in_ok-made.made c.in_ok-made.ensures in
    let is : c.count_at.result ≡ count_of c.args.self.now.of_seats.items c.in_ok-made.made.seat
    = c.count_at.ensures ∙ ap (λ (xs : List ℕ). count_of xs c.in_ok-made.made.seat) c.deref.ensures.value in
    rw (c.set_count.ensures.number, c.set_count.ensures.seats)
    (counted_back c.args.log.now.entries c.args.place c.args.self.now.number _ _ c.args.self.now.of_seats.items c.in_ok-made.made m c.requires.counted
    (omega (arith, c.requires.counted.all, all_next c.args.log.now.entries c.args.place c.in_ok-made.made m)) (c.saturating_sub-count.ensures ∙ ap (λ (n : ℕ). n - 1) is))
