use Rattle.std.proofs.Common.{◌≡◌, ◌+◌, ℕ, List, ap, ◌∙◌, arith}
use Rattle.driver_book.proofs.Tables.{is_made, is_none_made, counted_on, uncounted_on, count_few, counted_few}
use Rattle.driver_book.specs.{History.is_accepted, Table.count_of}
use Rattle.driver_book.proofs.two_passes.Counted.go_on.Goals as goal

pub returns-in_err-made-clause-counted : goal.returns-in_err-made-clause-counted
returns-in_err-made-clause-counted g c =
    uncounted_on c.args.log.now.entries c.args.place c.args.self.now.number c.args.self.now.of_seats.items (is_none_made c.args.log.now.entries c.args.place c.in_err-made.ensures) c.requires.counted

pub overflow_add-self : goal.overflow_add-self
overflow_add-self g c = omega (arith, c.requires.counted.all, c.requires.within, c.requires.few, count_few is_accepted c.args.log.now.entries c.args.place)

pub overflow_add-count : goal.overflow_add-count
overflow_add-count g c =
    let is : c.count_at-count.result ≡ count_of c.args.self.now.of_seats.items c.in_ok-made.made.seat
    = c.count_at-count.ensures ∙ ap (λ (xs : List ℕ). count_of xs c.in_ok-made.made.seat) c.deref.ensures.value in
    omega (arith, is, c.requires.within, c.requires.few, counted_few c.args.log.now.entries c.args.place c.args.self.now.number c.args.self.now.of_seats.items c.in_ok-made.made.seat c.requires.counted)

pub returns-clause-counted : goal.returns-clause-counted
returns-clause-counted g c =
    let is : c.count_at-count.result ≡ count_of c.args.self.now.of_seats.items c.in_ok-made.made.seat
    = c.count_at-count.ensures ∙ ap (λ (xs : List ℕ). count_of xs c.in_ok-made.made.seat) c.deref.ensures.value in
    rw (c.set_count.ensures.number, c.set_count.ensures.seats)
    (counted_on c.args.log.now.entries c.args.place c.args.self.now.number _ c.args.self.now.of_seats.items c.in_ok-made.made
    (is_made c.args.log.now.entries c.args.place c.in_ok-made.made c.in_ok-made.ensures) c.requires.counted (ap (λ (n : ℕ). n + 1) is))
