use Rattle.std.proofs.Common.{ap, ◌∙◌, arith}
use Rattle.driver_book.proofs.Tables.{is_made, is_none_made, within_on, within_none}
use Rattle.driver_book.specs.declared.two_passes.Bounds.{Bounds}
use Rattle.driver_book.proofs.two_passes.Counted.of_log.Goals.{in-Some, in-None}
use Rattle.driver_book.proofs.two_passes.Counted.of_log.Goals as goal

pub loop-place-preserved : goal.loop-place-preserved
loop-place-preserved g c =
    let log = c.args.log.now.entries in
    let p = c.loop-place.place in
    let old = c.loop-place.bounds in
    let new = c.match-go_on.bounds in
    let so_far = c.loop-place.invariant in
    elim c.match-go_on.branch [
      | in-Some w ↦
          let more = w.with-bounds.ensures in
          record {
            counted = c.go_on.ensures.counted;
            seats = c.go_on.ensures.seats ∙ so_far.seats;
            within = within_on old.queues old.identifiers new.queues new.identifiers log p w.in-Some.made (is_made log p w.in-Some.made w.in-Some.ensures.submission)
                (ap (λ (b : Bounds). b.queues) w.bounds-is ∙ more.queues) (ap (λ (b : Bounds). b.identifiers) w.bounds-is ∙ more.identifiers) so_far.within;
            few_queues = omega (arith, ap (λ (b : Bounds). b.queues) w.bounds-is, more.few_queues);
            few_identifiers = omega (arith, ap (λ (b : Bounds). b.identifiers) w.bounds-is, more.few_identifiers);
          }
      | in-None w ↦ record {
        counted = c.go_on.ensures.counted;
        seats = c.go_on.ensures.seats ∙ so_far.seats;
        within = rw w.bounds-is (within_none old.queues old.identifiers log p (is_none_made log p w.in-None.ensures.submission) so_far.within);
        few_queues = omega (arith, ap (λ (b : Bounds). b.queues) w.bounds-is, so_far.few_queues);
        few_identifiers = omega (arith, ap (λ (b : Bounds). b.identifiers) w.bounds-is, so_far.few_identifiers);
      }
    ]

pub returns-clause-below : goal.returns-clause-below
returns-clause-below g c =
    λ k s get. omega (arith, c.above_all.ensures k s get, c.loop-place.invariant.seats, c.in_ok-vec.ensures.len, c.in_ok-vec.field-0.ok.0)

pub returns-clause-within : goal.returns-clause-within
returns-clause-within g c = λ k before e get is. c.loop-place.invariant.within k (omega arith) e get is
