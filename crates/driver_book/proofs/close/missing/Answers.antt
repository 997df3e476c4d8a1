use Rattle.std.proofs.Common.{◌≡◌, Some, take, arith, rules, subst}
use Rattle.driver_book.proofs.{StandsInReceipts.{here_at, all_before, first_missing, search_all, search_less}, close.missing.Goals.{in-Some, in-None}}
use Rattle.driver_book.specs.{History.accepted, Passes.StandOf, State.SeatContents}
use Rattle.driver_book.proofs.close.missing.Goals as goal

pub returns-then-end-len : goal.returns-then-end-len
returns-then-end-len g c =
    λ p below. all_before c.args.log.now.entries c.args.seats.now c.loop-i.i c.loop-i.end (omega arith) c.loop-i.invariant p (omega arith)

pub returns : goal.returns
returns g c =
    let counted : c.accepted_before-number.result ≡ accepted (take c.loop-i.end c.args.log.now.entries) = search rules in
    rw c.unwrap_or.ensures
    (first_missing c.args.log.now.entries c.args.seats.now c.loop-i.i c.loop-i.end c.accepted_before-number.result c.at.result (omega arith) (omega (arith, c.loop-i.invariant.within)) (here_at c.args.log.now.entries c.loop-i.end c.at.result c.at.ensures) c.requires counted c.loop-i.invariant)

pub loop-i-preserved : goal.loop-i-preserved
loop-i-preserved g c =
    let log = c.args.log.now.entries in
    let seats = c.args.seats.now in
    let s = c.index-seats-i.result in
    elim c.match-missing_of.branch [
      | in-Some w ↦
          rw w.end-is
          (search_less log seats c.loop-i.i c.loop-i.end w.in-Some.p s c.index-seats-i.is w.in-Some.ensures.within
          (subst (λ (t : SeatContents). StandOf (Some t.number) log seats w.in-Some.p) c.holder.view_is w.in-Some.ensures.before) w.in-Some.ensures.missing c.loop-i.invariant)
      | in-None w ↦
          rw w.end-is
          (search_all log seats c.loop-i.i c.loop-i.end s c.index-seats-i.is (subst (λ (t : SeatContents). StandOf (Some t.number) log seats c.loop-i.end) c.holder.view_is w.in-None.ensures.none) c.loop-i.invariant)
    ]
