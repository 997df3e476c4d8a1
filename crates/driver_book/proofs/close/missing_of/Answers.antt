use Rattle.std.proofs.Common.{Some, arith, sym, ◌∙◌}
use Rattle.driver_book.proofs.StandsInReceipts.{here_at, pass_own, pass_other, pass_none, place_of_own, missing_here}
use Rattle.driver_book.proofs.close.missing_of.Goals.{then-is_submission, then-is_same_seat+else-not-does_stand, else-is_same_seat, else-is_submission}
use Rattle.driver_book.proofs.close.missing_of.Goals as goal

pub does_stand-requires-clause-place : goal.does_stand-requires-clause-place
does_stand-requires-clause-place g c =
    place_of_own c.args.log.now.entries c.args.seats.now (Some c.args.seat) c.loop-p.p c.loop-p.number c.loop-p.place c.at-entry.result.seat (sym c.is_same_seat.ensures ∙ c.if-is_same_seat.true) c.loop-p.invariant

pub returns-then-not-does_stand-clause-missing : goal.returns-then-not-does_stand-clause-missing
returns-then-not-does_stand-clause-missing g c =
    missing_here c.args.log.now.entries c.args.seats.now c.loop-p.p c.at-entry.result (omega arith) (here_at c.args.log.now.entries c.loop-p.p c.at-entry.result c.at-entry.ensures) (sym c.is_submission.ensures ∙ c.if-is_submission.true)
    (sym c.does_stand.ensures ∙ c.if-not-does_stand.true)

pub loop-p-preserved : goal.loop-p-preserved
loop-p-preserved g c =
    let log = c.args.log.now.entries in
    let seats = c.args.seats.now in
    let p = c.loop-p.p in
    let x = c.at-entry.result in
    let here = (here_at c.args.log.now.entries c.loop-p.p c.at-entry.result c.at-entry.ensures) in
    elim c.if-is_submission.branch [
      | then-is_submission w ↦ elim w.if-is_same_seat.branch [
        | then-is_same_seat+else-not-does_stand w' ↦
            rw (w.number-is, w.place-is, w'.place-is)
            (pass_own log seats (Some c.args.seat) p c.loop-p.number c.loop-p.place x (omega arith) here (sym c.is_submission.ensures ∙ w.if-is_submission.true) (sym w.is_same_seat.ensures ∙ w'.if-is_same_seat.true)
            (sym w'.does_stand.ensures ∙ w'.if-not-does_stand.false) c.loop-p.invariant)
        | else-is_same_seat w' ↦
            rw (w.number-is, w.place-is, w'.place-is)
            (pass_other log seats (Some c.args.seat) p c.loop-p.number c.loop-p.place x (omega arith) here (sym c.is_submission.ensures ∙ w.if-is_submission.true) (sym w.is_same_seat.ensures ∙ w'.if-is_same_seat.false) c.loop-p.invariant)
      ]
      | else-is_submission w ↦
          rw (w.number-is, w.place-is)
          (pass_none log seats (Some c.args.seat) p c.loop-p.number c.loop-p.place x (omega arith) here (sym c.is_submission.ensures ∙ w.if-is_submission.false) c.loop-p.invariant)
    ]
