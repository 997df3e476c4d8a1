use Rattle.std.proofs.Common.{true≢false, sym, ◌∙◌}
use Rattle.driver_book.proofs.StandsInReceipts.{here_at, known_here, unknown_here}
use Rattle.driver_book.proofs.close.known_until.Goals.{then-is_submission+else-not-has_seat, else-is_submission}
use Rattle.driver_book.proofs.close.known_until.Goals as goal

pub returns-then-not-has_seat-clause-missing : goal.returns-then-not-has_seat-clause-missing
returns-then-not-has_seat-clause-missing g c =
    λ less. unknown_here c.args.log.now.entries c.args.seats.now c.loop-p.p c.at-entry.result less (here_at c.args.log.now.entries c.loop-p.p c.at-entry.result c.at-entry.ensures) (sym c.is_submission.ensures ∙ c.if-is_submission.true)
    (sym c.has_seat.ensures ∙ c.if-not-has_seat.true)

pub loop-p-preserved : goal.loop-p-preserved
loop-p-preserved g c =
    elim c.if-is_submission.branch [
      | then-is_submission+else-not-has_seat w ↦
          known_here c.args.log.now.entries c.args.seats.now c.loop-p.p c.at-entry.result (here_at c.args.log.now.entries c.loop-p.p c.at-entry.result c.at-entry.ensures) (λ is. sym w.has_seat.ensures ∙ w.if-not-has_seat.false) c.loop-p.invariant
      | else-is_submission w ↦
          known_here c.args.log.now.entries c.args.seats.now c.loop-p.p c.at-entry.result (here_at c.args.log.now.entries c.loop-p.p c.at-entry.result c.at-entry.ensures)
          (λ is. absurd (true≢false (sym is ∙ sym c.is_submission.ensures ∙ w.if-is_submission.false))) c.loop-p.invariant
    ]
