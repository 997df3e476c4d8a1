use Rattle.std.proofs.{Common.{◌≡◌, true, false, arith, sym, ap, ◌∙◌}, lemmas.List.Sums.{count_by_more_yes, count_by_more_no}}
use Rattle.driver_book.{proofs.{StandsInReceipts.here_at, close.accepted_before.Goals.{then-is_submission, else-is_submission}}, specs.History.is_accepted}
use Rattle.driver_book.proofs.close.accepted_before.Goals as goal

pub loop-p-preserved : goal.loop-p-preserved
loop-p-preserved g c =
    let log = c.args.log.now.entries in
    let x = c.at.result in
    let here = here_at log c.loop-p.p x c.at.ensures in
    elim c.if-is_submission.branch [
      | then-is_submission w ↦
          let accepts : is_accepted x ≡ true = sym c.is_submission.ensures ∙ w.if-is_submission.true in
          w.number-is ∙ omega (arith, c.loop-p.invariant, count_by_more_yes is_accepted log c.loop-p.p x (omega arith) (ap is_accepted (sym here) ∙ accepts))
      | else-is_submission w ↦
          let isnt : is_accepted x ≡ false = sym c.is_submission.ensures ∙ w.if-is_submission.false in
          w.number-is ∙ omega (arith, c.loop-p.invariant, count_by_more_no is_accepted log c.loop-p.p x (omega arith) (ap is_accepted (sym here) ∙ isnt))
    ]
