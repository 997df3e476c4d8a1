use Rattle.std.proofs.Common.{◌≡◌, ◌+◌, Option, Some, None, drop, ap, sym, ◌∙◌}
use Rattle.entry_codec.specs.declared.status.Status.{Status}
use Rattle.driver_book.{proofs.StandsInReceipts.{held_at, passed_over}, specs.Close.{first_of, held, status_by}}
use Rattle.driver_book.proofs.close.status_behind.Goals as goal

pub loop-i-preserved-in_default : goal.loop-i-preserved-in_default
loop-i-preserved-in_default g c = sym (passed_over c.args.q c.args.cid c.args.log.now.entries c.loop-i.i c.in_default.ensures.other) ∙ c.loop-i.invariant

pub returns-in-Some-status_of_step : goal.returns-in-Some-status_of_step
returns-in-Some-status_of_step g c =
    let log = c.args.log.now.entries in
    let x = c.in-Some.entry in
    let told : status_by c.args.q c.args.cid x.step x.answer ≡ Some c.in-Some-status_of_step.status = sym c.status_of_step.ensures ∙ c.in-Some-status_of_step.is in
    sym (held_at c.args.q c.args.cid log c.loop-i.i x c.in-Some.ensures.ending ∙ ap (λ (o : Option Status). first_of o (held c.args.q c.args.cid (drop (c.loop-i.i + 1) log))) told) ∙ c.loop-i.invariant

pub loop-i-preserved : goal.loop-i-preserved
loop-i-preserved g c =
    let log = c.args.log.now.entries in
    let x = c.in-Some.entry in
    let told : status_by c.args.q c.args.cid x.step x.answer ≡ None = sym c.status_of_step.ensures ∙ c.in-None.is in
    sym (held_at c.args.q c.args.cid log c.loop-i.i x c.in-Some.ensures.ending ∙ ap (λ (o : Option Status). first_of o (held c.args.q c.args.cid (drop (c.loop-i.i + 1) log))) told) ∙ c.loop-i.invariant
