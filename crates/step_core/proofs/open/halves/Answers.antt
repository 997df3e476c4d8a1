use Rattle.std.proofs.Common.{ℕ, ◌+◌, ◌*◌, ◌∙◌, ap}
use Rattle.step_core.proofs.Steps.{next_halves}
use Rattle.step_core.proofs.open.halves.Goals as goal

pub loop-q-preserved : goal.loop-q-preserved
loop-q-preserved c = (
  next_halves c.args.entries c.loop-q.q _ _ _ c.loop-q.halves.items c.push.new.self.items c.half_pages-submission.ensures c.half_pages-completion.ensures
      (ap (λ (q : ℕ). q * (c.half_pages-submission.result + c.half_pages-completion.result)) c.from.ensures) c.loop-q.invariant.0 c.push.ensures.items,
  c.push.ensures.len ∙ ap (λ (n : ℕ). n + 1) c.loop-q.invariant.1,
)
