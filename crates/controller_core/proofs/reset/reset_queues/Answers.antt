use Rattle.std.proofs.Common.{◌∙◌, ◌≡◌, ℕ, length, slice_set, ap, arith}
use Rattle.controller_core.proofs.ResetQueues.{all_reset, first_reset, reset_next}
use Rattle.controller_core.proofs.reset.reset_queues.Goals as goal

pub loop-q-preserved : goal.loop-q-preserved
loop-q-preserved c =
    let old = c.args.queues.now in
    ap (slice_set c.loop-q.queues c.loop-q.q) c.reset.ensures
    ∙ reset_next c.loop-q.q old c.loop-q.queues c.index-queues-q.result c.loop-q.invariant (omega (arith, c.loop-q.auto.queues, c.loop-q-test.true))

pub returns : goal.returns
returns c =
    let old = c.args.queues.now in
    let past : c.loop-q.q ≡ length old = omega (arith, c.loop-q.auto.q-end, c.loop-q-test.false) in
    c.loop-q.invariant ∙ ap (λ (n : ℕ). first_reset 0 n old) past ∙ all_reset 0 old
