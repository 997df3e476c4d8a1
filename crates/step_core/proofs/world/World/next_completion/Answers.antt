use Rattle.std.proofs.Common.{arith, refl, length, ◌+◌}
use Rattle.step_core.{proofs.Looks.{looks_none, looks_on, looks_fewer, fails-more, no-completions}, specs.Looks.has_completion}
use Rattle.step_core.proofs.world.World.next_completion.Goals as goal

pub loop-q-init : goal.loop-q-init
loop-q-init g c = (refl, λ k below. absurd (omega (arith, below)), looks_none c.args.self.now.touches)

pub loop-q-preserved : goal.loop-q-preserved
loop-q-preserved g c =
    let kept = fails-more has_completion c.args.self.now.state c.loop-q.self.state c.has_completion.new.self.state c.loop-q.q c.has_completion.result (c.loop-q.invariant.0, c.loop-q.invariant.1) c.has_completion.ensures.same c.has_completion.ensures.answer c.if-has_completion.false in
    (kept.0, kept.1, looks_on c.loop-q.q 1 c.args.self.now.touches c.loop-q.self.touches c.has_completion.new.self.touches c.loop-q.invariant.2 c.has_completion.ensures.looks)

pub returns-clause-none : goal.returns-clause-none
returns-clause-none g c = no-completions c.args.self.now.state c.loop-q.q (omega arith) c.loop-q.invariant.1

pub returns-then-has_completion-clause-looks : goal.returns-then-has_completion-clause-looks
returns-then-has_completion-clause-looks g c =
    looks_fewer (c.loop-q.q + 1) (length c.args.self.now.state.host.queues) c.args.self.now.touches c.has_completion.new.self.touches (omega arith)
    (looks_on c.loop-q.q 1 c.args.self.now.touches c.loop-q.self.touches c.has_completion.new.self.touches c.loop-q.invariant.2 c.has_completion.ensures.looks)
