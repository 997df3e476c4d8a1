use Rattle.controller_core.{proofs.Counting.{all_stuck, stuck_named, past_names, no_more_touches}, specs.Looks.IsStuck}
use Rattle.std.proofs.Common.{◌≤◌, ◌∙◌, sym, length, subst, arith}
use Rattle.page_memory.specs.Memory.{Memory}
use Rattle.controller_core.proofs.controller.Controller.next_of_commands.Goals as goal

pub returns-in_default-clause-none : goal.returns-in_default-clause-none
returns-in_default-clause-none g c =
    all_stuck c.args.self.now (g.D.Dma.memory c.args.dma.now) c.loop.counter (past_names c.args.self.now.commands c.loop.counter (sym c.loop.invariant.2 ∙ c.in_default.is)) c.loop.invariant.3

pub loop-preserved : goal.loop-preserved
loop-preserved g c =
    let name = sym c.loop.invariant.2 ∙ c.in-Some.is in (
      c.step_of.ensures.memory ∙ c.loop.invariant.0,
      c.step_of.ensures.pool ∙ c.loop.invariant.1,
      c.next_command-name.ensures c.loop.counter name,
      stuck_named c.args.self.now (g.D.Dma.memory c.args.dma.now) c.loop.counter c.in-Some.q c.in-Some.cid c.loop.invariant.3 name (subst (λ (m : Memory). IsStuck c.args.self.now m c.in-Some.q c.in-Some.cid) c.loop.invariant.0 c.in-None.ensures.none),
      no_more_touches _ _ _ _ _ _ c.loop.invariant.4 (rw c.in-None.is at c.step_of.ensures.touches),
    )

pub returns-clause-none : goal.returns-clause-none
returns-clause-none g c =
    let past : length c.args.self.now.commands ≤ c.loop.counter = omega (arith, c.command_count-end.ensures, c.loop-test.false) in
    all_stuck c.args.self.now (g.D.Dma.memory c.args.dma.now) c.loop.counter past c.loop.invariant.3
