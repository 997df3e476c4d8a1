use Rattle.std.proofs.Common.{List, length, ap, sym, subst, ◌∙◌}
use Rattle.controller_core.{proofs.{Lists.{few_stay, length-change}, Managing.rung_kept}, specs.{Contents.IsController, Doorbells.with_tail}}
use Rattle.controller_core.specs.declared.queue.ControllerQueue.{ControllerQueue}
use Rattle.controller_core.proofs.controller.Controller.tail_doorbell.Goals as goal

pub invariant_of-self : goal.invariant_of-self
invariant_of-self g c = (
  subst (λ (queues : List ControllerQueue). IsController (record { queues = queues; commands = c.self.inside.commands.list; image = g.I.Blocks.bytes c.self.inside.image }))
      (sym c.hear_tail_of.ensures) (rung_kept _ c.args.q (with_tail c.args.value) c.self.invariant.0),
  c.self.invariant.1 ∙ sym (ap length c.hear_tail_of.ensures ∙ length-change c.args.q (with_tail c.args.value) c.self.inside.queues.items),
  few_stay _ _ (ap length c.hear_tail_of.ensures ∙ length-change c.args.q (with_tail c.args.value) c.self.inside.queues.items) c.self.invariant.2,
)
