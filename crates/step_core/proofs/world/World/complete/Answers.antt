use Rattle.std.proofs.Common.{ap, ◌∙◌, length}
use Rattle.step_core.{proofs.{Looks.{told_all, complete_told}, Steps.{allowed, step_from, complete_goes}}, specs.{Replies.complete_reply, World.WorldContents}}
use Rattle.machine_model.specs.{Events.Reply, Touch.touched_by}
use Rattle.step_core.proofs.world.World.complete.Goals as goal

pub returns-clause-step : goal.returns-clause-step
returns-clause-step g c =
    step_from (complete_goes c.self.inside.host c.self.inside.controller c.complete-answer.new.self c.self.inside.store c.clear.new.self c.complete-answer.new.dma c.self.inside.trusted c.args.q c.args.cid c.complete-answer.result
    c.self.invariant c.clear.ensures.cleared c.complete-answer.ensures.sound c.pages.ensures.whole c.complete-answer.ensures.pool c.complete-answer.ensures.refusal c.complete-answer.ensures.refused c.complete-answer.ensures.completes c.touched_by.result (complete_reply c.completed.result) c.touched_by.ensures c.completed.ensures) (ap (λ (w : WorldContents). w.state) c.self.view_is)

pub returns-clause-touches : goal.returns-clause-touches
returns-clause-touches g c =
    allowed (complete_goes c.self.inside.host c.self.inside.controller c.complete-answer.new.self c.self.inside.store c.clear.new.self c.complete-answer.new.dma c.self.inside.trusted c.args.q c.args.cid c.complete-answer.result
    c.self.invariant c.clear.ensures.cleared c.complete-answer.ensures.sound c.pages.ensures.whole c.complete-answer.ensures.pool c.complete-answer.ensures.refusal c.complete-answer.ensures.refused c.complete-answer.ensures.completes c.touched_by.result (complete_reply c.completed.result) c.touched_by.ensures c.completed.ensures) (ap (λ (w : WorldContents). w.state) c.self.view_is) c.self.invariant

pub invariant_of-self : goal.invariant_of-self
invariant_of-self g c =
    (complete_goes c.self.inside.host c.self.inside.controller c.complete-answer.new.self c.self.inside.store c.clear.new.self c.complete-answer.new.dma c.self.inside.trusted c.args.q c.args.cid c.complete-answer.result
    c.self.invariant c.clear.ensures.cleared c.complete-answer.ensures.sound c.pages.ensures.whole c.complete-answer.ensures.pool c.complete-answer.ensures.refusal c.complete-answer.ensures.refused c.complete-answer.ensures.completes c.touched_by.result (complete_reply c.completed.result) c.touched_by.ensures c.completed.ensures).world

pub returns-clause-tells : goal.returns-clause-tells
returns-clause-tells g c =
    told_all c.self.inside.store.unlisted (length c.self.inside.store.touched) c.args.self.now.touches c.complete-answer.new.dma.unlisted c.complete-answer.new.dma.touched c.touched_by.result (complete_reply c.completed.result)
    (c.complete-answer.ensures.unlisted ∙ c.clear.ensures.unlisted) (ap (λ (w : WorldContents). w.touches) c.self.view_is) c.touched_by.ensures
    (ap (λ (r : Reply). touched_by r) c.completed.ensures ∙ complete_told c.complete-answer.result c.touched_by.result)
