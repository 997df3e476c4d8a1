use Rattle.std.proofs.Common.{ap, ◌∙◌, length}
use Rattle.step_core.{proofs.{Looks.{told_all, walk_told}, Steps.{allowed, step_from, walk_goes}}, specs.{Replies.walk_reply, World.WorldContents}}
use Rattle.machine_model.specs.{Events.Reply, Touch.touched_by}
use Rattle.step_core.proofs.world.World.walk.Goals as goal

pub returns-clause-step : goal.returns-clause-step
returns-clause-step g c =
    step_from (walk_goes c.self.inside.host c.self.inside.controller c.walk-answer.new.self c.self.inside.store c.clear.new.self c.walk-answer.new.dma c.self.inside.trusted c.args.q c.args.cid c.walk-answer.result
    c.self.invariant c.clear.ensures.cleared c.walk-answer.ensures.sound c.pages.ensures.whole c.walk-answer.ensures.pool c.walk-answer.ensures.refusal c.walk-answer.ensures.refused c.walk-answer.ensures.walks c.touched_by.result (walk_reply c.walked.result) c.touched_by.ensures c.walked.ensures) (ap (λ (w : WorldContents). w.state) c.self.view_is)

pub returns-clause-touches : goal.returns-clause-touches
returns-clause-touches g c =
    allowed (walk_goes c.self.inside.host c.self.inside.controller c.walk-answer.new.self c.self.inside.store c.clear.new.self c.walk-answer.new.dma c.self.inside.trusted c.args.q c.args.cid c.walk-answer.result
    c.self.invariant c.clear.ensures.cleared c.walk-answer.ensures.sound c.pages.ensures.whole c.walk-answer.ensures.pool c.walk-answer.ensures.refusal c.walk-answer.ensures.refused c.walk-answer.ensures.walks c.touched_by.result (walk_reply c.walked.result) c.touched_by.ensures c.walked.ensures) (ap (λ (w : WorldContents). w.state) c.self.view_is) c.self.invariant

pub invariant_of-self : goal.invariant_of-self
invariant_of-self g c =
    (walk_goes c.self.inside.host c.self.inside.controller c.walk-answer.new.self c.self.inside.store c.clear.new.self c.walk-answer.new.dma c.self.inside.trusted c.args.q c.args.cid c.walk-answer.result
    c.self.invariant c.clear.ensures.cleared c.walk-answer.ensures.sound c.pages.ensures.whole c.walk-answer.ensures.pool c.walk-answer.ensures.refusal c.walk-answer.ensures.refused c.walk-answer.ensures.walks c.touched_by.result (walk_reply c.walked.result) c.touched_by.ensures c.walked.ensures).world

pub returns-clause-tells : goal.returns-clause-tells
returns-clause-tells g c =
    told_all c.self.inside.store.unlisted (length c.self.inside.store.touched) c.args.self.now.touches c.walk-answer.new.dma.unlisted c.walk-answer.new.dma.touched c.touched_by.result (walk_reply c.walked.result)
    (c.walk-answer.ensures.unlisted ∙ c.clear.ensures.unlisted) (ap (λ (w : WorldContents). w.touches) c.self.view_is) c.touched_by.ensures
    (ap (λ (r : Reply). touched_by r) c.walked.ensures ∙ walk_told c.walk-answer.result c.touched_by.result)
