use Rattle.std.proofs.Common.{ap, ◌∙◌, length}
use Rattle.step_core.{proofs.{Looks.{told_all, fetch_told}, Steps.{allowed, step_from, fetch_goes}}, specs.{Replies.fetch_reply, World.WorldContents}}
use Rattle.machine_model.specs.{Events.Reply, Touch.touched_by}
use Rattle.step_core.proofs.world.World.fetch.Goals as goal

pub returns-clause-step : goal.returns-clause-step
returns-clause-step g c =
    step_from (fetch_goes c.self.inside.host c.self.inside.controller c.fetch-answer.new.self c.self.inside.store c.clear.new.self c.fetch-answer.new.dma c.self.inside.trusted c.args.q c.fetch-answer.result
    c.self.invariant c.clear.ensures.cleared c.fetch-answer.ensures.sound c.pages.ensures.whole c.fetch-answer.ensures.pool c.fetch-answer.ensures.fetches c.touched_by.result (fetch_reply c.fetched.result) c.touched_by.ensures c.fetched.ensures) (ap (λ (w : WorldContents). w.state) c.self.view_is)

pub returns-clause-touches : goal.returns-clause-touches
returns-clause-touches g c =
    allowed (fetch_goes c.self.inside.host c.self.inside.controller c.fetch-answer.new.self c.self.inside.store c.clear.new.self c.fetch-answer.new.dma c.self.inside.trusted c.args.q c.fetch-answer.result
    c.self.invariant c.clear.ensures.cleared c.fetch-answer.ensures.sound c.pages.ensures.whole c.fetch-answer.ensures.pool c.fetch-answer.ensures.fetches c.touched_by.result (fetch_reply c.fetched.result) c.touched_by.ensures c.fetched.ensures) (ap (λ (w : WorldContents). w.state) c.self.view_is) c.self.invariant

pub invariant_of-self : goal.invariant_of-self
invariant_of-self g c =
    (fetch_goes c.self.inside.host c.self.inside.controller c.fetch-answer.new.self c.self.inside.store c.clear.new.self c.fetch-answer.new.dma c.self.inside.trusted c.args.q c.fetch-answer.result
    c.self.invariant c.clear.ensures.cleared c.fetch-answer.ensures.sound c.pages.ensures.whole c.fetch-answer.ensures.pool c.fetch-answer.ensures.fetches c.touched_by.result (fetch_reply c.fetched.result) c.touched_by.ensures c.fetched.ensures).world

pub returns-clause-tells : goal.returns-clause-tells
returns-clause-tells g c =
    told_all c.self.inside.store.unlisted (length c.self.inside.store.touched) c.args.self.now.touches c.fetch-answer.new.dma.unlisted c.fetch-answer.new.dma.touched c.touched_by.result (fetch_reply c.fetched.result)
    (c.fetch-answer.ensures.unlisted ∙ c.clear.ensures.unlisted) (ap (λ (w : WorldContents). w.touches) c.self.view_is) c.touched_by.ensures
    (ap (λ (r : Reply). touched_by r) c.fetched.ensures ∙ fetch_told c.fetch-answer.result c.touched_by.result)
