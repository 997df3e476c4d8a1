use Rattle.std.proofs.Common.{refl, ap}
use Rattle.step_core.{proofs.{Looks.touches_at, Steps.{silent_goes, step_from}}, specs.{Replies.send_reply, World.{WorldContents, sides_of}}}
use Rattle.machine_model.specs.Events as events
use Rattle.step_core.proofs.world.World.create_cq.Goals as goal

pub returns-clause-step : goal.returns-clause-step
returns-clause-step g c =
    let old = sides_of c.self.inside.host c.self.inside.controller c.self.inside.store.pages c.self.inside.trusted in
    step_from (silent_goes old (events.CreateCq c.args.q c.args.vector) (send_reply c.create_cq.result) c.create_cq.new.self c.create_cq.new.store.pages c.self.invariant refl refl refl c.create_cq.ensures.step c.create_cq.ensures.over) (ap (λ (w : WorldContents). w.state) c.self.view_is)

pub invariant_of-self : goal.invariant_of-self
invariant_of-self g c =
    let old = sides_of c.self.inside.host c.self.inside.controller c.self.inside.store.pages c.self.inside.trusted in
    (silent_goes old (events.CreateCq c.args.q c.args.vector) (send_reply c.create_cq.result) c.create_cq.new.self c.create_cq.new.store.pages c.self.invariant refl refl refl c.create_cq.ensures.step c.create_cq.ensures.over).world

pub returns-clause-touches : goal.returns-clause-touches
returns-clause-touches g c =
    rw (← c.self.view_is) (touches_at _ _ c.self.inside.store.unlisted c.create_cq.new.store.unlisted _ c.self.inside.store.touched c.create_cq.new.store.touched refl refl c.create_cq.ensures.touches)
