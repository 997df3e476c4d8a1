use Rattle.std.proofs.Common.{refl, ap}
use Rattle.step_core.{proofs.{Looks.touches_at, Steps.{agree_behind, reset_goes, step_from}}, specs.World.{WorldContents, sides_of}}
use Rattle.step_core.proofs.world.World.reset.Goals as goal

pub invariant_of-self : goal.invariant_of-self
invariant_of-self g c =
    let old = sides_of c.self.inside.host c.self.inside.controller c.self.inside.store.pages c.self.inside.trusted in
    (reset_goes old c.reset.new.self c.reset-2.new.self c.reset.new.store.pages c.self.invariant c.reset.ensures.host c.reset.ensures.pages c.reset.ensures.over c.reset-2.ensures).world

pub returns-clause-step : goal.returns-clause-step
returns-clause-step g c =
    let old = sides_of c.self.inside.host c.self.inside.controller c.self.inside.store.pages c.self.inside.trusted in
    step_from (reset_goes old c.reset.new.self c.reset-2.new.self c.reset.new.store.pages c.self.invariant c.reset.ensures.host c.reset.ensures.pages c.reset.ensures.over c.reset-2.ensures) (ap (λ (w : WorldContents). w.state) c.self.view_is)

pub returns-clause-recovers : goal.returns-clause-recovers
returns-clause-recovers g c =
    let old = sides_of c.self.inside.host c.self.inside.controller c.self.inside.store.pages c.self.inside.trusted in
    agree_behind (reset_goes old c.reset.new.self c.reset-2.new.self c.reset.new.store.pages c.self.invariant c.reset.ensures.host c.reset.ensures.pages c.reset.ensures.over c.reset-2.ensures) refl

pub returns-clause-touches : goal.returns-clause-touches
returns-clause-touches g c =
    rw (← c.self.view_is) (touches_at _ _ c.self.inside.store.unlisted c.reset.new.store.unlisted _ c.self.inside.store.touched c.reset.new.store.touched refl refl c.reset.ensures.touches)
