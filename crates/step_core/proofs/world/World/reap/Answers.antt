use Rattle.std.{proofs.Common.{◌∙◌, refl, ap, sym, ℕ, Option}, specs.Option.option_map_or}
use Rattle.controller_core.specs.Doorbells.{head_rung}
use Rattle.step_core.{proofs.{Looks.touches_at, Steps.{reap_goes, step_from}}, specs.World.{WorldContents, sides_of}}
use Rattle.step_core.proofs.world.World.reap.Goals as goal

pub invariant_of-self-in-Some : goal.invariant_of-self-in-Some
invariant_of-self-in-Some g c =
    (reap_goes (sides_of c.self.inside.host c.self.inside.controller c.self.inside.store.pages c.self.inside.trusted) c.args.q c.in_ok-reap.reap.found c.in_ok-reap.reap.head c.reap.new.self c.reap.new.store.pages c.head_doorbell.new.self
    c.self.invariant c.in_ok-reap.ensures.step c.in_ok-reap.ensures.head c.reap.ensures.over (c.head_doorbell.ensures ∙ ap (λ (o : Option ℕ). option_map_or (λ head. head_rung c.args.q head c.self.inside.controller) o c.self.inside.controller) (sym c.in-Some.is))).world

pub returns-in-Some-clause-step : goal.returns-in-Some-clause-step
returns-in-Some-clause-step g c =
    step_from (reap_goes (sides_of c.self.inside.host c.self.inside.controller c.self.inside.store.pages c.self.inside.trusted) c.args.q c.in_ok-reap.reap.found c.in_ok-reap.reap.head c.reap.new.self c.reap.new.store.pages c.head_doorbell.new.self
    c.self.invariant c.in_ok-reap.ensures.step c.in_ok-reap.ensures.head c.reap.ensures.over (c.head_doorbell.ensures ∙ ap (λ (o : Option ℕ). option_map_or (λ head. head_rung c.args.q head c.self.inside.controller) o c.self.inside.controller) (sym c.in-Some.is)))
    (ap (λ (w : WorldContents). w.state) c.self.view_is)

pub invariant_of-self-in-None : goal.invariant_of-self-in-None
invariant_of-self-in-None g c =
    (reap_goes (sides_of c.self.inside.host c.self.inside.controller c.self.inside.store.pages c.self.inside.trusted) c.args.q c.in_ok-reap.reap.found c.in_ok-reap.reap.head c.reap.new.self c.reap.new.store.pages c.self.inside.controller
    c.self.invariant c.in_ok-reap.ensures.step c.in_ok-reap.ensures.head c.reap.ensures.over (ap (λ (o : Option ℕ). option_map_or (λ head. head_rung c.args.q head c.self.inside.controller) o c.self.inside.controller) (sym c.in-None.is))).world

pub returns-in-None-clause-step : goal.returns-in-None-clause-step
returns-in-None-clause-step g c =
    step_from (reap_goes (sides_of c.self.inside.host c.self.inside.controller c.self.inside.store.pages c.self.inside.trusted) c.args.q c.in_ok-reap.reap.found c.in_ok-reap.reap.head c.reap.new.self c.reap.new.store.pages c.self.inside.controller
    c.self.invariant c.in_ok-reap.ensures.step c.in_ok-reap.ensures.head c.reap.ensures.over (ap (λ (o : Option ℕ). option_map_or (λ head. head_rung c.args.q head c.self.inside.controller) o c.self.inside.controller) (sym c.in-None.is)))
    (ap (λ (w : WorldContents). w.state) c.self.view_is)

pub returns-in-Some-clause-touches : goal.returns-in-Some-clause-touches
returns-in-Some-clause-touches g c =
    rw (← c.self.view_is) (touches_at _ _ c.self.inside.store.unlisted c.reap.new.store.unlisted _ c.self.inside.store.touched c.reap.new.store.touched refl refl c.in_ok-reap.ensures.touches)

pub returns-in-None-clause-touches : goal.returns-in-None-clause-touches
returns-in-None-clause-touches g c =
    rw (← c.self.view_is) (touches_at _ _ c.self.inside.store.unlisted c.reap.new.store.unlisted _ c.self.inside.store.touched c.reap.new.store.touched refl refl c.in_ok-reap.ensures.touches)
