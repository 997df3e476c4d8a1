use Rattle.std.proofs.{Common.{◌∙◌, refl, ap, Err}, lemmas.Result.err_from_is_err_and}
use Rattle.machine_model.specs.declared.words.Refusal.{Refusal}
use Rattle.step_core.{proofs.Steps.{ring_goes, ring_refused, step_from}, specs.World.{WorldContents, sides_of}}
use Rattle.step_core.proofs.world.World.ring.Goals as goal

pub returns-in_err-tail-clause-step : goal.returns-in_err-tail-clause-step
returns-in_err-tail-clause-step g c =
    ring_refused (sides_of c.self.inside.host c.self.inside.controller c.self.inside.store.pages c.self.inside.trusted) c.args.self.now.state c.args.q c.in_err-tail.field-0.0 c.from_residual.result
    (ap (λ (w : WorldContents). w.state) c.self.view_is) c.self.invariant c.in_err-tail.ensures.step
    (let is = err_from_is_err_and c.from_residual.result c.from_residual.ensures.1 in is.1 ∙ ap (λ (why : Refusal). Err why) is.2)

pub invariant_of-self : goal.invariant_of-self
invariant_of-self g c =
    (ring_goes (sides_of c.self.inside.host c.self.inside.controller c.self.inside.store.pages c.self.inside.trusted) c.args.q c.in_ok-tail.tail c.tail_doorbell.new.self
    c.self.invariant c.in_ok-tail.ensures.step c.in_ok-tail.ensures.tail c.tail_doorbell.ensures).world

pub returns-clause-step : goal.returns-clause-step
returns-clause-step g c =
    step_from (ring_goes (sides_of c.self.inside.host c.self.inside.controller c.self.inside.store.pages c.self.inside.trusted) c.args.q c.in_ok-tail.tail c.tail_doorbell.new.self
    c.self.invariant c.in_ok-tail.ensures.step c.in_ok-tail.ensures.tail c.tail_doorbell.ensures) (ap (λ (w : WorldContents). w.state) c.self.view_is)

pub returns-in_err-tail-clause-touches : goal.returns-in_err-tail-clause-touches
returns-in_err-tail-clause-touches g c =
    let is = err_from_is_err_and c.from_residual.result c.from_residual.ensures.1 in
    rw is.1 refl

pub returns-clause-touches : goal.returns-clause-touches
returns-clause-touches g c = ap (λ (w : WorldContents). w.touches) c.self.view_is
