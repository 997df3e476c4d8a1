-- The look changed nothing of the state, in which the controller could do the step that it told.
use Rattle.std.proofs.Common.{rules, None, IsTrue, ◌≡◌, sym, subst}
use Rattle.machine_model.specs.{Claims.IsSound, Events.Event, Refusals.refusal_of, State.State, Step.Step}
use Rattle.step_core.specs.Touching.{StaysAllowed}
use Rattle.shared.specs.Sharing.{event_of, reply_of}
use Rattle.shared.proofs.serving.Shared+World+A.serve_next.Goals as goal

pub returns-in-Some-next_step : goal.returns-in-Some-next_step
returns-in-Some-next_step g c =
    let looked : State = c.deref_mut.result.now.machine.state in
    let sound : IsSound looked = search rules in
    let same : c.deref_mut-in-Some-next_step.result.now.machine.state ≡ looked = search rules in
    let served = c.serve-served.result in
    record {
      old = looked;
      new = c.serve-served.new.world.state;
      sound = sound;
      possible = subst (λ (e : Event). IsTrue looked.trusted → refusal_of looked e ≡ None) (sym c.serve-served.ensures.event) c.in-Some-next_step.ensures.possible;
      step = subst (λ (s : State). Step s (event_of served) (reply_of served) c.serve-served.new.world.state) same c.serve-served.ensures.step;
      allowed = subst (λ (s : State). StaysAllowed s (event_of served) (reply_of served)) same c.serve-served.ensures.allowed;
    }
