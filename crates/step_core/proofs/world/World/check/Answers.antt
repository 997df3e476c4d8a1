use Rattle.std.proofs.Common.{subst, ap}
use Rattle.machine_model.specs.{Claims.IsSound, State.State}
use Rattle.step_core.{proofs.Steps.shown_sound, specs.World.{WorldContents, sides_of}}
use Rattle.step_core.proofs.world.World.check.Goals as goal

pub returns : goal.returns
returns g c = subst (λ (s : State). IsSound s) (ap (λ (w : WorldContents). w.state) c.self.view_is) (shown_sound (sides_of c.self.inside.host c.self.inside.controller c.self.inside.store.pages c.self.inside.trusted) c.self.invariant)
