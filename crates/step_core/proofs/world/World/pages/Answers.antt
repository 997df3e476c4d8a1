use Rattle.std.proofs.Common.{◌∙◌, ap, ℕ, ◌≤◌, length, subst}
use Rattle.machine_model.specs.State.{State}
use Rattle.step_core.specs.World.{WorldContents}
use Rattle.step_core.proofs.world.World.pages.Goals as goal

pub returns-clause-least : goal.returns-clause-least
returns-clause-least g c =
    subst (λ (n : ℕ). 8 ≤ n) (c.pages.ensures.pages ∙ (c.self.invariant.sides.kept.counted ∙ ap (λ (s : State). length s.memory) (ap (λ (w : WorldContents). w.state) c.self.view_is))) c.pages.ensures.least
