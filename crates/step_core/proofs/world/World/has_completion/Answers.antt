use Rattle.std.proofs.Common.{◌≡◌, ◌∙◌, subst, ap, refl}
use Rattle.machine_model.specs.State.{State}
use Rattle.step_core.{proofs.Looks.{waits_alike, looks_at}, specs.{Looks.has_completion, World.{WorldContents, sides_of}}}
use Rattle.step_core.proofs.world.World.has_completion.Goals as goal

pub returns-clause-answer : goal.returns-clause-answer
returns-clause-answer g c =
    subst (λ (s : State). c.completion_waits.result ≡ has_completion s c.args.q) (ap (λ (w : WorldContents). w.state) c.self.view_is)
    (c.completion_waits.ensures.answer ∙ waits_alike (sides_of c.self.inside.host c.self.inside.controller c.self.inside.store.pages c.self.inside.trusted) c.args.q c.self.invariant)

pub returns-clause-looks : goal.returns-clause-looks
returns-clause-looks g c =
    looks_at 1 c.args.self.now.touches _ c.self.inside.store.unlisted c.completion_waits.new.store.unlisted c.completion_waits.ensures.touches.0 c.self.inside.store.touched c.completion_waits.new.store.touched
    c.completion_waits.ensures.touches.1 (ap (λ (w : WorldContents). w.touches) c.self.view_is) refl c.completion_waits.ensures.touches.2
