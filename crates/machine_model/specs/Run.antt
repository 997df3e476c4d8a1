-- Runs: steps, one after the other.
use Rattle.std.specs.Prelude.{◌≡◌, List, [], ◌∷◌}
use Rattle.machine_model.specs.{Events.{Event, Reply}, State.State, Step.Step}

-- events and replies, each a step from where the one before led
abbrev pub Run : State → List Event → List Reply → State → Type 0
Run old [] [] new = new ≡ old
Run old (e ∷ es) (reply ∷ replies) new = (mid : State) × Step old e reply mid × Run mid es replies new
Run old [] (reply ∷ replies) new = ⊥
Run old (e ∷ es) [] new = ⊥
