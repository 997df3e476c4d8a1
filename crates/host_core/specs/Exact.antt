-- Steps that are exact.
use Rattle.std.specs.Prelude.{◌≡◌, None}
use Rattle.machine_model.specs.{After.after, Events.{Event, Reply}, Refusals.refusal_of, State.State, Step.{Answers, Refuses}}
use Rattle.machine_model.specs.Events as events

-- A step whose reply and state are exactly what the machine gives.
abbrev pub Exactly : State → Event → Reply → State → Type 0
Exactly s e (events.Refused why touched) new = Refuses s e why touched × (new ≡ s)
Exactly s e reply new = (refusal_of s e ≡ None) × Answers s e reply × (new ≡ after s e reply)
