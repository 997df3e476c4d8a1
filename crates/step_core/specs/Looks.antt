-- What looks at a world tell: what would be answered, lack of memory aside.
use Rattle.std.specs.Prelude.{◌≡◌, ℕ, Bool, false, ◌&&◌, is_none, is_some}
use Rattle.controller_core.specs.declared.look.ControllerStep.{ControllerStep, TheVariants.{Fetch, Walk, Complete}}
use Rattle.machine_model.specs.{Events.Event, Refusals.{refusal_of, seen_entry}, State.State}
use Rattle.machine_model.specs.Events as events

-- whether nothing refuses an event
abbrev pub is_possible : State → Event → Bool
is_possible s e = is_none (refusal_of s e)

-- whether a reap would take a completion
abbrev pub has_completion : State → ℕ → Bool
has_completion s q = is_possible s (events.Reap q) && is_some (seen_entry s q)

-- the event that a step of the controller is
abbrev pub event_of : ControllerStep → Event
event_of (Fetch q) = events.Fetch q
event_of (Walk q cid) = events.Walk q cid
event_of (Complete q cid) = events.Complete q cid

-- the controller can do nothing, where the world is trusted
pub record IsAtRest (s : State) : Type 0 where
  pub fetches : (q : ℕ) → is_possible s (events.Fetch q) ≡ false
  pub walks : (q cid : ℕ) → is_possible s (events.Walk q cid) ≡ false
  pub completes : (q cid : ℕ) → is_possible s (events.Complete q cid) ≡ false
