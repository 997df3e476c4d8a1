-- Events that are accepted: an event that no cause refuses may happen, with a reply that is no refusal.
use Rattle.std.specs.{List.AllByRecursion, Prelude.{◌≡◌, ℕ, Bool, true, false, ◌||◌, not, IsTrue, None, List, is_some}}
use Rattle.block_image.specs.Blocks.{IsImage}
use Rattle.machine_model.specs.{After.after_reset, Events.{Event, Reply}, Opening.{opening, Opens}, Proper.IsProper, Refusals.{host_queue, is_held, refusal_of}}
use Rattle.machine_model.specs.{State.{State, Record}, Step.{Step, IsController, asked_by}}
use Rattle.two_sides.specs.InOrder.{IsInOrder}
use Rattle.machine_model.specs.Events as events

-- a command that is held is an I/O command, and has its status
pub record HasEnded (r : Record) : Type 0 where
  pub is_io : IsTrue (is_some (asked_by r.work))
  pub has_status : IsTrue (is_some r.status)

abbrev pub EndedIfHeld : Record → Type 0
EndedIfHeld r = is_held r.phase ≡ true → HasEnded r

-- a state in order in which each held command has ended so: what may be collected can be
pub record IsReady (s : State) : Type 0 where
  pub order : IsInOrder s
  pub held : AllByRecursion EndedIfHeld s.host.records

abbrev pub openings_are_ready : Type 0
openings_are_ready =
    (pages queues n s : ℕ) (image : List ℕ) → Opens pages queues n s → IsImage image → IsReady (opening pages queues n s image)

abbrev pub steps_keep_ready : Type 0
steps_keep_ready = (old : State) (e : Event) (reply : Reply) (new : State) → IsReady old → Step old e reply new → IsReady new

abbrev pub is_refusal : Reply → Bool
is_refusal (events.Refused why touched) = true
is_refusal reply = false

-- the event may happen, with a reply that is no refusal
pub record IsAccepted (s : State) (e : Event) : Type 0 where
  pub reply : Reply
  pub left : State
  pub accepted : IsTrue (not (is_refusal reply))
  pub step : Step s e reply left

-- Where no cause refuses it, an event of the host is accepted, forged entries or not, and one of the controller where nothing was
-- forged. So there is a free identifier, and there are free pages, wherever no cause says otherwise.
abbrev pub every_event_is_accepted_or_has_a_cause : Type 0
every_event_is_accepted_or_has_a_cause =
    (s : State) (e : Event) → IsReady s → IsProper e → IsTrue (s.trusted || not (IsController e)) → refusal_of s e ≡ None → IsAccepted s e

-- A reset is never refused, whatever was forged: it is accepted in each state
abbrev pub every_reset_is_accepted : Type 0
every_reset_is_accepted = (s : State) → Step s events.Reset events.Accepted (after_reset s)

-- and that is its one answer, which leaves one state
pub record IsAcceptedReset (s : State) (reply : Reply) (new : State) : Type 0 where
  pub accepted : reply ≡ events.Accepted
  pub left : new ≡ after_reset s

abbrev pub resets_have_one_answer : Type 0
resets_have_one_answer = (s new : State) (reply : Reply) → Step s events.Reset reply new → IsAcceptedReset s reply new

-- the queue of an event of the controller
abbrev pub queue_of : Event → ℕ
queue_of (events.Fetch q) = q
queue_of (events.Walk q cid) = q
queue_of (events.Complete q cid) = q
queue_of e = 0

-- Once something was forged the causes don't decide for the controller: each of its events is accepted, of a queue that the host has.
abbrev pub forged_worlds_accept_the_controller : Type 0
forged_worlds_accept_the_controller =
    (s : State) (e : Event) → IsInOrder s → IsTrue (not s.trusted) → IsTrue (IsController e) → IsTrue (is_some (host_queue s (queue_of e))) → IsAccepted s e

-- and of no other queue
abbrev pub forged_worlds_know_their_queues : Type 0
forged_worlds_know_their_queues =
    (s new : State) (e : Event) (reply : Reply) → IsTrue (not s.trusted) → IsTrue (IsController e) → Step s e reply new → IsTrue (not (is_refusal reply))
    → IsTrue (is_some (host_queue s (queue_of e)))
