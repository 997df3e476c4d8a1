-- What a step of the controller may touch, where the world is trusted; how many pages each event touches, always; and what a look may.
use Rattle.std.specs.{Bool.OnTrue, Prelude.{◌≡◌, ℕ, zero, suc, ◌+◌, ◌≤◌, ◌&&◌, IsTrue, List, [], ◌∷◌, length}}
use Rattle.host_core.specs.Touching.{host_touches}
use Rattle.io_commands.specs.Values.{FinishedContents}
use Rattle.machine_model.specs.{Events.{Event, Reply}, Script.Table, State.State, Touch.{stays_allowed, stays_own, touched_by}, declared.words.Refusal.Refusal}
use Rattle.page_memory.specs.{Memory.counted, declared.page.Half.TheVariants.{Submission, Completion}}
use Rattle.queue_pair.specs.Memory.{half_pages}
use Rattle.step_core.specs.Values.{Step}
use Rattle.machine_model.specs.Events as events
use Rattle.machine_model.specs.declared.words.Refusal.TheVariants as refusal
use Rattle.step_core.specs.declared.step.Step.TheVariants as step
use Rattle.step_core.specs.Values as values
use Rattle.step_core.specs.declared.step.Reply.TheVariants as reply

-- only pages of queues that the controller has, and of commands that it fetched and did not complete; of its own queue or command alone
abbrev pub StaysAllowed : State → Event → Reply → Type 0
StaysAllowed s e reply = OnTrue s.trusted (IsTrue (stays_allowed s reply && stays_own s e reply))

-- a count of touches after this many more
abbrev pub touches_more : ℕ → ℕ → ℕ
touches_more touches zero = touches
touches_more touches (suc n) = counted touches (suc n)

-- each touch is one of those that the reply tells
abbrev pub TellsAll : ℕ → Reply → ℕ → Type 0
TellsAll touches reply touches' = touches' ≡ touches_more touches (length (touched_by reply))

-- How many pages an event touches where rings have n entries, by its reply: a step of the controller those that it reports, a forgery
-- the page of its slot, and each other event what it touches at the host.
abbrev pub event_touches : (n : ℕ) → Event → Reply → ℕ
event_touches n (events.Fetch q) reply = length (touched_by reply)
event_touches n (events.Walk q cid) reply = length (touched_by reply)
event_touches n (events.Complete q cid) reply = length (touched_by reply)
event_touches n (events.Forge q slot bytes) events.Accepted = 1
event_touches n e reply = host_touches n e reply

-- a count of touches after an event with this reply
abbrev pub Touches : (n touches : ℕ) → Event → Reply → (touches' : ℕ) → Type 0
Touches n touches e reply touches' = touches' ≡ touches_more touches (event_touches n e reply)

-- a look touched at most this many pages
pub record LooksAtMost (most touches touches' : ℕ) : Type 0 where
  pub pages : ℕ
  pub few : pages ≤ most
  pub counts : touches' ≡ touches_more touches pages

-- How many pages a step of a bench touches where rings have n entries, by what it answers.

abbrev pub accepted_step_touches : ℕ → Step → ℕ
accepted_step_touches n (step.Submit q cid) = 1
accepted_step_touches n (step.Retire q) = 1
accepted_step_touches n (step.Forge q slot bytes) = 1
accepted_step_touches n step.Reset = half_pages n Submission + half_pages n Completion
accepted_step_touches n what = 0

abbrev pub sent_step_touches : ℕ → Step → ℕ
sent_step_touches n (step.CreateCq q vector) = half_pages n Completion + 1
sent_step_touches n (step.CreateSq q) = half_pages n Submission + 1
sent_step_touches n what = 1

-- the controller's steps touch what they report; of the host's, a retirement looks at a ring that is not drained
abbrev pub refused_step_touches : Step → Refusal → List ℕ → ℕ
refused_step_touches (step.Fetch q) why touched = length touched
refused_step_touches (step.Walk q cid) why touched = length touched
refused_step_touches (step.Complete q cid) why touched = length touched
refused_step_touches (step.Retire q) refusal.NotDrained touched = 1
refused_step_touches what why touched = 0

-- the pages of the command that was collected last
abbrev pub last_pages : List FinishedContents → ℕ
last_pages [] = 0
last_pages (finished ∷ []) = length finished.data_pages + length finished.chain_pages
last_pages (finished ∷ next ∷ others) = last_pages (next ∷ others)

abbrev pub step_touches : (n : ℕ) → Step → values.Reply → Table → ℕ
step_touches n what (reply.Reserved q cid front back) new = front + back
step_touches n what reply.Accepted new = accepted_step_touches n what
step_touches n what (reply.Fetched cid touched) new = length touched
step_touches n what (reply.Walked state touched) new = length touched
step_touches n what (reply.Completed touched) new = length touched
step_touches n what (reply.Reaps found) new = 1
step_touches n what (reply.Collected status hints) new = last_pages new.finished
step_touches n what (reply.Sent cid) new = sent_step_touches n what
step_touches n what (reply.Refused why touched) new = refused_step_touches what why touched
step_touches n what answer new = 0

-- a count of touches after a step of a bench with this answer
abbrev pub StepTouches : (n touches : ℕ) → Step → values.Reply → Table → (touches' : ℕ) → Type 0
StepTouches n touches what answer new touches' = touches' ≡ touches_more touches (step_touches n what answer new)
