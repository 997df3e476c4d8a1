-- A log, and the run of the machine that it tells of.
use Rattle.std.specs.Prelude.{◌≡◌, ℕ, ◌+◌, List, [], ◌∷◌, ◌++◌, Option, Some, None, Bool, true, false, count_by}
use Rattle.io_commands.specs.{Drafts.DraftContents, Values.numbers_of}
use Rattle.machine_model.specs.{Events.Event, Image.{is_draft, submitted_by}, State.State}
use Rattle.step_core.specs.Values.{Reply, Step}
use Rattle.driver_book.specs.Entries.{Entry, LoggedDraft}
use Rattle.machine_model.specs.Events as events
use Rattle.machine_model.specs.Step as machine
pub use Rattle.step_core.specs.Bench.{asked, told}
use Rattle.step_core.specs.declared.step.Reply.TheVariants as reply
use Rattle.step_core.specs.declared.step.Step.TheVariants as step

-- An event and its reply, as a log has them: without the bytes of drafts and finished commands

-- a draft without the bytes of its pages
abbrev pub logged : DraftContents → LoggedDraft
logged d = record { request = d.request; data_pages = numbers_of d.data_pages; chain_pages = numbers_of d.chain_pages }

-- the draft that came of a reservation
abbrev pub reserved_draft : events.Reply → Option LoggedDraft
reserved_draft (events.Reserved d) = Some (logged d)
reserved_draft r = None

-- the draft of an event and its reply: what came of a reservation, what a submission took
abbrev pub draft_of : Event → events.Reply → Option LoggedDraft
draft_of (events.Reserve q request) r = reserved_draft r
draft_of (events.Submit d) r = Some (logged d)
draft_of e r = None

abbrev pub entry : Option ℕ → Step → Reply → Option LoggedDraft → Entry
entry seat what answer draft = record { seat = seat; step = what; answer = answer; draft = draft }

-- the entry of an event and its reply
abbrev pub entry_of : Option ℕ → Event → events.Reply → Entry
entry_of seat e r = entry seat (asked e) (told r) (draft_of e r)

-- an entry tells of a step of the machine
pub record TellsOf (old : State) (e : Entry) (new : State) : Type 0 where
  pub event : Event
  pub answer : events.Reply
  pub asks : e.step ≡ asked event
  pub tells : e.answer ≡ told answer
  pub drafts : e.draft ≡ draft_of event answer
  pub step : machine.Step old event answer new

-- a log leads from one state to another where its entries tell of steps, each from where the one before led
abbrev pub LeadsTo : State → List Entry → State → Type 0
LeadsTo old [] new = new ≡ old
LeadsTo old (e ∷ log) new = (mid : State) × TellsOf old e mid × LeadsTo mid log new

-- Which drafts were submitted, with all their bytes

-- those so far, and that of an accepted submission
abbrev pub with_draft : List DraftContents → Event → events.Reply → List DraftContents
with_draft drafts (events.Submit d) events.Accepted = drafts ++ d ∷ []
with_draft drafts e r = drafts

-- A log leads from one state to another, and these are the drafts of its accepted submissions.
abbrev pub LeadsBy : State → List Entry → List DraftContents → State → Type 0
LeadsBy old [] drafts new = (new ≡ old) × (drafts ≡ [])
LeadsBy old (e ∷ log) drafts new =
    (mid : State) × (step : TellsOf old e mid) × (later : List DraftContents) × (drafts ≡ submitted_by step.event step.answer ++ later) × LeadsBy mid log later new

abbrev pub after_first : Option ℕ → Bool → Option ℕ
after_first (Some n) first = Some (n + 1)
after_first None true = Some 0
after_first None false = None

-- the index of the last draft of a queue and identifier
abbrev pub last_place : ℕ → ℕ → List DraftContents → Option ℕ
last_place q cid [] = None
last_place q cid (d ∷ drafts) = after_first (last_place q cid drafts) (is_draft q cid d)

-- an accepted submission
abbrev pub is_submission : Step → Reply → Bool
is_submission (step.Submit q cid) reply.Accepted = true
is_submission what answer = false

abbrev pub is_accepted : Entry → Bool
is_accepted e = is_submission e.step e.answer

-- how many submissions were accepted
abbrev pub accepted : List Entry → ℕ
accepted log = count_by is_accepted log
