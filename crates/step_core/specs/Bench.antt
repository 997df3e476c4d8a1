-- A bench: a world, with the drafts, the tickets and the finished commands that it keeps. What each of its steps may answer, and what it leaves.
use Rattle.host_core.specs.Firsts.{without_first, with_first}
use Rattle.std.specs.{List.list_any, Option.option_map, Prelude.{◌≡◌, ℕ, Option, Some, None, List, [], ◌∷◌, ◌++◌, length, if◌then◌else◌}}
use Rattle.io_commands.specs.{Drafts.{DraftContents, built}, Values.{FinishedContents, gathered_from}}
use Rattle.machine_model.specs.{Events.Event, Image.{is_draft, draft_of}, Script.{Table, is_finished, finished_at, is_ticket, fill_fault, filled_draft}}
use Rattle.step_core.specs.Values.{Step, Reply}
use Rattle.machine_model.specs.Events as events
use Rattle.machine_model.specs.declared.words.Refusal.TheVariants as refusal
use Rattle.machine_model.specs.Step as machine
use Rattle.step_core.specs.declared.step.Step.TheVariants as step
use Rattle.step_core.specs.declared.step.Reply.TheVariants as reply

-- Kept values

-- The machine's steps

-- the event of the machine that a step is, with the value that the bench keeps under
-- the step's name: none where it keeps none, and none for a step of a kept value alone
abbrev pub event_at : Table → Step → Option Event
event_at t (step.Reserve q request) = Some (events.Reserve q request)
event_at t (step.Submit q cid) = option_map events.Submit (draft_of q cid t.drafts)
event_at t (step.Cancel q cid) = option_map events.Cancel (draft_of q cid t.drafts)
event_at t (step.Ring q) = Some (events.Ring q)
event_at t (step.Fetch q) = Some (events.Fetch q)
event_at t (step.Walk q cid) = Some (events.Walk q cid)
event_at t (step.Complete q cid) = Some (events.Complete q cid)
event_at t (step.Reap q) = Some (events.Reap q)
event_at t (step.Collect q cid) = if list_any (is_ticket q cid) t.tickets then Some (events.Collect q cid) else None
event_at t (step.Release q cid) = option_map events.Release (finished_at q cid t.finished)
event_at t (step.Abort q cid) = Some (events.Abort q cid)
event_at t (step.DeleteSq q) = Some (events.DeleteSq q)
event_at t (step.DeleteCq q) = Some (events.DeleteCq q)
event_at t (step.CreateCq q vector) = Some (events.CreateCq q vector)
event_at t (step.CreateSq q) = Some (events.CreateSq q)
event_at t (step.Retire q) = Some (events.Retire q)
event_at t (step.Forge q slot bytes) = Some (events.Forge q slot bytes)
event_at t step.Reset = Some events.Reset
event_at t what = None

-- the step that asks for an event, by the names of its values
abbrev pub asked : Event → Step
asked (events.Reserve q request) = step.Reserve q request
asked (events.Submit d) = step.Submit d.q d.cid
asked (events.Cancel d) = step.Cancel d.q d.cid
asked (events.Ring q) = step.Ring q
asked (events.Reap q) = step.Reap q
asked (events.Collect q cid) = step.Collect q cid
asked (events.Release f) = step.Release f.q f.cid
asked (events.Abort q cid) = step.Abort q cid
asked (events.DeleteSq q) = step.DeleteSq q
asked (events.DeleteCq q) = step.DeleteCq q
asked (events.CreateCq q vector) = step.CreateCq q vector
asked (events.CreateSq q) = step.CreateSq q
asked (events.Retire q) = step.Retire q
asked (events.Fetch q) = step.Fetch q
asked (events.Walk q cid) = step.Walk q cid
asked (events.Complete q cid) = step.Complete q cid
asked (events.Forge q slot bytes) = step.Forge q slot bytes
asked events.Reset = step.Reset

-- what a step answers of the machine's reply: all of it, except a draft's and a finished command's contents
abbrev pub told : events.Reply → Reply
told (events.Reserved d) = reply.Reserved d.q d.cid (length d.data_pages) (length d.chain_pages)
told events.Accepted = reply.Accepted
told (events.Reaps what) = reply.Reaps what
told (events.Collects f) = reply.Collected f.status f.hints
told (events.Sent cid) = reply.Sent cid
told (events.Fetched cid touched) = reply.Fetched cid touched
told (events.Walked state touched) = reply.Walked state touched
told (events.Completed touched) = reply.Completed touched
told (events.Refused why touched) = reply.Refused why touched

-- the values that are kept after a reply: what comes is kept, and what was taken is gone
abbrev pub kept : Table → Step → events.Reply → Table
kept t (step.Reserve q request) (events.Reserved d) = record t { drafts = t.drafts ++ d ∷ [] }
kept t (step.Submit q cid) events.Accepted = record t { drafts = without_first (is_draft q cid) t.drafts; tickets = t.tickets ++ (q, cid) ∷ [] }
kept t (step.Cancel q cid) events.Accepted = record t { drafts = without_first (is_draft q cid) t.drafts }
kept t (step.Collect q cid) (events.Collects f) = record t { tickets = without_first (is_ticket q cid) t.tickets; finished = t.finished ++ f ∷ [] }
kept t (step.Release q cid) events.Accepted = record t { finished = without_first (is_finished q cid) t.finished }
kept t what answer = t

-- a step of the machine: its event is answered, the answer reports that reply, and the values are kept after it
pub record Makes (t : Table) (what : Step) (event : Event) (answer : Reply) (new : Table) : Type 0 where
  pub reply : events.Reply
  pub tells : answer ≡ told reply
  pub step : machine.Step t.world event reply new.world
  pub keeps : new ≡ record (kept t what reply) { world = new.world }

-- Steps of a kept value alone

-- a step without a fitting value: nothing changes
abbrev pub HasNoValue : Table → Reply → Table → Type 0
HasNoValue t answer new = (answer ≡ reply.NoValue) × (new ≡ t)

abbrev pub Fills : Table → ℕ → ℕ → List ℕ → Option DraftContents → Reply → Table → Type 0
Fills t q cid bytes None answer new = HasNoValue t answer new
Fills t q cid bytes (Some d) reply.Accepted new = (fill_fault bytes d ≡ None) × (new ≡ record t { drafts = with_first (is_draft q cid) (filled_draft bytes) t.drafts })
Fills t q cid bytes (Some d) (reply.NotFilled why) new = (fill_fault bytes d ≡ Some why) × (new ≡ t)
Fills t q cid bytes (Some d) answer new = ⊥

abbrev pub Builds : Table → ℕ → ℕ → Option DraftContents → Reply → Table → Type 0
Builds t q cid None answer new = HasNoValue t answer new
Builds t q cid (Some d) reply.Accepted new = new ≡ record t { drafts = with_first (is_draft q cid) built t.drafts }
Builds t q cid (Some d) (reply.Refused refusal.Memory []) new = new ≡ t
Builds t q cid (Some d) answer new = ⊥

abbrev pub Gathers : Table → Option FinishedContents → Reply → Table → Type 0
Gathers t None answer new = HasNoValue t answer new
Gathers t (Some f) (reply.Gathered bytes) new = (bytes ≡ gathered_from f) × (new ≡ t)
Gathers t (Some f) (reply.Refused refusal.Memory []) new = new ≡ t
Gathers t (Some f) answer new = ⊥

abbrev pub IsOwn : Table → Step → Reply → Table → Type 0
IsOwn t (step.Fill q cid bytes) answer new = Fills t q cid bytes (draft_of q cid t.drafts) answer new
IsOwn t (step.Build q cid) answer new = Builds t q cid (draft_of q cid t.drafts) answer new
IsOwn t (step.Gather q cid) answer new = Gathers t (finished_at q cid t.finished) answer new
IsOwn t what answer new = HasNoValue t answer new

-- What a step may answer, and what it leaves: as a step of the machine where it is an event, and else of the bench's own

abbrev pub DoesBy : Option Event → Table → Step → Reply → Table → Type 0
DoesBy (Some event) t what answer new = Makes t what event answer new
DoesBy None t what answer new = IsOwn t what answer new

abbrev pub Does : Table → Step → Reply → Table → Type 0
Does t what answer new = DoesBy (event_at t what) t what answer new

-- Steps and answers, each of which is what a step does from where the one before led
abbrev pub DoesAll : Table → List Step → List Reply → Table → Type 0
DoesAll t [] [] new = new ≡ t
DoesAll t (what ∷ steps) (answer ∷ answers) new = (mid : Table) × Does t what answer mid × DoesAll mid steps answers new
DoesAll t [] (answer ∷ answers) new = ⊥
DoesAll t (what ∷ steps) [] new = ⊥
