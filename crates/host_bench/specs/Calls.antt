-- A host over its pages, with the drafts, the tickets and the finished commands that its bench keeps. What each call may answer, and what it leaves.
use Rattle.host_core.specs.Alone.{HasPlacedPages, IsLowest, alone}
use Rattle.host_core.specs.Doorbells.{head_bell, tail_bell}
use Rattle.host_core.specs.Laws.{shown}
use Rattle.host_core.specs.Firsts.{without_first, with_first}
use Rattle.host_core.specs.Ringing.{head_rung, tail_of}
use Rattle.host_bench.specs.Values.{Call, Reply}
use Rattle.std.specs.{List.list_any, Option.option_map, Prelude.{◌≡◌, ℕ, Bool, true, false, Option, Some, None, List, [], ◌∷◌, ◌++◌, length}}
use Rattle.io_commands.specs.{Drafts.{DraftContents, built}, Values.{FinishedContents, gathered_from}}
use Rattle.machine_model.specs.{After.after_reset, Events.Event, Image.{is_draft, draft_of}}
use Rattle.machine_model.specs.{Script.{Table, is_finished, finished_at, is_ticket, fill_fault, filled_draft}, State.State}
use Rattle.machine_model.specs.Events as events
use Rattle.machine_model.specs.declared.words.Refusal.TheVariants as refusal
use Rattle.machine_model.specs.Step as machine
use Rattle.host_bench.specs.declared.call.Call.TheVariants as call
use Rattle.host_bench.specs.declared.call.Reply.TheVariants as reply

-- RecordRow values

-- Calls

-- a step of the machine that keeps what is kept
abbrev pub Passes : Table → Event → events.Reply → Table → Type 0
Passes t e answer new = machine.Step t.world e answer new.world × (new ≡ record t { world = new.world })

-- an admin command is sent, under the lowest identifier that no outstanding command of queue 0 has
abbrev pub Sends : Table → Event → ℕ → Table → Type 0
Sends t e id new = Passes t e (events.Sent id) new × IsLowest t.world.host 0 id

-- the machine begins again, with no controller
abbrev pub reset_alone : State → State
reset_alone s = alone (shown (after_reset s)) (after_reset s).memory

-- a call without a fitting value: nothing changes
abbrev pub HasNoValue : Table → Reply → Table → Type 0
HasNoValue t answer new = (answer ≡ reply.NoValue) × (new ≡ t)

-- a command is reserved, and its draft is kept
pub record Reserves (t : Table) (q : ℕ) (event : Event) (answer : Reply) (new : Table) : Type 0 where
  pub draft : DraftContents
  pub identifier : IsLowest t.world.host q draft.cid
  pub placed : HasPlacedPages t.world.host draft
  pub says : answer ≡ reply.Reserved draft.q draft.cid (length draft.data_pages) (length draft.chain_pages)
  pub step : machine.Step t.world event (events.Reserved draft) new.world
  pub keeps : new ≡ record t { world = new.world; drafts = t.drafts ++ draft ∷ [] }

abbrev pub Fills : Table → ℕ → ℕ → List ℕ → Option DraftContents → Reply → Table → Type 0
Fills t q cid bytes None answer new = HasNoValue t answer new
Fills t q cid bytes (Some d) reply.Accepted new = (fill_fault bytes d ≡ None) × (new ≡ record t { drafts = with_first (is_draft q cid) (filled_draft bytes) t.drafts })
Fills t q cid bytes (Some d) (reply.NotFilled why) new = (fill_fault bytes d ≡ Some why) × (new ≡ t)
Fills t q cid bytes (Some d) answer new = ⊥

abbrev pub Builds : Table → ℕ → ℕ → Option DraftContents → Reply → Table → Type 0
Builds t q cid None answer new = HasNoValue t answer new
Builds t q cid (Some d) reply.Accepted new = new ≡ record t { drafts = with_first (is_draft q cid) built t.drafts }
Builds t q cid (Some d) (reply.Refused refusal.Memory) new = new ≡ t
Builds t q cid (Some d) answer new = ⊥

abbrev pub Submits : Table → ℕ → ℕ → Option DraftContents → Reply → Table → Type 0
Submits t q cid None answer new = HasNoValue t answer new
Submits t q cid (Some d) reply.Accepted new =
    machine.Step t.world (events.Submit d) events.Accepted new.world
    × (new ≡ record t { world = new.world; drafts = without_first (is_draft q cid) t.drafts; tickets = t.tickets ++ (q, cid) ∷ [] })
Submits t q cid (Some d) (reply.Refused why) new = Passes t (events.Submit d) (events.Refused why []) new
Submits t q cid (Some d) answer new = ⊥

abbrev pub Cancels : Table → ℕ → ℕ → Option DraftContents → Reply → Table → Type 0
Cancels t q cid None answer new = HasNoValue t answer new
Cancels t q cid (Some d) reply.Accepted new =
    machine.Step t.world (events.Cancel d) events.Accepted new.world
    × (new ≡ record t { world = new.world; drafts = without_first (is_draft q cid) t.drafts })
Cancels t q cid (Some d) (reply.Refused why) new = Passes t (events.Cancel d) (events.Refused why []) new
Cancels t q cid (Some d) answer new = ⊥

-- a command is collected, and the finished command is kept
pub record Collected (t : Table) (q cid : ℕ) (answer : Reply) (new : Table) : Type 0 where
  pub finished : FinishedContents
  pub says : answer ≡ reply.Collected finished.status finished.hints
  pub step : machine.Step t.world (events.Collect q cid) (events.Collects finished) new.world
  pub keeps : new ≡ record t { world = new.world; tickets = without_first (is_ticket q cid) t.tickets; finished = t.finished ++ finished ∷ [] }

abbrev pub Collects : Table → ℕ → ℕ → Bool → Reply → Table → Type 0
Collects t q cid false answer new = HasNoValue t answer new
Collects t q cid true (reply.Refused why) new = Passes t (events.Collect q cid) (events.Refused why []) new
Collects t q cid true answer new = Collected t q cid answer new

abbrev pub Gathers : Table → Option FinishedContents → Reply → Table → Type 0
Gathers t None answer new = HasNoValue t answer new
Gathers t (Some f) (reply.Gathered bytes) new = (bytes ≡ gathered_from f) × (new ≡ t)
Gathers t (Some f) (reply.Refused refusal.Memory) new = new ≡ t
Gathers t (Some f) answer new = ⊥

abbrev pub Releases : Table → ℕ → ℕ → Option FinishedContents → Reply → Table → Type 0
Releases t q cid None answer new = HasNoValue t answer new
Releases t q cid (Some f) reply.Accepted new =
    machine.Step t.world (events.Release f) events.Accepted new.world
    × (new ≡ record t { world = new.world; finished = without_first (is_finished q cid) t.finished })
Releases t q cid (Some f) (reply.Refused why) new = Passes t (events.Release f) (events.Refused why []) new
Releases t q cid (Some f) answer new = ⊥

-- What a call may answer, and what it leaves
abbrev pub Does : Table → Call → Reply → Table → Type 0
Does t (call.Reserve q r) (reply.Refused why) new = Passes t (events.Reserve q r) (events.Refused why []) new
Does t (call.Reserve q r) answer new = Reserves t q (events.Reserve q r) answer new
Does t (call.Fill q cid bytes) answer new = Fills t q cid bytes (draft_of q cid t.drafts) answer new
Does t (call.Build q cid) answer new = Builds t q cid (draft_of q cid t.drafts) answer new
Does t (call.Submit q cid) answer new = Submits t q cid (draft_of q cid t.drafts) answer new
Does t (call.Cancel q cid) answer new = Cancels t q cid (draft_of q cid t.drafts) answer new
Does t (call.Ring q) (reply.Rung bell) new = Passes t (events.Ring q) events.Accepted new × (option_map (tail_bell q) (tail_of (shown t.world) q) ≡ Some bell)
Does t (call.Ring q) (reply.Refused why) new = Passes t (events.Ring q) (events.Refused why []) new
Does t (call.Reap q) (reply.Reaps what bell) new = Passes t (events.Reap q) (events.Reaps what) new × (bell ≡ option_map (head_bell q) (head_rung (shown new.world) q what))
Does t (call.Reap q) (reply.Refused why) new = Passes t (events.Reap q) (events.Refused why []) new
Does t (call.Collect q cid) answer new = Collects t q cid (list_any (is_ticket q cid) t.tickets) answer new
Does t (call.Gather q cid) answer new = Gathers t (finished_at q cid t.finished) answer new
Does t (call.Release q cid) answer new = Releases t q cid (finished_at q cid t.finished) answer new
Does t (call.Abort q cid) (reply.Sent id) new = Sends t (events.Abort q cid) id new
Does t (call.Abort q cid) (reply.Refused why) new = Passes t (events.Abort q cid) (events.Refused why []) new
Does t (call.DeleteSq q) (reply.Sent id) new = Sends t (events.DeleteSq q) id new
Does t (call.DeleteSq q) (reply.Refused why) new = Passes t (events.DeleteSq q) (events.Refused why []) new
Does t (call.DeleteCq q) (reply.Sent id) new = Sends t (events.DeleteCq q) id new
Does t (call.DeleteCq q) (reply.Refused why) new = Passes t (events.DeleteCq q) (events.Refused why []) new
Does t (call.CreateCq q vector) (reply.Sent id) new = Sends t (events.CreateCq q vector) id new
Does t (call.CreateCq q vector) (reply.Refused why) new = Passes t (events.CreateCq q vector) (events.Refused why []) new
Does t (call.CreateSq q) (reply.Sent id) new = Sends t (events.CreateSq q) id new
Does t (call.CreateSq q) (reply.Refused why) new = Passes t (events.CreateSq q) (events.Refused why []) new
Does t (call.Retire q) reply.Accepted new = Passes t (events.Retire q) events.Accepted new
Does t (call.Retire q) (reply.Refused why) new = Passes t (events.Retire q) (events.Refused why []) new
Does t call.Reset reply.Accepted new = new ≡ record t { world = reset_alone t.world }
Does t what answer new = ⊥
