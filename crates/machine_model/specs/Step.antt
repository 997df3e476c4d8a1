-- One step of the machine: which reply it may give, and which state that leads to.
use Rattle.std.specs.Option.{option_map, option_map_or}
use Rattle.std.specs.Prelude.{◌≡◌, ℕ, ◌+◌, ◌-◌, ◌<◌, ◌==◌, Bool, true, false, ◌&&◌, ◌||◌, not, Option, Some, None, List, [], ◌∷◌, ◌++◌, length, map, is_some, option_and_then, IsTrue, MatchBool, if◌then◌else◌, All}
use Rattle.page_ledger.specs.Owners.{is_among}
use Rattle.controller_walk.specs.{Units.{Act, touched}, declared.walk.WalkState.WalkState}
use Rattle.sgl_chain.specs.Chains.{pages_needed}
use Rattle.io_commands.specs.{Asked.Request, Drafts.DraftContents, Requests.{data_count, joined_parts}, Values.{FinishedContents, numbers_of}}
use Rattle.entry_codec.specs.declared.completion.ComEntry.{ComEntry}
use Rattle.page_memory.specs.Pages.{Pages, page_at, zero_page, AreWhole}
use Rattle.machine_model.specs.{After.{after, next_unit, next_answer}, Commands.{Work, Io, Management}, Events.{Event, Reply, Refusal, Reaped}, Memory.is_in}
use Rattle.machine_model.specs.Proper.{IsProper}
use Rattle.machine_model.specs.Refusals.{refusal_of, seen_entry, host_queue, conflicts, fetch_page, post_page, next_rung, job_at, is_submitted}
use Rattle.machine_model.specs.State.{State, Host, Record, record_at, outstanding_on, Job}
use Rattle.queue_pair.specs.Slots.{is_in_range}
use Rattle.machine_model.specs.Events as events

-- What may be chosen

abbrev pub times : ℕ → List ℕ → ℕ
times p [] = 0
times p (x ∷ xs) = if x == p then 1 + times p xs else times p xs

-- pages that are free, each once
abbrev pub AreFree : State → List ℕ → Type 0
AreFree s pages = (p : ℕ) → times p pages ≡ (if is_among pages p && is_among s.host.free p then 1 else 0)

-- an identifier in range that no record of the queue has
pub record IsNewIdentifier (s : State) (q cid : ℕ) : Type 0 where
  pub in_range : cid < s.entries - 1
  pub unused : IsTrue (not (is_among (outstanding_on s.host q) cid))

abbrev pub zeroed : List (ℕ × List ℕ) → Type 0
zeroed pages = All (λ page. page.1 ≡ zero_page) pages

pub record IsReserved (s : State) (q : ℕ) (r : Request) (d : DraftContents) : Type 0 where
  pub queue : d.q ≡ q
  pub request : d.request ≡ r
  pub segment : d.segment ≡ s.segment
  pub identifier : IsNewIdentifier s q d.cid
  pub data_pages : length d.data_pages ≡ data_count r.pieces
  pub chain_pages : length d.chain_pages ≡ pages_needed (length (joined_parts r.pieces (numbers_of d.data_pages))) s.segment
  pub free : AreFree s (numbers_of d.data_pages ++ numbers_of d.chain_pages)
  pub zero : zeroed (d.data_pages ++ d.chain_pages)
  pub not_built : d.entry ≡ None

-- What a reap finds

abbrev pub reaped_as : ℕ → ComEntry → Reaped
reaped_as q e = if q == 0 then events.AdminDone e.cid e.status e.dw0 else events.Done e.cid e.status

-- its head pointer lies from the known head to the tail, in ring order
abbrev pub fits_ring : State → ℕ → ComEntry → Bool
fits_ring s q e = option_map_or (λ queue. is_in_range s.entries queue.ring.known_head queue.ring.tail e.sqhd) (host_queue s q) false

abbrev pub submitted_at : State → ℕ → ℕ → Option Record
submitted_at s q cid = option_map_or (λ r. if is_submitted r.phase then Some r else None) (record_at s.host q cid) None

abbrev pub reaped_entry : State → ℕ → ComEntry → Reaped
reaped_entry s q e =
    if not (e.sqid == q) then events.Rejected events.WrongQueue
    else if not (fits_ring s q e) then events.Rejected events.BadHead
    else option_map_or (λ r. reaped_as q e) (submitted_at s q e.cid) (events.Rejected events.UnknownId)

abbrev pub reaped : State → ℕ → Reaped
reaped s q = option_map_or (reaped_entry s q) (seen_entry s q) events.Empty

-- What the controller touches

abbrev pub touched_by_fetch : State → ℕ → List ℕ
touched_by_fetch s q = if conflicts s q then fetch_page s q ∷ post_page s q ∷ [] else fetch_page s q ∷ []

abbrev pub touched_by_refusal : State → Event → Refusal → List ℕ
touched_by_refusal s (events.Fetch q) events.Full = fetch_page s q ∷ []
touched_by_refusal s (events.Fetch q) events.Memory = fetch_page s q ∷ []
touched_by_refusal s (events.Fetch q) events.SlotOut = if is_in s.memory (fetch_page s q) then fetch_page s q ∷ [] else []
touched_by_refusal s e why = []

-- What may be answered

abbrev pub IsController : Event → Bool
IsController (events.Fetch q) = true
IsController (events.Walk q cid) = true
IsController (events.Complete q cid) = true
IsController e = false

-- the calls that may need memory
abbrev pub allocates : Event → Bool
allocates (events.Reserve q r) = true
allocates (events.Collect q cid) = true
allocates (events.Fetch q) = true
allocates e = false

abbrev pub pages_with_bytes : Pages → List ℕ → List (ℕ × List ℕ)
pages_with_bytes m pages = map (λ p. (p, option_map_or (λ bytes. bytes) (page_at m p) [])) pages

abbrev pub asked_by : Work → Option Request
asked_by (Io r) = Some r
asked_by (Management a) = None

-- a held record's pages taken out, with its request, its status and its hints
abbrev pub finished_from : State → Record → Option FinishedContents
finished_from s r =
    option_and_then
    (λ asked. option_map
    (λ st. record { q = r.q; cid = r.cid; request = asked; status = st; hints = r.hints; data_pages = pages_with_bytes s.memory r.data_pages; chain_pages = pages_with_bytes s.memory r.chain_pages })
    r.status)
    (asked_by r.work)

abbrev pub unit_answered : Option Act → (due outcome : WalkState) → List ℕ → Type 0
unit_answered None due outcome pages = ⊥
unit_answered (Some act) due outcome pages = (due ≡ outcome) × (touched act ≡ pages)

-- an accepted event's reply, where nothing was forged or the event is the host's
abbrev pub Answers : State → Event → Reply → Type 0
Answers s (events.Reserve q r) (events.Reserved d) = IsReserved s q r d
Answers s (events.Submit d) events.Accepted = Unit {0}
Answers s (events.Cancel d) events.Accepted = Unit {0}
Answers s (events.Ring q) events.Accepted = Unit {0}
Answers s (events.Reap q) (events.Reaps what) = what ≡ reaped s q
Answers s (events.Collect q cid) (events.Collects f) = option_and_then (finished_from s) (record_at s.host q cid) ≡ Some f
Answers s (events.Release f) events.Accepted = Unit {0}
Answers s (events.Abort q cid) (events.Sent id) = IsNewIdentifier s 0 id
Answers s (events.DeleteSq q) (events.Sent id) = IsNewIdentifier s 0 id
Answers s (events.DeleteCq q) (events.Sent id) = IsNewIdentifier s 0 id
Answers s (events.CreateCq q vector) (events.Sent id) = IsNewIdentifier s 0 id
Answers s (events.CreateSq q) (events.Sent id) = IsNewIdentifier s 0 id
Answers s (events.Retire q) events.Accepted = Unit {0}
Answers s (events.Forge q slot bytes) events.Accepted = Unit {0}
Answers s events.Reset events.Accepted = Unit {0}
Answers s (events.Fetch q) (events.Fetched cid touched) = (option_map (λ e. e.cid) (next_rung s q) ≡ Some cid) × (touched ≡ touched_by_fetch s q)
Answers s (events.Walk q cid) (events.Walked outcome touched) = (j : Job) × (job_at s q cid ≡ Some j) × unit_answered (next_unit s j) (next_answer s j) outcome touched
Answers s (events.Complete q cid) (events.Completed touched) = touched ≡ post_page s q ∷ []
Answers s e reply = ⊥

-- after a forged entry the controller may answer anything of its own, of a queue number that the host knows, and touches two pages at most
abbrev pub AnswersAnything : State → Event → Reply → Type 0
AnswersAnything s (events.Fetch q) (events.Fetched cid touched) = IsTrue (is_some (host_queue s q)) × (length touched < 3)
AnswersAnything s (events.Walk q cid) (events.Walked outcome touched) = IsTrue (is_some (host_queue s q)) × (length touched < 3)
AnswersAnything s (events.Complete q cid) (events.Completed touched) = IsTrue (is_some (host_queue s q)) × (length touched ≡ 1)
AnswersAnything s e reply = ⊥

-- and give any refusal of its own; only a fetch has touched a page then
abbrev pub MayRefuse : Event → Refusal → List ℕ → Type 0
MayRefuse (events.Fetch q) events.Idle touched = touched ≡ []
MayRefuse (events.Fetch q) events.SlotOut touched = length touched < 2
MayRefuse (events.Fetch q) events.Full touched = length touched ≡ 1
MayRefuse (events.Fetch q) events.Memory touched = length touched ≡ 1
MayRefuse (events.Walk q cid) events.NoJob touched = touched ≡ []
MayRefuse (events.Walk q cid) events.Nothing touched = touched ≡ []
MayRefuse (events.Complete q cid) events.NoJob touched = touched ≡ []
MayRefuse (events.Complete q cid) events.Walking touched = touched ≡ []
MayRefuse (events.Complete q cid) events.Waits touched = touched ≡ []
MayRefuse (events.Complete q cid) events.Full touched = touched ≡ []
MayRefuse (events.Complete q cid) events.SlotOut touched = touched ≡ []
MayRefuse e why touched = ⊥

-- a refusal is the first cause that holds; lack of memory is reported only by calls that allocate, where no other cause holds
abbrev pub Refuses : State → Event → Refusal → List ℕ → Type 0
Refuses s e events.Memory touched = IsTrue (allocates e) × (refusal_of s e ≡ None) × (touched ≡ touched_by_refusal s e events.Memory)
Refuses s e why touched = (refusal_of s e ≡ Some why) × (touched ≡ touched_by_refusal s e why)

-- the reply that a step may give
abbrev pub Permits : State → Event → Reply → Type 0
Permits s e (events.Refused why touched) = MatchBool (s.trusted || not (IsController e)) (Refuses s e why touched) (MayRefuse e why touched)
Permits s e reply = MatchBool (s.trusted || not (IsController e)) ((refusal_of s e ≡ None) × Answers s e reply) (AnswersAnything s e reply)

-- what holds whatever was forged: the host's part, and which pages are in
pub record HostPart : Type 0 where
  pub entries : ℕ
  pub segment : ℕ
  pub in_store : List Bool
  pub host : Host
  pub trusted : Bool

abbrev pub host_part : State → HostPart
host_part s = record { entries = s.entries; segment = s.segment; in_store = map is_some s.memory; host = s.host; trusted = s.trusted }

-- whatever was forged, the image keeps its length, and each queue its position at the controller
pub record KeepsController (old new : State) : Type 0 where
  pub image : length new.controller.image ≡ length old.controller.image
  pub queues : length new.controller.queues ≡ length old.controller.queues

-- what an event of the controller leaves after a forged entry: other bytes in pages that are in, at most; such a page holds 4,096
pub record LeavesByController (old next new : State) : Type 0 where
  pub part : host_part new ≡ host_part next
  pub pages : AreWhole new.memory
  pub controller : KeepsController old new

-- and what any other event leaves then: the memory that is due, so that a host sees what was forged and what the controller wrote
pub record LeavesByHost (old next new : State) : Type 0 where
  pub part : host_part new ≡ host_part next
  pub memory : new.memory ≡ next.memory
  pub controller : KeepsController old new

abbrev pub forges : Event → Bool
forges (events.Forge q slot bytes) = true
forges e = false

abbrev pub resets : Event → Bool
resets events.Reset = true
resets e = false

-- whether an event leaves exactly one state: where nothing was or is forged, and a reset always
abbrev pub is_exact : Event → Bool → Bool
is_exact e trusted = resets e || (not (forges e) && trusted)

-- the state that a reply leads to: exactly one, or after a forged entry one with its host's part
abbrev pub Leaves : State → Event → Reply → State → Type 0
Leaves s e (events.Refused why touched) new = new ≡ s
Leaves s e reply new = MatchBool (is_exact e s.trusted) (new ≡ after s e reply) (MatchBool (IsController e) (LeavesByController s (after s e reply) new) (LeavesByHost s (after s e reply) new))

abbrev pub Step : State → Event → Reply → State → Type 0
Step old e reply new = IsProper e × Permits old e reply × Leaves old e reply new
