-- What holds of a state where nothing was forged: the host's side and the controller's agree.
use Rattle.std.specs.{List.AllByRecursion, Option.option_map_or}
use Rattle.std.specs.Prelude.{◌≡◌, ℕ, ◌+◌, ◌-◌, ◌%◌, ◌<◌, ◌≤◌, ◌==◌, Bool, true, false, not, ◌&&◌, Option, Some, None, option_and_then, List, [], ◌∷◌, length, find, slice_get, if◌then◌else◌}
use Rattle.admin_commands.specs.{Entries.admin_entry, Verdicts.is_absent, declared.AdminKind.{AdminKind, TheVariants.{DeleteSq, DeleteCq, CreateCq, CreateSq}}}
use Rattle.entry_codec.specs.{Status.is_success, declared.{status.Status.Status, submission.SubEntry.SubEntry}}
use Rattle.page_memory.specs.{Pages.Pages, declared.page.Half.TheVariants.{Submission, Completion}}
use Rattle.queue_pair.specs.{Memory.half_pages, Rings.fresh_host_ring, Slots.distance}
use Rattle.machine_model.specs.{Claims.IsSound, Commands.{Work, Io, Management}, Positions.StandsInRings}
use Rattle.machine_model.specs.{Refusals.{has_sq, has_cq, in_service, is_gone, is_making, is_live}, Standing.{CommandStands, HasUnitLeft, unfetched_at}}
use Rattle.machine_model.specs.State.{State, HostQueue, HostState, Live, Deleting, MakingSq, ServedQueue, Record, Job, PostedCompletion, is_at}
use Rattle.machine_model.specs.declared.words.Peer.TheVariants.{Modelled}
use Rattle.machine_model.specs.Weights.{one, total, here, sent}

-- A queue on both sides

-- whether the host knows that the controller has no submission queue, since one was deleted and none is being made
abbrev pub is_known_deleted : HostState → Bool
is_known_deleted Live = false
is_known_deleted (Deleting noted) = noted
is_known_deleted MakingSq = false
is_known_deleted state = true

-- what the host knows of a queue fits what the controller has of it
pub record QueueFits (n : ℕ) (h : HostQueue) (d : ServedQueue) : Type 0 where
  -- the halves are whole until they are freed
  pub sub : has_sq h.state ≡ true → length h.sq_pages ≡ half_pages n Submission
  pub comp : has_cq h.state ≡ true → length h.cq_pages ≡ half_pages n Completion
  -- a submission queue has its completion queue, and without it there is no entry
  pub half : is_absent d.state ≡ false → d.cq_there ≡ true
  pub emptied : is_absent d.state ≡ true → d.unfetched ≡ []
  -- nothing is in the rings of a queue that is out of service
  pub unfetched : in_service h.state ≡ false → d.unfetched ≡ []
  pub completions : in_service h.state ≡ false → d.completions ≡ []
  -- and rings that are being made are as they open
  pub fresh : is_making h.state ≡ true → h.ring ≡ fresh_host_ring

-- both sides have as many queues, and each fits
abbrev pub QueuesFit : ℕ → List HostQueue → List ServedQueue → Type 0
QueuesFit n [] [] = Unit {0}
QueuesFit n [] (d ∷ ds) = ⊥
QueuesFit n (h ∷ hs) [] = ⊥
QueuesFit n (h ∷ hs) (d ∷ ds) = QueueFits n h d × QueuesFit n hs ds

-- whether the controller has no submission queue of a number
abbrev pub is_absent_at : List ServedQueue → ℕ → Bool
is_absent_at ds q = option_map_or (λ at. is_absent at.state) (slice_get ds q) true

-- whether the controller has a completion queue of a number
abbrev pub has_completions_at : List ServedQueue → ℕ → Bool
has_completions_at ds q = option_map_or (λ at. at.cq_there) (slice_get ds q) false

-- 1 for a job of a queue
abbrev pub on_queue : ℕ → Job → ℕ
on_queue q j = one (j.q == q)

-- Admin commands: each stands in one place at the controller, and says what its record says

-- an outstanding admin command of this identifier, and what it is for
abbrev pub Knows : List Record → ℕ → AdminKind → Type 0
Knows rs c adm = (r : Record) × (find (is_at 0 c) rs ≡ Some r) × (r.work ≡ Management adm)

-- only an I/O queue is deleted
abbrev pub DeletesIo : AdminKind → Type 0
DeletesIo (DeleteSq q) = (q % 65536 == 0) ≡ false
DeletesIo adm = Unit {0}

-- an entry that was not fetched is that of its record
abbrev pub EntryKnown : List Record → SubEntry → Type 0
EntryKnown rs e = (adm : AdminKind) × Knows rs e.cid adm × (e ≡ admin_entry adm e.cid)

-- so is a job's of queue 0
abbrev pub JobKnown : List Record → Job → Type 0
JobKnown rs j = (j.q ≡ 0) → (adm : AdminKind) × Knows rs j.entry.cid adm × (j.entry ≡ admin_entry adm j.entry.cid) × ((st : Status) → j.verdict ≡ Some st → is_success st ≡ true → DeletesIo adm)

-- a completion is that of an outstanding command
abbrev pub CompletionKnown : List Record → PostedCompletion → Type 0
CompletionKnown rs an = (adm : AdminKind) × Knows rs an.cid adm

-- 1 for an entry, a job of queue 0 and a completion of this identifier
abbrev pub entry_is : ℕ → SubEntry → ℕ
entry_is c e = one (e.cid == c)

abbrev pub job_is : ℕ → Job → ℕ
job_is c j = one ((j.q == 0) && (j.entry.cid == c))

abbrev pub completion_is : ℕ → PostedCompletion → ℕ
completion_is c an = one (an.cid == c)

-- the entries of queue 0 that were not fetched, and its completions
abbrev pub waiting : List ServedQueue → List SubEntry
waiting ds = option_map_or (λ at. at.unfetched) (slice_get ds 0) []

abbrev pub admin_completions : List ServedQueue → List PostedCompletion
admin_completions ds = option_map_or (λ at. at.completions) (slice_get ds 0) []

-- each of them is known, and no identifier stands in more places than it is outstanding
pub record AdminCommandsStand (rs : List Record) (un : List SubEntry) (js : List Job) (ans : List PostedCompletion) : Type 0 where
  pub places : (c : ℕ) → total (entry_is c) un + (total (job_is c) js + total (completion_is c) ans) ≤ total (here 0 c) rs
  pub entries : AllByRecursion (EntryKnown rs) un
  pub jobs : AllByRecursion (JobKnown rs) js
  pub completions : AllByRecursion (CompletionKnown rs) ans

-- What is deleted and made: for each queue a token goes round, and it is nowhere twice. A submission queue stands at the controller, or was deleted and the host is told
-- so, or the host knows it, or one is to be made and is not there yet. A completion queue in the same way. A completion that the host rejects takes its token with it.

-- the admin command of an identifier of queue 0, if it is outstanding
abbrev pub kind_of : Work → Option AdminKind
kind_of (Io r) = None
kind_of (Management adm) = Some adm

abbrev pub kind_at : List Record → ℕ → Option AdminKind
kind_at rs c = option_and_then (λ r. kind_of r.work) (find (is_at 0 c) rs)

-- whether a command deletes or makes the submission queue or the completion queue of a number
abbrev pub deletes_sq : ℕ → AdminKind → Bool
deletes_sq q (DeleteSq a) = a % 65536 == q
deletes_sq q adm = false

abbrev pub deletes_cq : ℕ → AdminKind → Bool
deletes_cq q (DeleteCq a) = a % 65536 == q
deletes_cq q adm = false

abbrev pub creates_cq : ℕ → AdminKind → Bool
creates_cq q (CreateCq a n base vector) = a % 65536 == q
creates_cq q adm = false

abbrev pub creates_sq : ℕ → AdminKind → Bool
creates_sq q (CreateSq a n base) = a % 65536 == q
creates_sq q adm = false

-- whether the command of an identifier is such a one
abbrev pub is_kind : (AdminKind → Bool) → List Record → ℕ → Bool
is_kind test rs c = option_map_or test (kind_at rs c) false

-- whether an admin job will be completed with success
abbrev pub succeeds : Job → Bool
succeeds j = option_map_or is_success j.verdict false

-- how many such commands were not fetched or have failed, and whose completions were not reaped
abbrev pub unmade : (AdminKind → Bool) → List Record → List SubEntry → List Job → List PostedCompletion → ℕ
unmade test rs un js ans =
    total (λ e. one (is_kind test rs e.cid)) un
    + (total (λ j. one ((j.q == 0) && is_kind test rs j.entry.cid && not (succeeds j))) js
    + total (λ an. one (is_kind test rs an.cid && not (is_success an.status))) ans)

-- how many such commands are completed with success, and not reaped
abbrev pub completed_well : (AdminKind → Bool) → List Record → List PostedCompletion → ℕ
completed_well test rs ans = total (λ an. one (is_kind test rs an.cid && is_success an.status)) ans

-- and how many have succeeded, completed or not
abbrev pub done_well : (AdminKind → Bool) → List Record → List Job → List PostedCompletion → ℕ
done_well test rs js ans =
    total (λ j. one ((j.q == 0) && is_kind test rs j.entry.cid && succeeds j)) js + completed_well test rs ans

-- whether the host knows a queue deleted, or gone
abbrev pub knows_deleted_at : List HostQueue → ℕ → Bool
knows_deleted_at hs q = option_map_or (λ h. is_known_deleted h.state) (slice_get hs q) false

abbrev pub is_gone_at : List HostQueue → ℕ → Bool
is_gone_at hs q = option_map_or (λ h. is_gone h.state) (slice_get hs q) false

-- the tokens of a queue's submission side, and of its completion side
abbrev pub submission_tokens : List Record → List HostQueue → List ServedQueue → List Job → ℕ → ℕ
submission_tokens rs hs ds js q =
    one (not (is_absent_at ds q)) + (completed_well (deletes_sq q) rs (admin_completions ds) + (one (knows_deleted_at hs q) + unmade (creates_sq q) rs (waiting ds) js (admin_completions ds)))

abbrev pub completion_tokens : List Record → List HostQueue → List ServedQueue → List Job → ℕ → ℕ
completion_tokens rs hs ds js q =
    one (has_completions_at ds q) + (done_well (deletes_cq q) rs js (admin_completions ds) + (one (is_gone_at hs q) + unmade (creates_cq q) rs (waiting ds) js (admin_completions ds)))

-- what tells that a submission queue is there: the host has it live, or its deletion has not succeeded, or its creation has
abbrev pub is_live_at : List HostQueue → ℕ → Bool
is_live_at hs q = option_map_or (λ h. is_live h.state) (slice_get hs q) false

abbrev pub submission_signs : List Record → List HostQueue → List ServedQueue → List Job → ℕ → ℕ
submission_signs rs hs ds js q = one (is_live_at hs q) + (unmade (deletes_sq q) rs (waiting ds) js (admin_completions ds) + done_well (creates_sq q) rs js (admin_completions ds))

-- Each queue has no two tokens of its submission side, nor of its completion side, and a submission queue is there if something tells so.
pub record TokensGoRound (rs : List Record) (hs : List HostQueue) (ds : List ServedQueue) (js : List Job) : Type 0 where
  pub submission : (q : ℕ) → submission_tokens rs hs ds js q ≤ 1
  pub completion : (q : ℕ) → completion_tokens rs hs ds js q ≤ 1
  pub there : (q : ℕ) → q < length hs → 0 < submission_signs rs hs ds js q → is_absent_at ds q ≡ false

-- Commands of every queue

-- whether a queue is out of service at the host
abbrev pub is_out_of_service_at : List HostQueue → ℕ → Bool
is_out_of_service_at hs q = option_map_or (λ h. not (in_service h.state)) (slice_get hs q) false

-- the completions of a queue that were not reaped
abbrev pub completions_at : List ServedQueue → ℕ → List PostedCompletion
completions_at qs q = option_map_or (λ at. at.completions) (slice_get qs q) []

-- how much the unfetched entries of a queue count, by their identifiers; of a queue out of service none does
abbrev pub unfetched_count : ℕ → (ℕ → ℕ) → List HostQueue → List ServedQueue → ℕ
unfetched_count q w hs qs = if is_out_of_service_at hs q then 0 else total (λ e. w e.cid) (unfetched_at qs q)

-- how much a job of a queue counts, by its identifier
abbrev pub job_weight : ℕ → (ℕ → ℕ) → Job → ℕ
job_weight q w j = if j.q == q then w j.entry.cid else 0

-- the entries, jobs and completions of a queue count no more than its submitted commands
abbrev pub CommandsStandOnce : List HostQueue → List Record → List ServedQueue → List Job → Type 0
CommandsStandOnce hs rs qs js =
    (q : ℕ) (w : ℕ → ℕ) → unfetched_count q w hs qs + (total (job_weight q w) js + total (λ an. w an.cid) (completions_at qs q)) ≤ total (sent q w) rs

-- each command stands as it was submitted
abbrev pub CommandsStand : Pages → List ServedQueue → List Job → List Record → Type 0
CommandsStand m qs js rs = AllByRecursion (CommandStands m qs js) rs

-- Heads

-- how many commands of a queue are submitted
abbrev pub sent_count : ℕ → List Record → ℕ
sent_count q rs = total (sent q (λ c. 1)) rs

-- Each completion's head is a slot, and no more slots behind the tail than commands are submitted that this completion and those before it don't end.
abbrev pub AreCompletionsBehind : (n tail k : ℕ) → List PostedCompletion → Type 0
AreCompletionsBehind n tail k [] = Unit {0}
AreCompletionsBehind n tail k (an ∷ ans) = (an.sq_head < n) × (distance n an.sq_head tail < k) × AreCompletionsBehind n tail (k - 1) ans

-- the head that the host knows of a queue is no further behind its tail than `k` commands, and so are those that its completions tell
pub record IsHeadBehind (n k : ℕ) (queue : HostQueue) (ans : List PostedCompletion) : Type 0 where
  pub known : distance n queue.ring.known_head queue.ring.tail ≤ k
  pub completions : AreCompletionsBehind n queue.ring.tail k ans

-- identifiers are in range, and the heads of a queue are behind its tail by no more than its submitted commands
pub record AreHeadsBehind (n : ℕ) (hs : List HostQueue) (rs : List Record) (qs : List ServedQueue) : Type 0 where
  pub ids : AllByRecursion (λ r. r.cid < n - 1) rs
  pub behind : (q : ℕ) (queue : HostQueue) → slice_get hs q ≡ Some queue → in_service queue.state ≡ true → IsHeadBehind n (sent_count q rs) queue (completions_at qs q)

-- All of it: what each step keeps as long as nothing is forged. It speaks of the state alone, and of no step that led to it.
pub record SidesAgree (s : State) : Type 0 where
  -- what holds whatever was forged: one owner for each page, and a page is out with its command
  pub sound : IsSound s
  pub rings : StandsInRings s
  -- the limits of the world
  pub modelled : s.host.peer ≡ Modelled
  pub some_entries : 0 < s.entries
  pub few_queues : length s.host.queues ≤ 65536
  pub few_pages : length s.memory ≤ 65536
  -- queue by queue, the host's part fits the controller's, and a job's queue is there, and in service at the host
  pub pairs : QueuesFit s.entries s.host.queues s.controller.queues
  pub job_queues : (q : ℕ) → 0 < total (on_queue q) s.controller.jobs → is_absent_at s.controller.queues q ≡ false
  pub job_service : (q : ℕ) → 0 < total (on_queue q) s.controller.jobs → is_out_of_service_at s.host.queues q ≡ false
  -- admin commands stand once, and the host is told what they delete and make
  pub admin_commands : AdminCommandsStand s.host.records (waiting s.controller.queues) s.controller.jobs (admin_completions s.controller.queues)
  pub tokens : TokensGoRound s.host.records s.host.queues s.controller.queues s.controller.jobs
  -- commands stand as they were submitted, in no more places than they are, and a job's walk has a unit left
  pub commands : CommandsStand s.memory s.controller.queues s.controller.jobs s.host.records
  pub places : CommandsStandOnce s.host.queues s.host.records s.controller.queues s.controller.jobs
  pub units_left : AllByRecursion (HasUnitLeft s) s.controller.jobs
  -- heads and identifiers
  pub heads : AreHeadsBehind s.entries s.host.queues s.host.records s.controller.queues
