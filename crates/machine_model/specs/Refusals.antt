-- Which refusal an event meets: the first cause that holds, in the order of the checks.
use Rattle.std.specs.{Cmp.Lexicographic.pointwise, List.list_any, Option.{option_map, option_map_or}}
use Rattle.std.specs.Prelude.{ℕ, ◌+◌, ◌*◌, ◌-◌, ◌/◌, ◌%◌, ◌==◌, nat_lt, nat_le, Bool, true, false, ◌&&◌, ◌||◌, not, Option, Some, None, List, [], ◌∷◌, length, find, is_some, is_none, slice_get, slice_index, slice_range, option_and_then, if◌then◌else◌, nat_eq}
use Rattle.machine_model.specs.{Commands.{Work, Io, Management}, Events.{Event, Refusal}, Memory.is_in, Placement.{wanted_of, first_of_run}}
use Rattle.machine_model.specs.State.{State, HostQueue, HostState, Live, Deleting, Retired, Gone, MakingCq, HalfMade, MakingSq, ServedQueue, Record, Phase, Drafted, Submitted, Held, Collected, Job, PostedCompletion, record_at, outstanding_on}
use Rattle.page_memory.specs.{Pages.{Pages, page_at}, declared.page.Half.{Half, TheVariants.{Submission, Completion}}}
use Rattle.entry_codec.specs.{Completion.completion_of, Status.is_success, declared.{admin_opcode.TheConstants.DELETE_IO_SQ, completion.ComEntry.ComEntry, hints.TheConstants.Hints.NONE}}
use Rattle.entry_codec.specs.declared.submission.SubEntry.{SubEntry}
use Rattle.admin_commands.specs.{Entries.named_queue, Verdicts.is_live as is_running, declared.AdminKind.TheVariants.{DeleteSq, DeleteCq, CreateCq, CreateSq}}
use Rattle.io_commands.specs.{Asked.Request, BlockSizes.block_bytes, Requests.{fault_of, is_admin, same_flags, same_kind}, Values.numbers_of}
use Rattle.io_commands.specs.declared.request.{Kind.Kind, Piece.{Piece, TheVariants.{Data, Bucket}}, RequestFault.RequestFault}
use Rattle.controller_walk.specs.Units.{first_passing}
use Rattle.queue_pair.specs.{Memory.{with_phase, half_pages}, Slots.{is_full, moved}}
use Rattle.io_commands.specs.declared.block_size.BlockSize.{BlockSize, TheVariants.{Bytes512}}
use Rattle.machine_model.specs.declared.words.Peer.{Peer, TheVariants.{Modelled, Device}}
use Rattle.machine_model.specs.Events as events

-- Looking things up

abbrev pub host_queue : State → ℕ → Option HostQueue
host_queue s q = slice_get s.host.queues q

abbrev pub served_queue : State → ℕ → Option ServedQueue
served_queue s q = slice_get s.controller.queues q

abbrev pub is_live : HostState → Bool
is_live Live = true
is_live state = false

abbrev pub is_deleting : HostState → Bool
is_deleting (Deleting noted) = true
is_deleting state = false

abbrev pub is_deleted : HostState → Bool
is_deleted (Deleting noted) = noted
is_deleted state = false

-- its deletion was asked for and not completed
abbrev pub is_asked : HostState → Bool
is_asked (Deleting noted) = not noted
is_asked state = false

abbrev pub is_gone : HostState → Bool
is_gone Gone = true
is_gone state = false

-- the creation of its completion queue was asked for and not completed, and so that of its submission queue
abbrev pub is_making_cq : HostState → Bool
is_making_cq MakingCq = true
is_making_cq state = false

abbrev pub is_half_made : HostState → Bool
is_half_made HalfMade = true
is_half_made state = false

abbrev pub is_making_sq : HostState → Bool
is_making_sq MakingSq = true
is_making_sq state = false

-- whether the host has its submission half
abbrev pub has_sq : HostState → Bool
has_sq Live = true
has_sq (Deleting noted) = true
has_sq MakingSq = true
has_sq state = false

-- whether the host has its completion half
abbrev pub has_cq : HostState → Bool
has_cq Gone = false
has_cq state = true

-- whether its I/O commands are taken or known: it was made, and its submission half is not given back
abbrev pub in_service : HostState → Bool
in_service Live = true
in_service (Deleting noted) = true
in_service state = false

-- whether its completions are reaped: it was made, and its completion half is not given back
abbrev pub is_reaped : HostState → Bool
is_reaped Live = true
is_reaped (Deleting noted) = true
is_reaped Retired = true
is_reaped state = false

-- whether its rings are made and not both in use yet
abbrev pub is_making : HostState → Bool
is_making MakingCq = true
is_making HalfMade = true
is_making MakingSq = true
is_making state = false

-- whether its deletion, noted or not, or its creation is under way, and whether it has its completion half alone
abbrev pub is_changing : HostState → Bool
is_changing (Deleting noted) = true
is_changing MakingCq = true
is_changing MakingSq = true
is_changing state = false

abbrev pub has_cq_alone : HostState → Bool
has_cq_alone Retired = true
has_cq_alone HalfMade = true
has_cq_alone state = false

-- whether the host's state of a queue passes a test; an unknown queue passes none
abbrev pub in_state : (HostState → Bool) → State → ℕ → Bool
in_state test s q = option_map_or (λ queue. test queue.state) (host_queue s q) false

abbrev pub is_submitted : Phase → Bool
is_submitted Submitted = true
is_submitted phase = false

abbrev pub is_drafted : Phase → Bool
is_drafted Drafted = true
is_drafted phase = false

abbrev pub is_held : Phase → Bool
is_held Held = true
is_held phase = false

abbrev pub is_collected : Phase → Bool
is_collected Collected = true
is_collected phase = false

-- whether the record of a command, where there is one, passes a test
abbrev pub record_is : (Record → Bool) → State → ℕ → ℕ → Bool
record_is test s q cid = option_map_or test (record_at s.host q cid) false

-- Comparing a moved value with its record

abbrev pub same_piece : Piece → Piece → Bool
same_piece (Data o n) (Data p m) = (o == p) && (n == m)
same_piece (Bucket n) (Bucket m) = n == m
same_piece a b = false

abbrev pub same_pieces : List Piece → List Piece → Bool
same_pieces [] [] = true
same_pieces [] (y ∷ ys) = false
same_pieces (x ∷ xs) [] = false
same_pieces (x ∷ xs) (y ∷ ys) = same_piece x y && same_pieces xs ys

abbrev pub same_request : Request → Request → Bool
same_request a b =
    same_kind a.kind b.kind && (a.nsid == b.nsid) && same_flags a.flags b.flags && (a.slba == b.slba) && (block_bytes a.block_size == block_bytes b.block_size) && (a.blocks == b.blocks) && same_pieces a.pieces b.pieces

abbrev pub asks_for : Request → Work → Bool
asks_for request (Io r) = same_request request r
asks_for request (Management a) = false

-- the record that a moved value belongs to: of this phase, with the same request and pages
abbrev pub is_of : (Phase → Bool) → Request → List ℕ → List ℕ → Record → Bool
is_of phase request data_pages chain_pages r =
    phase r.phase && asks_for request r.work && pointwise nat_eq data_pages r.data_pages && pointwise nat_eq chain_pages r.chain_pages

-- Pages and identifiers

abbrev pub pages_wanted : State → Request → ℕ
pages_wanted s r = wanted_of s.host.free s.segment r.pieces

abbrev pub no_identifier : State → ℕ → Bool
no_identifier s q = nat_le (s.entries - 1) (length (outstanding_on s.host q))

-- where the lowest run of free pages for a half begins
abbrev pub run_for : State → Half → Option ℕ
run_for s half = first_of_run s.host.free (half_pages s.entries half)

abbrev pub is_io_queue : State → ℕ → Bool
is_io_queue s q = not (q == 0) && is_some (host_queue s q)

-- one slot is left empty
abbrev pub queue_full : State → ℕ → Bool
queue_full s q = option_map_or (λ queue. is_full s.entries queue.ring.known_head queue.ring.tail) (host_queue s q) true

abbrev pub deletes_cq_of : ℕ → Work → Bool
deletes_cq_of q (Management (DeleteCq a)) = a == q
deletes_cq_of q work = false

abbrev pub deletes_sq_of : ℕ → Work → Bool
deletes_sq_of q (Management (DeleteSq a)) = a == q
deletes_sq_of q work = false

abbrev pub creates_cq_of : ℕ → Work → Bool
creates_cq_of q (Management (CreateCq a n base vector)) = a == q
creates_cq_of q work = false

abbrev pub creates_sq_of : ℕ → Work → Bool
creates_sq_of q (Management (CreateSq a n base)) = a == q
creates_sq_of q work = false

abbrev pub cq_deletion_outstanding : State → ℕ → Bool
cq_deletion_outstanding s q = list_any (λ r. deletes_cq_of q r.work) s.host.records

-- Slots

-- the page of slot k of consecutive slots of this many bytes
abbrev pub slot_page : List ℕ → ℕ → ℕ → ℕ
slot_page pages size k = slice_index pages (k * size / 4096)

abbrev pub slot_offset : ℕ → ℕ → ℕ
slot_offset size k = k * size % 4096

abbrev pub slot_bytes : Pages → List ℕ → ℕ → ℕ → Option (List ℕ)
slot_bytes m pages size k = option_map (λ bytes. slice_range bytes (slot_offset size k) (slot_offset size k + size)) (page_at m (slot_page pages size k))

-- the completion entry that the host sees at its head: the oldest completion, and after a forged entry whatever the slot holds with the expected phase
abbrev pub entry_of : ℕ → PostedCompletion → ComEntry
entry_of q a = record { dw0 = a.dw0; sqhd = a.sq_head; sqid = q; cid = a.cid; phase = true; status = a.status; hints = NONE }

abbrev pub front_completion : List PostedCompletion → Option PostedCompletion
front_completion [] = None
front_completion (a ∷ as') = Some a

abbrev pub slot_entry : Pages → HostQueue → Option ComEntry
slot_entry m queue =
    option_and_then (λ bytes. with_phase queue.ring.phase (completion_of bytes)) (slot_bytes m queue.cq_pages 16 queue.ring.head)

abbrev pub seen_entry : State → ℕ → Option ComEntry
seen_entry s q =
    if s.trusted
    then option_map (entry_of q) (option_and_then (λ queue. front_completion queue.completions) (served_queue s q))
    else option_and_then (slot_entry s.memory) (host_queue s q)

-- At the controller

abbrev pub is_job : ℕ → ℕ → Job → Bool
is_job q cid j = (j.q == q) && (j.entry.cid == cid)

abbrev pub job_at : State → ℕ → ℕ → Option Job
job_at s q cid = find (is_job q cid) s.controller.jobs

abbrev pub next_rung : State → ℕ → Option SubEntry
next_rung s q =
    option_and_then (λ queue. if is_running queue.state && nat_lt 0 queue.rung then slice_get queue.unfetched 0 else None) (served_queue s q)

-- The controller's head of a submission ring: from there it is one move for each entry to the host's tail, and from the tail
-- the rest of the ring to there.
abbrev pub fetch_slot : State → ℕ → ℕ
fetch_slot s q =
    option_map_or (λ queue. option_map_or (λ at. moved s.entries queue.ring.tail (s.entries - length at.unfetched)) (served_queue s q) 0) (host_queue s q) 0

-- its tail of a completion ring: from the host's head it is one move for each completion
abbrev pub post_slot : State → ℕ → ℕ
post_slot s q =
    option_map_or (λ queue. option_map_or (λ at. moved s.entries queue.ring.head (length at.completions)) (served_queue s q) 0) (host_queue s q) 0

abbrev pub fetch_page : State → ℕ → ℕ
fetch_page s q = option_map_or (λ queue. slot_page queue.sq_pages 64 (fetch_slot s q)) (host_queue s q) 0

abbrev pub post_page : State → ℕ → ℕ
post_page s q = option_map_or (λ queue. slot_page queue.cq_pages 16 (post_slot s q)) (host_queue s q) 0

abbrev pub completions_full : State → ℕ → Bool
completions_full s q = option_map_or (λ at. length at.completions == s.entries - 1) (served_queue s q) true

abbrev pub conflicts : State → ℕ → Bool
conflicts s q = option_map_or (λ e. is_some (job_at s q e.cid)) (next_rung s q) false

-- what a job's completion waits for: an Abort for the job that it stopped, a successful deletion for the queue's jobs
abbrev pub is_abort_of : ℕ → Option ℕ → Bool
is_abort_of cid None = false
is_abort_of cid (Some abort) = abort == cid

abbrev pub waits : State → Job → Bool
waits s j =
    (j.q == 0)
    && (list_any (λ k. is_abort_of j.entry.cid k.waiting_abort) s.controller.jobs
    || ((j.entry.opcode == DELETE_IO_SQ) && option_map_or is_success j.verdict false
    && list_any (λ k. k.q == named_queue j.entry) s.controller.jobs))

abbrev pub job_is : (Job → Bool) → State → ℕ → ℕ → Bool
job_is test s q cid = option_map_or test (job_at s q cid) false

-- The refusals

abbrev pub no_io_queue : State → ℕ → Bool
no_io_queue s q = (q == 0) || not (in_state in_service s q)

-- whether a host takes admin commands of the caller's own
abbrev pub takes_admin : Peer → Bool
takes_admin Device = true
takes_admin Modelled = false

-- whether no queue of this number takes a command of a kind: queue 0 takes admin commands, and an I/O queue in service the others
abbrev pub lacks_queue : State → ℕ → Kind → Bool
lacks_queue s q kind = if is_admin kind then not (takes_admin s.host.peer && (q == 0)) else no_io_queue s q

-- whether a host takes blocks of a size
abbrev pub takes : Peer → BlockSize → Bool
takes Device size = true
takes Modelled Bytes512 = true
takes Modelled size = false

abbrev pub reserve_causes : State → ℕ → Request → Option RequestFault → List (Bool × Refusal)
reserve_causes s q r bad =
    (lacks_queue s q r.kind, events.NoQueue)
    ∷ (in_state is_deleting s q, events.Deleting)
    ∷ (is_some bad, option_map_or events.Bad bad events.NoQueue)
    ∷ (not (takes s.host.peer r.block_size), events.OtherBlocks)
    ∷ (no_identifier s q, events.NoIdentifier)
    ∷ (nat_lt (length s.host.free) (pages_wanted s r), events.NoPages (pages_wanted s r) (length s.host.free))
    ∷ []

-- what an event may be refused for, in the order of the checks, lack of memory aside; exact for the controller's events only where nothing was forged
abbrev pub causes : State → Event → List (Bool × Refusal)
causes s (events.Reserve q r) = reserve_causes s q r (fault_of r.kind r.block_size r.blocks r.pieces)
causes s (events.Submit d) =
    (not (record_is (is_of is_drafted d.request (numbers_of d.data_pages) (numbers_of d.chain_pages)) s d.q d.cid), events.Stranger)
    ∷ (is_none d.entry, events.NotBuilt)
    ∷ (not (in_state is_live s d.q), events.QueueGone)
    ∷ (queue_full s d.q, events.QueueFull)
    ∷ []
causes s (events.Cancel d) =
    (not (record_is (is_of is_drafted d.request (numbers_of d.data_pages) (numbers_of d.chain_pages)) s d.q d.cid), events.Stranger) ∷ []
causes s (events.Ring q) =
    (not (in_state in_service s q), events.NoQueue) ∷ []
causes s (events.Reap q) = (not (in_state is_reaped s q), events.NoQueue) ∷ []
causes s (events.Collect q cid) =
    (not (record_is (λ r. is_submitted r.phase || is_held r.phase) s q cid), events.Stranger)
    ∷ (record_is (λ r. is_submitted r.phase) s q cid, events.NotYet)
    ∷ []
causes s (events.Release f) =
    (not (record_is (is_of is_collected f.request (numbers_of f.data_pages) (numbers_of f.chain_pages)) s f.q f.cid), events.Stranger) ∷ []
causes s (events.Abort q cid) =
    (no_io_queue s q, events.NoQueue)
    ∷ (in_state is_deleting s q, events.WrongState)
    ∷ (not (record_is (λ r. is_submitted r.phase) s q cid), events.NoSuchCommand)
    ∷ (no_identifier s 0, events.NoIdentifier)
    ∷ (queue_full s 0, events.QueueFull)
    ∷ []
causes s (events.DeleteSq q) =
    (no_io_queue s q, events.NoQueue)
    ∷ (in_state is_deleting s q, events.WrongState)
    ∷ (no_identifier s 0, events.NoIdentifier)
    ∷ (queue_full s 0, events.QueueFull)
    ∷ []
causes s (events.DeleteCq q) =
    ((q == 0) || not (in_state has_cq s q), events.NoQueue)
    ∷ (in_state is_changing s q || (in_state has_cq_alone s q && cq_deletion_outstanding s q), events.WrongState)
    ∷ (no_identifier s 0, events.NoIdentifier)
    ∷ (queue_full s 0, events.QueueFull)
    ∷ []
causes s (events.CreateCq q vector) =
    (not (is_io_queue s q), events.NoQueue)
    ∷ (not (in_state is_gone s q), events.WrongState)
    ∷ (nat_lt 0 (length (outstanding_on s.host q)), events.Outstanding)
    ∷ (no_identifier s 0, events.NoIdentifier)
    ∷ (is_none (run_for s Completion), events.NoRun (half_pages s.entries Completion))
    ∷ (queue_full s 0, events.QueueFull)
    ∷ []
causes s (events.CreateSq q) =
    (not (is_io_queue s q), events.NoQueue)
    ∷ (not (in_state is_half_made s q) || cq_deletion_outstanding s q, events.WrongState)
    ∷ (no_identifier s 0, events.NoIdentifier)
    ∷ (is_none (run_for s Submission), events.NoRun (half_pages s.entries Submission))
    ∷ (queue_full s 0, events.QueueFull)
    ∷ []
causes s (events.Retire q) =
    (not (in_state is_deleted s q), events.NotDeleted) ∷ (is_some (seen_entry s q), events.NotDrained) ∷ []
causes s (events.Forge q slot bytes) =
    (not (in_state is_reaped s q), events.NoQueue)
    ∷ (nat_le s.entries slot, events.NoSlot)
    ∷ []
causes s events.Reset = []
causes s (events.Fetch q) =
    (is_none (next_rung s q), events.Idle)
    ∷ (not (is_in s.memory (fetch_page s q)), events.SlotOut)
    ∷ (conflicts s q && completions_full s q, events.Full)
    ∷ (conflicts s q && not (is_in s.memory (post_page s q)), events.SlotOut)
    ∷ []
causes s (events.Walk q cid) =
    (is_none (job_at s q cid), events.NoJob)
    ∷ (job_is (λ j. is_some j.verdict || (j.q == 0)) s q cid, events.Nothing)
    ∷ []
causes s (events.Complete q cid) =
    (is_none (job_at s q cid), events.NoJob)
    ∷ (job_is (λ j. is_none j.verdict) s q cid, events.Walking)
    ∷ (job_is (waits s) s q cid, events.Waits)
    ∷ (completions_full s q, events.Full)
    ∷ (not (is_in s.memory (post_page s q)), events.SlotOut)
    ∷ []

-- the refusal that an event meets: the first cause that holds
abbrev pub refusal_of : State → Event → Option Refusal
refusal_of s e = first_passing (causes s e)
