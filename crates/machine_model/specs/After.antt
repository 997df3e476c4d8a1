-- What an accepted event leaves: the state is a function of the state before, the event and the reply, which names what was chosen.
use Rattle.std.specs.{List.flat_map, Option.option_map_or}
use Rattle.std.specs.Prelude.{ℕ, ◌+◌, ◌*◌, ◌-◌, ◌/◌, ◌%◌, ◌==◌, Bool, true, false, ◌&&◌, ◌||◌, not, Option, Some, None, List, [], ◌∷◌, ◌++◌, length, map, filter, take, drop, is_none, slice_get, slice_index, if◌then◌else◌, unwrap_or}
use Rattle.page_ledger.specs.Owners.{is_among, pages_from}
use Rattle.controller_walk.specs.{Laws.after_units, Units.{Act, Stays, Reads, Moves, Course, course_of_list, units}, Walks.answer}
use Rattle.controller_walk.specs.declared.walk.WalkState.{WalkState}
use Rattle.admin_commands.specs.{Entries.{admin_entry, named_queue, named_command}, Verdicts.decision, declared.AdminKind.AdminKind}
use Rattle.admin_commands.specs.declared.{AdminKind.TheVariants.{Abort, DeleteSq, DeleteCq, CreateCq, CreateSq}, AdminVerdict.AdminVerdict}
use Rattle.admin_commands.specs.declared.AdminVerdict.TheVariants.{Answer as Answered, AbortJob, StopQueue, DropCompletion, MakeCompletion, MakeSubmission}
use Rattle.admin_commands.specs.declared.{DeviceView.DeviceView, SqState.{SqState, TheVariants.{Absent, Live as Running, Stopping}}}
use Rattle.block_image.specs.Blocks.{block_count}
use Rattle.sgl_descriptor.specs.declared.Direction.{Direction, TheVariants.{Destination, Source}}
use Rattle.entry_codec.specs.{Completion.completion_bytes, Status.is_success, Submission.submission_bytes, declared.admin_opcode.TheConstants.DELETE_IO_SQ}
use Rattle.entry_codec.specs.declared.{completion.ComEntry.ComEntry, hints.{Hints.Hints, TheConstants.Hints.NONE}, status.Status.Status}
use Rattle.entry_codec.specs.declared.status.TheConstants.Status.{SUCCESS, COMMAND_ID_CONFLICT, ABORT_REQUESTED, ABORTED_SQ_DELETION}
use Rattle.entry_codec.specs.declared.submission.SubEntry.{SubEntry}
use Rattle.io_commands.specs.{Drafts.DraftContents, Jobs.{io_fault, bytes_after_check, need_of_entry, direction_of_entry, verdict_of}}
use Rattle.io_commands.specs.Values.{numbers_of}
use Rattle.page_memory.specs.{Pages.{Pages, page_at, with_page_bytes, with_bytes}, declared.page.Half.{Half, TheVariants.{Submission, Completion}}}
use Rattle.machine_model.specs.{Commands.{Work, Io, Management}, Events.{Event, Reply, Reaped}, Memory.{without_pages, with_pages, zeroed_pages, memory_of}}
use Rattle.machine_model.specs.Placement.{without_numbers}
use Rattle.machine_model.specs.Refusals.{host_queue, served_queue, slot_page, slot_offset, seen_entry, is_job, job_at, next_rung, post_slot, fetch_slot, conflicts, is_submitted, has_cq_alone, run_for}
use Rattle.machine_model.specs.State.{State, Host, Controller, HostQueue, Live, Deleting, Retired, Gone, MakingCq, HalfMade, MakingSq, ServedQueue, Record, Drafted, Submitted, Held, Collected, Job, PostedCompletion, record_at, without_record, with_record, pages_of}
use Rattle.queue_pair.specs.{Lists.expected_phase, Memory.half_pages, Rings.{HostRing, fresh_host_ring, next_tail, next_head, knowing}}
use Rattle.machine_model.specs.Events as events
pub use Rattle.queue_pair.specs.Members.{change}
use Rattle.io_commands.specs.Jobs as jobs

-- Changing one member of a list, one queue, one job

abbrev pub on_host : (Host → Host) → State → State
on_host f s = record s { host = f s.host }

abbrev pub on_controller : (Controller → Controller) → State → State
on_controller f s = record s { controller = f s.controller }

abbrev pub on_memory : (Pages → Pages) → State → State
on_memory f s = record s { memory = f s.memory }

abbrev pub on_host_queue : ℕ → (HostQueue → HostQueue) → State → State
on_host_queue q f s = on_host (λ h. record h { queues = change q f h.queues }) s

abbrev pub on_served_queue : ℕ → (ServedQueue → ServedQueue) → State → State
on_served_queue q f s = on_controller (λ d. record d { queues = change q f d.queues }) s

abbrev pub on_ring : ℕ → (HostRing → HostRing) → State → State
on_ring q f s = on_host_queue q (λ queue. record queue { ring = f queue.ring }) s

abbrev pub on_records : (List Record → List Record) → State → State
on_records f s = on_host (λ h. record h { records = f h.records }) s

abbrev pub on_job : ℕ → ℕ → (Job → Job) → State → State
on_job q cid f s = on_controller (λ d. record d { jobs = map (λ j. if is_job q cid j then f j else j) d.jobs }) s

abbrev pub without_job : ℕ → ℕ → State → State
without_job q cid s = on_controller (λ d. record d { jobs = filter (λ j. not (is_job q cid j)) d.jobs }) s

-- What changes of a record, a ring, a queue of the host

abbrev pub submitted : Record → Record
submitted r = record r { phase = Submitted }

abbrev pub held : Status → Hints → Record → Record
held st hints r = record r { phase = Held; status = Some st; hints = hints }

-- it ended with no completion
abbrev pub aborted : Record → Record
aborted r = held ABORTED_SQ_DELETION NONE r

abbrev pub collected : Record → Record
collected r = record r { phase = Collected }

abbrev pub deleting : HostQueue → HostQueue
deleting queue = record queue { state = Deleting false }

abbrev pub retired : HostQueue → HostQueue
retired queue = record queue { state = Retired; sq_pages = [] }

abbrev pub gone : HostQueue → HostQueue
gone queue = record queue { state = Gone; cq_pages = [] }

-- a queue gets a half, with rings as they open
abbrev pub making_cq : List ℕ → HostQueue → HostQueue
making_cq pages queue = record queue { state = MakingCq; ring = fresh_host_ring; cq_pages = pages }

abbrev pub making_sq : List ℕ → HostQueue → HostQueue
making_sq pages queue = record queue { state = MakingSq; ring = fresh_host_ring; sq_pages = pages }

-- its completion queue is there
abbrev pub half_made : HostQueue → HostQueue
half_made queue = record queue { state = HalfMade }

-- its submission queue is not made
abbrev pub unmade_sq : HostQueue → HostQueue
unmade_sq queue = record queue { state = HalfMade; sq_pages = [] }

abbrev pub live : HostQueue → HostQueue
live queue = record queue { state = Live }

-- Pages: the free ones are in ascending order

abbrev pub joined_in_order : ℕ → List ℕ → List ℕ → List ℕ
joined_in_order count pages free = filter (λ p. is_among free p || is_among pages p) (pages_from 0 count)

abbrev pub granted : List ℕ → State → State
granted pages s = on_host (λ h. record h { free = without_numbers pages h.free }) s

abbrev pub given_back : List ℕ → State → State
given_back pages s = on_host (λ h. record h { free = joined_in_order (length s.memory) pages h.free }) s

-- The host

-- an entry at the tail of a queue's submission ring, in its slot's bytes too
abbrev pub posted : ℕ → SubEntry → State → State
posted q entry s =
    on_ring q (next_tail s.entries)
    (on_served_queue q (λ at. record at { unfetched = at.unfetched ++ entry ∷ [] })
    (option_map_or
    (λ queue. on_memory (λ m. with_page_bytes m (slot_page queue.sq_pages 64 queue.ring.tail) (slot_offset 64 queue.ring.tail) (submission_bytes entry)) s)
    (host_queue s q) s))

abbrev pub after_reserve : DraftContents → State → State
after_reserve d s =
    let data_pages = numbers_of d.data_pages in
    let chain_pages = numbers_of d.chain_pages in
    on_records (λ records. records ++ record { q = d.q; cid = d.cid; phase = Drafted; work = Io d.request; data_pages = data_pages; chain_pages = chain_pages; status = None; hints = NONE } ∷ [])
    (granted (data_pages ++ chain_pages) (on_memory (without_pages (data_pages ++ chain_pages)) s))

abbrev pub after_submit : DraftContents → State → State
after_submit d s =
    option_map_or
    (λ entry. posted d.q entry
    (on_records (with_record d.q d.cid submitted)
    (on_memory (with_pages (d.data_pages ++ d.chain_pages)) s)))
    d.entry s

-- a command ends: its pages come in with these bytes, and are free
abbrev pub after_end : ℕ → ℕ → List (ℕ × List ℕ) → State → State
after_end q cid pages s =
    on_records (without_record q cid) (given_back (numbers_of pages) (on_memory (with_pages pages) s))

abbrev pub after_ring : ℕ → State → State
after_ring q s = on_served_queue q (λ at. record at { rung = length at.unfetched }) s

abbrev pub consumed : ℕ → State → State
consumed q s = on_served_queue q (λ at. record at { completions = drop 1 at.completions }) (on_ring q (next_head s.entries) s)

abbrev pub heard : ℕ → ComEntry → State → State
heard q e s = on_ring q (knowing e.sqhd) (consumed q s)

abbrev pub half_freed : (HostQueue → List ℕ) → (HostQueue → HostQueue) → ℕ → State → State
half_freed pages without q s =
    option_map_or (λ queue. on_host_queue q without (given_back (pages queue) s)) (host_queue s q) s

-- what a reaped admin completion means for the host's state of the queue that it names
abbrev pub after_admin : AdminKind → Status → State → State
after_admin (Abort q cid) st s = s
after_admin (DeleteSq q) st s =
    on_host_queue q (λ queue. record queue { state = if is_success st then Deleting true else Live }) s
after_admin (DeleteCq q) st s =
    if is_success st && option_map_or (λ queue. has_cq_alone queue.state) (host_queue s q) false
    then half_freed (λ queue. queue.cq_pages) gone q s
    else s
after_admin (CreateCq q n base vector) st s =
    if is_success st then on_host_queue q half_made s else half_freed (λ queue. queue.cq_pages) gone q s
after_admin (CreateSq q n base) st s =
    if is_success st then on_host_queue q live s else half_freed (λ queue. queue.sq_pages) unmade_sq q s

abbrev pub after_work : Work → ℕ → ℕ → Status → Hints → State → State
after_work (Io r) q cid st hints s = on_records (with_record q cid (held st hints)) s
after_work (Management a) q cid st hints s = after_admin a st (on_records (without_record q cid) s)

abbrev pub after_reap : ℕ → Reaped → State → State
after_reap q events.Empty s = s
after_reap q (events.Rejected why) s = consumed q s
after_reap q (events.Done cid st) s =
    option_map_or (λ r. option_map_or (λ e. after_work r.work q cid st e.hints (heard q e s)) (seen_entry s q) s) (record_at s.host q cid) s
after_reap q (events.AdminDone cid st dw0) s =
    option_map_or (λ r. option_map_or (λ e. after_work r.work q cid st e.hints (heard q e s)) (seen_entry s q) s) (record_at s.host q cid) s

abbrev pub after_collect : ℕ → ℕ → State → State
after_collect q cid s =
    option_map_or
    (λ r. on_records (with_record q cid collected) (on_memory (without_pages (pages_of r)) s))
    (record_at s.host q cid) s

abbrev pub sent : AdminKind → ℕ → SubEntry → State → State
sent a cid entry s =
    posted 0 entry (on_records (λ records. records ++ record { q = 0; cid = cid; phase = Submitted; work = Management a; data_pages = []; chain_pages = []; status = None; hints = NONE } ∷ []) s)

abbrev pub after_delete_sq : ℕ → ℕ → State → State
after_delete_sq q cid s =
    on_host_queue q deleting (sent (DeleteSq q) cid (admin_entry (DeleteSq q) cid) s)

-- the lowest run of free pages for a half: it is the host's from now on, in and zero
abbrev pub half_run : Half → State → List ℕ
half_run half s = option_map_or (λ first. pages_from first (half_pages s.entries half)) (run_for s half) []

abbrev pub half_granted : List ℕ → State → State
half_granted pages s = granted pages (on_memory (with_pages (zeroed_pages pages)) s)

-- the address of the first byte of consecutive pages
abbrev pub base_of : List ℕ → ℕ
base_of pages = 4096 * slice_index pages 0

abbrev pub after_create_cq : ℕ → Option ℕ → ℕ → State → State
after_create_cq q vector cid s =
    let pages = half_run Completion s in
    let kind : AdminKind = CreateCq q s.entries (base_of pages) vector in
    sent kind cid (admin_entry kind cid) (on_host_queue q (making_cq pages) (half_granted pages s))

abbrev pub after_create_sq : ℕ → ℕ → State → State
after_create_sq q cid s =
    let pages = half_run Submission s in
    let kind : AdminKind = CreateSq q s.entries (base_of pages) in
    sent kind cid (admin_entry kind cid) (on_host_queue q (making_sq pages) (half_granted pages s))

abbrev pub lost : ℕ → Record → Record
lost q r = if (r.q == q) && is_submitted r.phase then aborted r else r

abbrev pub after_retire : ℕ → State → State
after_retire q s =
    half_freed (λ queue. queue.sq_pages) retired q
    (on_records (λ records. map (lost q) records) s)

abbrev pub after_forge : ℕ → ℕ → List ℕ → State → State
after_forge q slot bytes s =
    option_map_or
    (λ queue. record (on_memory (λ m. with_page_bytes m (slot_page queue.cq_pages 16 slot) (slot_offset 16 slot) bytes) s) { trusted = false })
    (host_queue s q) s

-- The controller

abbrev pub image_blocks : State → ℕ
image_blocks s = block_count s.controller.image

abbrev pub new_job : ℕ → SubEntry → Option Status → ℕ → List ℕ → Job
new_job q e verdict dw0 bytes =
    record { q = q; entry = e; bytes = bytes; units_done = 0; verdict = verdict; dw0 = dw0; waiting_abort = None }

abbrev pub with_job : Job → State → State
with_job j s = on_controller (λ d. record d { jobs = d.jobs ++ j ∷ [] }) s

-- an entry of an I/O queue: a failed field check is its verdict, and else it begins with its bytes
abbrev pub begun : ℕ → SubEntry → State → State
begun q e s =
    let fault = io_fault (image_blocks s) e in
    with_job (new_job q e fault 0 (bytes_after_check s.controller.image e fault)) s

-- an admin command, decided at its fetch
abbrev pub decided : SubEntry → Status → ℕ → State → State
decided e st dw0 s = with_job (new_job 0 e (Some st) dw0 []) s

-- the controller's state of a submission queue; one that is not there is absent
abbrev pub sq_state : State → ℕ → SqState
sq_state s q = option_map_or (λ at. at.state) (served_queue s q) Absent

abbrev pub cq_there : State → ℕ → Bool
cq_there s q = option_map_or (λ at. at.cq_there) (served_queue s q) false

abbrev pub walks : State → ℕ → ℕ → Bool
walks s q cid = option_map_or (λ j. is_none j.verdict) (job_at s q cid) false

abbrev pub stopped : ℕ → Job → Job
stopped q j = if (j.q == q) && is_none j.verdict then record j { verdict = Some ABORTED_SQ_DELETION } else j

-- what the rule of an admin entry looks at
abbrev pub view_of : State → SubEntry → DeviceView
view_of s e =
    record {
      sq = sq_state s (named_queue e);
      cq_there = cq_there s (named_queue e);
      target_walks = walks s (named_queue e) (named_command e);
      queues = length s.controller.queues - 1;
      entries = s.entries;
      pages = length s.memory;
    }

-- a completion queue is gone with what was not reaped of it, and one is there that is empty; so is a submission queue
abbrev pub dropped : ServedQueue → ServedQueue
dropped at = record at { cq_there = false; completions = [] }

abbrev pub completion_made : ServedQueue → ServedQueue
completion_made at = record at { cq_there = true; completions = [] }

abbrev pub submission_made : ServedQueue → ServedQueue
submission_made at = record at { state = Running; unfetched = []; rung = 0; completions = [] }

-- what its verdict does: an Abort marks its job, a Delete SQ stops its queue and that queue's jobs
abbrev pub acted : SubEntry → AdminVerdict → State → State
acted e (Answered st dw0) s = decided e st dw0 s
acted e (AbortJob q cid) s = decided e SUCCESS 0 (on_job q cid (λ j. record j { verdict = Some ABORT_REQUESTED; waiting_abort = Some e.cid }) s)
acted e (StopQueue q) s =
    decided e SUCCESS 0
    (on_controller (λ d. record d { jobs = map (stopped q) d.jobs })
    (on_served_queue q (λ at. record at { state = Stopping }) s))
acted e (DropCompletion q) s = decided e SUCCESS 0 (on_served_queue q dropped s)
acted e (MakeCompletion q base) s = decided e SUCCESS 0 (on_served_queue q completion_made s)
acted e (MakeSubmission q base) s = decided e SUCCESS 0 (on_served_queue q submission_made s)

abbrev pub managed : SubEntry → State → State
managed e s = acted e (decision e (view_of s e)) s

-- the phase that the controller writes: each side tells the other's phase the same way, by whether one has wrapped and the other not
abbrev pub post_phase : State → ℕ → HostQueue → Bool
post_phase s q queue = expected_phase queue.ring.head (post_slot s q) queue.ring.phase

-- a completion at the tail of a queue's completion ring, in its slot's bytes too
abbrev pub with_posted_completion : ℕ → ℕ → Status → ℕ → State → State
with_posted_completion q cid st dw0 s =
    let completion : PostedCompletion = record { cid = cid; status = st; dw0 = dw0; sq_head = fetch_slot s q } in
    on_served_queue q (λ at. record at { completions = at.completions ++ completion ∷ [] })
    (option_map_or
    (λ queue. on_memory (λ m. with_page_bytes m (slot_page queue.cq_pages 16 (post_slot s q)) (slot_offset 16 (post_slot s q))
    (completion_bytes (record { dw0 = dw0; sqhd = fetch_slot s q; sqid = q; cid = cid; phase = post_phase s q queue; status = st; hints = NONE }))) s)
    (host_queue s q) s)

abbrev pub taken_off : ℕ → State → State
taken_off q s = on_served_queue q (λ at. record at { unfetched = drop 1 at.unfetched; rung = at.rung - 1 }) s

abbrev pub after_fetch : ℕ → State → State
after_fetch q s =
    option_map_or
    (λ e. if conflicts s q then with_posted_completion q e.cid COMMAND_ID_CONFLICT 0 (taken_off q s)
    else if q == 0 then managed e (taken_off 0 s)
    else begun q e (taken_off q s))
    (next_rung s q) s

-- what a job's list makes its walk do, in the memory as it is
abbrev pub course_of : State → Job → Course
course_of s j = course_of_list (memory_of s.memory) j.entry.sgl1 (direction_of_entry j.entry) (need_of_entry j.entry)

-- the unit that a job's next walk step does, and what the step answers: the verdict with the last unit
abbrev pub next_unit : State → Job → Option Act
next_unit s j = slice_get (units (course_of s j)) j.units_done

abbrev pub next_answer : State → Job → WalkState
next_answer s j = answer (after_units (j.units_done + 1) (course_of s j))

-- bytes of one page, starting at an address
abbrev pub page_bytes : Pages → ℕ → ℕ → List ℕ
page_bytes m place count =
    option_map_or (λ bytes. take count (drop (place % 4096) bytes)) (page_at m (place / 4096)) []

abbrev pub moved : Direction → Act → ℕ → ℕ → State → State
moved dir Stays q cid s = s
moved dir (Reads place) q cid s = s
moved Destination (Moves place n offset) q cid s =
    option_map_or (λ j. on_memory (λ m. with_page_bytes m (place / 4096) (place % 4096) (take n (drop offset j.bytes))) s) (job_at s q cid) s
moved Source (Moves place n offset) q cid s =
    on_job q cid (λ j. record j { bytes = with_bytes j.bytes offset (page_bytes s.memory place n) }) s

abbrev pub after_walk : ℕ → ℕ → State → State
after_walk q cid s =
    option_map_or
    (λ j. option_map_or
    (λ act. on_job q cid (λ k. record k { units_done = k.units_done + 1; verdict = verdict_of (next_answer s j) })
    (moved (direction_of_entry j.entry) act q cid s))
    (next_unit s j) s)
    (job_at s q cid) s

-- how a job completes: an admin command with its verdict, an I/O command as its data tells
abbrev pub final_status : State → Job → Status
final_status s j =
    if j.q == 0 then unwrap_or j.verdict SUCCESS else jobs.status_after s.controller.image j.entry j.bytes j.verdict

-- the image after it
abbrev pub image_completed : Job → List ℕ → List ℕ
image_completed j image = if j.q == 0 then image else jobs.image_after image j.entry j.bytes j.verdict

-- after a successful deletion the submission queue is not there
abbrev pub deletion_done : Job → Status → State → State
deletion_done j st s =
    if (j.q == 0) && (j.entry.opcode == DELETE_IO_SQ) && is_success st
    then on_served_queue (named_queue j.entry) (λ at. record at { state = Absent; unfetched = []; rung = 0 }) s
    else s

abbrev pub after_complete : ℕ → ℕ → State → State
after_complete q cid s =
    option_map_or
    (λ j. let st = final_status s j in
    with_posted_completion q cid st j.dw0
    (deletion_done j st
    (on_controller (λ d. record d { image = image_completed j d.image }) (without_job q cid s))))
    (job_at s q cid) s

-- The reset: the controller comes up with only its admin queue, and the host has the pages of its I/O queues back

-- a command of the caller's stays outstanding, and is lost where it was submitted; one that the host sends itself goes
abbrev pub is_of_io : Work → Bool
is_of_io (Io r) = true
is_of_io (Management a) = false

abbrev pub lost_anywhere : Record → Record
lost_anywhere r = if is_submitted r.phase then aborted r else r

abbrev pub reset_records : List Record → List Record
reset_records records = map lost_anywhere (filter (λ r. is_of_io r.work) records)

-- queue 0 is as it opened, with the same pages, and each other queue is gone
abbrev pub reset_admin : HostQueue → HostQueue
reset_admin queue = record queue { state = Live; ring = fresh_host_ring }

abbrev pub no_queue : HostQueue
no_queue = record { state = Gone; ring = fresh_host_ring; sq_pages = []; cq_pages = [] }

abbrev pub reset_queues : List HostQueue → List HostQueue
reset_queues [] = []
reset_queues (queue ∷ queues) = reset_admin queue ∷ map (λ other. no_queue) queues

-- the pages of queue 0, and those of the halves of all other queues
abbrev pub halves_of : HostQueue → List ℕ
halves_of queue = queue.sq_pages ++ queue.cq_pages

abbrev pub admin_pages : List HostQueue → List ℕ
admin_pages [] = []
admin_pages (queue ∷ queues) = halves_of queue

abbrev pub io_pages : List HostQueue → List ℕ
io_pages [] = []
io_pages (queue ∷ queues) = flat_map halves_of queues

abbrev pub reset_host : ℕ → Host → Host
reset_host count h = record { peer = h.peer; free = joined_in_order count (io_pages h.queues) h.free; queues = reset_queues h.queues; records = reset_records h.records }

-- the controller: no job, no entry, no completion; of its queues only the first is there
abbrev pub reset_controller_admin : ServedQueue
reset_controller_admin = record { state = Running; cq_there = true; unfetched = []; rung = 0; completions = [] }

abbrev pub no_served_queue : ServedQueue
no_served_queue = record { state = Absent; cq_there = false; unfetched = []; rung = 0; completions = [] }

abbrev pub reset_served_queues : List ServedQueue → List ServedQueue
reset_served_queues [] = []
reset_served_queues (at ∷ ats) = reset_controller_admin ∷ map (λ other. no_served_queue) ats

abbrev pub reset_controller : Controller → Controller
reset_controller d = record { queues = reset_served_queues d.queues; jobs = []; image = d.image }

-- whatever was forged is gone with it, so the controller is trusted from now on
abbrev pub after_reset : State → State
after_reset s =
    record {
      entries = s.entries;
      segment = s.segment;
      memory = with_pages (zeroed_pages (admin_pages s.host.queues)) s.memory;
      host = reset_host (length s.memory) s.host;
      controller = reset_controller s.controller;
      trusted = true;
    }

-- every event

abbrev pub after : State → Event → Reply → State
after s e (events.Refused why touched) = s
after s (events.Reserve q r) (events.Reserved d) = after_reserve d s
after s (events.Submit d) reply = after_submit d s
after s (events.Cancel d) reply = after_end d.q d.cid (d.data_pages ++ d.chain_pages) s
after s (events.Ring q) reply = after_ring q s
after s (events.Reap q) (events.Reaps what) = after_reap q what s
after s (events.Collect q cid) reply = after_collect q cid s
after s (events.Release f) reply = after_end f.q f.cid (f.data_pages ++ f.chain_pages) s
after s (events.Abort q cid) (events.Sent id) = sent (Abort q cid) id (admin_entry (Abort q cid) id) s
after s (events.DeleteSq q) (events.Sent id) = after_delete_sq q id s
after s (events.DeleteCq q) (events.Sent id) = sent (DeleteCq q) id (admin_entry (DeleteCq q) id) s
after s (events.CreateCq q vector) (events.Sent id) = after_create_cq q vector id s
after s (events.CreateSq q) (events.Sent id) = after_create_sq q id s
after s (events.Retire q) reply = after_retire q s
after s (events.Forge q slot bytes) reply = after_forge q slot bytes s
after s events.Reset reply = after_reset s
after s (events.Fetch q) reply = after_fetch q s
after s (events.Walk q cid) reply = after_walk q cid s
after s (events.Complete q cid) reply = after_complete q cid s
after s e reply = s
