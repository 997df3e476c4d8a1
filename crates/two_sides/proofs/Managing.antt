-- Admin commands are carried out.
use Rattle.machine_model.specs.After as after
use Rattle.std.proofs.Common.{◌≡◌, ℕ, zero, suc, ◌+◌, ◌-◌, ◌<◌, ◌==◌, ◌&&◌, nat_lt, nat_le, Bool, true, false, Option, Some, is_none, List, [], ◌∷◌, ◌++◌, length, find, map, slice_get, if◌then◌else◌, refl, ap, ap₂, sym, ◌∙◌, arith, subst, ltb-true, leb-true, inl, inr, ◌≤◌}
use Rattle.std.{proofs.lemmas.Bool.{true≢false, and_parts, cond_both}, specs.{List.{AllByRecursion, count_by}, Option.option_map_or}}
use Rattle.machine_model.specs.{After.change, Agreeing.EntryKnown, Refusals.{is_making_cq, next_rung}}
use Rattle.machine_model.specs.{State.{State, HostQueue, ServedQueue, Job}, Weights.total}
use Rattle.admin_commands.specs.{Entries.{named_queue, named_command, named_base}, Verdicts.{decision, is_live, is_absent}, declared.AdminVerdict.AdminVerdict}
use Rattle.admin_commands.specs.declared.AdminVerdict.TheVariants.{Answer, AbortJob, StopQueue, DropCompletion, MakeCompletion, MakeSubmission}
use Rattle.admin_commands.specs.declared.{DeviceView.DeviceView, SqState.TheVariants.{Absent, Stopping}}
use Rattle.controller_core.proofs.Lists.{count-cons, one, length-change}
use Rattle.controller_core.specs.Contents.{FetchedCommand, FetchedWork, is_command, verdict_of_work, change as change_contents}
use Rattle.controller_core.specs.Managing.{aborted, admin_work, command_of, commands_after, queues_after, stopped_with_queue, stopped_work, stopping, view_for, with_completion, with_submission, with_taken, without_completion}
use Rattle.controller_core.specs.declared.{command.FetchedWork.TheVariants.{Io, Admin}, queue.ControllerQueue.ControllerQueue}
use Rattle.entry_codec.specs.declared.{admin_opcode.TheConstants.{CREATE_IO_CQ, CREATE_IO_SQ}, status.Status.Status}
use Rattle.entry_codec.specs.declared.{status.TheConstants.Status.{SUCCESS, ABORT_REQUESTED, ABORTED_SQ_DELETION}, submission.SubEntry.SubEntry}
use Rattle.two_sides.proofs.AdminKept.{same_decision, Decides, decides}
use Rattle.two_sides.proofs.Frames.{from_zero, share_of, IsKnown, controller_at, known, tied_of}
use Rattle.two_sides.proofs.Making.{IsGranted, IsGrantedBeside, completion_seen, completion_shares, completion_stands, dropped_stands, stopping_seen, stopping_stands, submission_seen, submission_shares, submission_stands, completion_granted, making_cq, submission_granted}
use Rattle.two_sides.proofs.{Places.{controllers_changed, stands_changed, job-at, map-append}, Provided.{all_in, all_of, only_found}}
use Rattle.two_sides.{proofs.{Shared.{length-controller, belled}, Standing.taken_entry}, specs.Sides.{Sides, state_of, served_queues_of, job_of}}
use Rattle.two_sides.specs.Ties.{AllQueuesStand, QueueStands, ShareQueue, ShareQueues, WalkStands, WalksStand, IsWorld}
use Rattle.page_memory.specs.{Memory.Memory, Pages.byte_at}
use Rattle.queue_pair.specs.Rings.{fresh_host_ring}
use Rattle.slot_table.proofs.Rows.{option_is}
use Rattle.page_memory.proofs.Lists.{all-map}

-- What an admin entry does at its fetch is the machine's.

-- What the rule looks at

state_at : (m : Memory) (hs : List HostQueue) (cs : List ControllerQueue) (n i q : ℕ) → ShareQueues n i hs cs
    → (option_map_or (λ at. at.state) (slice_get (served_queues_of m hs cs) q) Absent ≡ option_map_or (λ queue. queue.state) (slice_get cs q) Absent)
    × (option_map_or (λ at. at.cq_there) (slice_get (served_queues_of m hs cs) q) false ≡ option_map_or (λ queue. queue.cq_there) (slice_get cs q) false)
state_at m [] (c ∷ cs) n i q share = absurd share
state_at m (h ∷ hs) [] n i q share = absurd share
state_at m (h ∷ hs) (c ∷ cs) n i (suc q) share = state_at m hs cs n (suc i) q share.1
state_at m x y n i q share = (refl, refl)

-- the machine's size of the rings is that of each queue
view_seen : (t : Sides) (e : SubEntry) → ShareQueues t.host.entries zero t.host.host.queues t.controller.queues
    → after.view_of (state_of t) e ≡ record (view_for (length t.pages) t.controller.queues t.controller.commands e) { entries = t.host.entries }
view_seen t e share =
    let q = named_queue e in
    let m = byte_at t.pages in
    let at = state_at m t.host.host.queues t.controller.queues t.host.entries zero q share in
    let walks : after.walks (state_of t) q (named_command e) ≡ option_map_or (λ k. is_none (verdict_of_work k.work)) (find (is_command q (named_command e)) t.controller.commands) false =
    ap (λ (o : Option Job). option_map_or (λ j. is_none j.verdict) o false) (job-at t q (named_command e)) ∙ (grind arith) in
    let many : length (served_queues_of m t.host.host.queues t.controller.queues) ≡ length t.controller.queues = length-controller m t.host.entries zero t.host.host.queues t.controller.queues share in
    λ i. record { sq = at.0 i; cq_there = at.1 i; target_walks = walks i; queues = many i - 1; entries = t.host.entries; pages = length t.pages }

entries_at : (hs : List HostQueue) (cs : List ControllerQueue) (n i q : ℕ) → ShareQueues n i hs cs → q < length cs → option_map_or (λ queue. queue.controller.entries) (slice_get cs q) 0 ≡ n
entries_at hs [] n i q share l = absurd (omega (arith, l))
entries_at [] (c ∷ cs) n i q share l = absurd share
entries_at (h ∷ hs) (c ∷ cs) n i zero share l = share.0.entries
entries_at (h ∷ hs) (c ∷ cs) n i (suc q) share l = entries_at hs cs n (suc i) q share.1 (omega (arith, l))

below_queues : (q k : ℕ) → (nat_lt 0 q && nat_le q (k - 1)) ≡ true → q < k
below_queues q k h = let parts = and_parts (nat_lt 0 q) (nat_le q (k - 1)) h in omega (arith, ltb-true 0 q parts.0, leb-true q (k - 1) parts.1)

-- The commands that are stopped

abbrev marked : ℕ → Job → Job
marked abort j = record j { verdict = Some ABORT_REQUESTED; waiting_abort = Some abort }

aborted_seen : (q cid abort : ℕ) (k : FetchedCommand) → (is_command q cid k ≡ true → is_none (verdict_of_work k.work) ≡ true) → job_of (aborted q cid abort k) ≡ (if is_command q cid k then marked abort (job_of k) else job_of k)
aborted_seen q cid abort k walks = grind arith

-- where at most one command is named, what holds of the one that is found holds of each that is
counted : {A : Type 0} (p : A → Bool) (xs : List A) → total (λ x. one (p x)) xs ≡ count_by p xs
counted p [] = refl
counted p (x ∷ xs) = ap (λ (n : ℕ). one (p x) + n) (counted p xs) ∙ sym (count-cons p x xs)

pub abort_open : (commands : List FetchedCommand) (q cid : ℕ) → count_by (is_command q cid) commands < 2
    → option_map_or (λ k. is_none (verdict_of_work k.work)) (find (is_command q cid) commands) false ≡ true → AllByRecursion (λ k. is_command q cid k ≡ true → is_none (verdict_of_work k.work) ≡ true) commands
abort_open commands q cid few h = elim (option_is (find (is_command q cid) commands)) [
  | inl e ↦ let h = rw e at h in absurd (true≢false (sym h))
  | inr (k, e) ↦
      let h = rw e at h in
      all_in _ _ commands (λ x among same t. subst (λ (y : FetchedCommand). is_none (verdict_of_work y.work) ≡ true) (sym (same t)) h)
      (only_found (is_command q cid) commands k e (omega (arith, few, counted (is_command q cid) commands)))
]

jobs_by : (commands : List FetchedCommand) (f : FetchedCommand → FetchedCommand) (g : Job → Job) → AllByRecursion (λ k. job_of (f k) ≡ g (job_of k)) commands → map job_of (map f commands) ≡ map g (map job_of commands)
jobs_by [] f g same = refl
jobs_by (k ∷ commands) f g same = ap₂ (λ j js. j ∷ js) same.0 (jobs_by commands f g same.1)

-- What a verdict does, after the entry was taken

abbrev pub acted : SubEntry → AdminVerdict → Sides → Sides
acted e v t =
    record t {
      controller = record {
        queues = queues_after v t.controller.queues;
        commands = commands_after e.cid v t.controller.commands ++ command_of zero (admin_work e v) ∷ [];
        image = t.controller.image;
      };
    }

-- what a verdict needs that was decided: the job that is stopped walks, the queue that is stopped runs, and what is made is as it was granted
abbrev pub Suits : Sides → AdminVerdict → Type 0
Suits t (Answer st dw0) = Unit {0}
Suits t (AbortJob q cid) = AllByRecursion (λ k. is_command q cid k ≡ true → is_none (verdict_of_work k.work) ≡ true) t.controller.commands
Suits t (StopQueue q) = (h : HostQueue) (c : ControllerQueue) → slice_get t.host.host.queues q ≡ Some h → slice_get t.controller.queues q ≡ Some c → is_live c.state ≡ true
Suits t (DropCompletion q) = (h : HostQueue) (c : ControllerQueue) → slice_get t.host.host.queues q ≡ Some h → slice_get t.controller.queues q ≡ Some c → is_making_cq h.state ≡ true → h.ring ≡ fresh_host_ring
Suits t (MakeCompletion q base) = (h : HostQueue) (c : ControllerQueue) → slice_get t.host.host.queues q ≡ Some h → slice_get t.controller.queues q ≡ Some c → IsGranted t.host.entries base h c
Suits t (MakeSubmission q base) = (h : HostQueue) (c : ControllerQueue) → slice_get t.host.host.queues q ≡ Some h → slice_get t.controller.queues q ≡ Some c → IsGrantedBeside t.host.entries base h c

abbrev IsActed : Sides → SubEntry → AdminVerdict → Type 0
IsActed t e v = state_of (acted e v t) ≡ after.acted e v (state_of t)

-- the machine with other queues and jobs at the controller
abbrev with_controller : State → List ServedQueue → List Job → State
with_controller u queues jobs = record u { controller = record u.controller { queues = queues; jobs = jobs } }

aborts : (t : Sides) (e : SubEntry) (q cid : ℕ) → AllByRecursion (λ k. is_command q cid k ≡ true → is_none (verdict_of_work k.work) ≡ true) t.controller.commands → IsActed t e (AbortJob q cid)
aborts t e q cid walks =
    let commands = t.controller.commands in
    let jobs = jobs_by commands (aborted q cid e.cid) (λ (j : Job). if (j.q == q) && (j.entry.cid == cid) then marked e.cid j else j) (all_in _ _ commands (λ k among w. aborted_seen q cid e.cid k w) walks) in
    ap (with_controller (state_of t) (state_of t).controller.queues) (map-append job_of (map (aborted q cid e.cid) commands) (command_of zero (Admin e SUCCESS zero)) ∙ ap (λ js. js ++ job_of (command_of zero (Admin e SUCCESS zero)) ∷ []) jobs)

stops : (t : Sides) (e : SubEntry) (q : ℕ) → Suits t (StopQueue q) → IsActed t e (StopQueue q)
stops t e q live =
    let commands = t.controller.commands in
    let m = byte_at t.pages in
    let queues = controllers_changed m m q stopping (λ (at : ServedQueue). record at { state = Stopping }) t.host.host.queues t.controller.queues
    (λ h c i j. stopping_seen m h c (live h c i j)) (λ k h c far i j. refl) in
    let jobs = jobs_by commands (stopped_with_queue q) (after.stopped q) (all_of _ commands (λ k among. grind arith)) in
    ap₂ (with_controller (state_of t)) queues
    (map-append job_of (map (stopped_with_queue q) commands) (command_of zero (Admin e SUCCESS zero)) ∙ ap (λ js. js ++ job_of (command_of zero (Admin e SUCCESS zero)) ∷ []) jobs)

drops : (t : Sides) (e : SubEntry) (q : ℕ) → IsActed t e (DropCompletion q)
drops t e q =
    ap₂ (with_controller (state_of t))
    (controllers_changed (byte_at t.pages) (byte_at t.pages) q without_completion after.dropped t.host.host.queues t.controller.queues (λ h c i j. refl) (λ k h c far i j. refl))
    (map-append job_of t.controller.commands (command_of zero (Admin e SUCCESS zero)))

acts : (t : Sides) (e : SubEntry) (v : AdminVerdict) → Suits t v → IsActed t e v
acts t e (Answer st dw0) suits = ap (with_controller (state_of t) (state_of t).controller.queues) (map-append job_of t.controller.commands (command_of zero (Admin e st dw0)))
acts t e (AbortJob q cid) suits = aborts t e q cid suits
acts t e (StopQueue q) suits = stops t e q suits
acts t e (DropCompletion q) suits = drops t e q
acts t e (MakeCompletion q base) suits =
    ap₂ (with_controller (state_of t))
    (controllers_changed (byte_at t.pages) (byte_at t.pages) q (with_completion base) after.completion_made t.host.host.queues t.controller.queues
    (λ h c i j. completion_seen (byte_at t.pages) t.host.entries base h c (suits h c i j)) (λ k h c far i j. refl))
    (map-append job_of t.controller.commands (command_of zero (Admin e SUCCESS zero)))
acts t e (MakeSubmission q base) suits =
    ap₂ (with_controller (state_of t))
    (controllers_changed (byte_at t.pages) (byte_at t.pages) q (with_submission base) after.submission_made t.host.host.queues t.controller.queues
    (λ h c i j. submission_seen (byte_at t.pages) t.host.entries base h c (suits h c i j)) (λ k h c far i j. refl))
    (map-append job_of t.controller.commands (command_of zero (Admin e SUCCESS zero)))

pub managed_is : (t : Sides) (e : SubEntry) → ShareQueues t.host.entries zero t.host.host.queues t.controller.queues → Suits t (decision e (view_for (length t.pages) t.controller.queues t.controller.commands e))
    → state_of (acted e (decision e (view_for (length t.pages) t.controller.queues t.controller.commands e)) t) ≡ after.managed e (state_of t)
managed_is t e share suits =
    let v = decision e (view_for (length t.pages) t.controller.queues t.controller.commands e) in
    -- so both decide alike
    acts t e v suits ∙ ap (λ (v : AdminVerdict). after.acted e v (state_of t)) (same_decision e (view_for (length t.pages) t.controller.queues t.controller.commands e) t.host.entries
    (λ io. entries_at t.host.host.queues t.controller.queues t.host.entries zero (named_queue e) share (below_queues (named_queue e) (length t.controller.queues) io))
    ∙ ap (decision e) (sym (view_seen t e share)))

-- What it leaves: the queues where they lie, the rings, and the walks

pub verdict_shares : (v : AdminVerdict) (n : ℕ) (hs : List HostQueue) (cs : List ControllerQueue) → ShareQueues n zero hs cs → ShareQueues n zero hs (queues_after v cs)
verdict_shares (StopQueue q) n hs cs share = belled n zero q stopping hs cs (λ i h c x. record { number = x.number; entries = x.entries; side = x.side }) share
verdict_shares (DropCompletion q) n hs cs share = belled n zero q without_completion hs cs (λ i h c x. record { number = x.number; entries = x.entries; side = x.side }) share
verdict_shares (MakeCompletion q base) n hs cs share = belled n zero q (with_completion base) hs cs (completion_shares n base) share
verdict_shares (MakeSubmission q base) n hs cs share = belled n zero q (with_submission base) hs cs (submission_shares n base) share
verdict_shares x n hs cs share = share

pub verdict_stand : (v : AdminVerdict) (t : Sides) → Suits t v → ShareQueues t.host.entries zero t.host.host.queues t.controller.queues
    → AllQueuesStand t.host.entries (byte_at t.pages) zero t.host.host.queues t.controller.queues → AllQueuesStand t.host.entries (byte_at t.pages) zero t.host.host.queues (queues_after v t.controller.queues)
verdict_stand v t suits share all = by_verdict v suits
  where
    m : Memory
    m = byte_at t.pages

    n : ℕ
    n = t.host.entries

    hs : List HostQueue
    hs = t.host.host.queues

    cs : List ControllerQueue
    cs = t.controller.queues

    shared : (q : ℕ) (h : HostQueue) (c : ControllerQueue) → slice_get hs q ≡ Some h → slice_get cs q ≡ Some c → ShareQueue n q h c
    shared q h c e f = subst (λ (k : ℕ). ShareQueue n k h c) (from_zero q) (share_of n 0 q hs cs h c share e f)

    changed : (q : ℕ) (g : ControllerQueue → ControllerQueue)
        → ((h : HostQueue) (c : ControllerQueue) → slice_get hs q ≡ Some h → slice_get cs q ≡ Some c → QueueStands n m q h c → QueueStands n m q h (g c)) → AllQueuesStand n m zero hs (change q g cs)
    changed q g here = stands_changed n m m q g hs cs here (λ i h c far e f stands. stands) all

    by_verdict : (v : AdminVerdict) → Suits t v → AllQueuesStand n m zero hs (queues_after v cs)
    by_verdict (StopQueue q) suits = changed q stopping (λ h c e f stands. stopping_stands n m q h c (suits h c e f) stands)
    by_verdict (DropCompletion q) suits = changed q without_completion (λ h c e f stands. dropped_stands n m q h c (shared q h c e f) (suits h c e f) stands)
    by_verdict (MakeCompletion q base) suits = changed q (with_completion base) (λ h c e f stands. completion_stands n m q base h c (shared q h c e f) (suits h c e f) stands)
    by_verdict (MakeSubmission q base) suits = changed q (with_submission base) (λ h c e f stands. submission_stands n m q base h c (shared q h c e f) (suits h c e f) stands)
    by_verdict x suits = all

-- a walk that is stopped has nothing to stand for
stopped_stands : (m : Memory) (done : ℕ) (st : Status) (work : FetchedWork) → WalkStands m done work → WalkStands m done (stopped_work st work)
stopped_stands m done st (Io job) h = cond_both (is_none job.verdict) (record job { verdict = Some st }) job (λ job. WalkStands m done (Io job)) (λ e none. absurd (cc)) (λ e. h)
stopped_stands m done st (Admin entry status dw0) h = h

abbrev Stands : Memory → FetchedCommand → Type 0
Stands m k = WalkStands m k.units_done k.work

pub verdict_walks : (v : AdminVerdict) (m : Memory) (abort : ℕ) (commands : List FetchedCommand) → WalksStand m commands → WalksStand m (commands_after abort v commands)
verdict_walks (AbortJob q cid) m abort commands h =
    all-map (Stands m) (aborted q cid abort)
    (λ k s. cond_both (is_command q cid k) (record k { work = stopped_work ABORT_REQUESTED k.work; waiting_abort = Some abort }) k (Stands m) (λ e. stopped_stands m k.units_done ABORT_REQUESTED k.work s) (λ e. s)) commands h
verdict_walks (StopQueue q) m abort commands h =
    all-map (Stands m) (stopped_with_queue q)
    (λ k s. cond_both (k.q == q) (record k { work = stopped_work ABORTED_SQ_DELETION k.work }) k (Stands m) (λ e. stopped_stands m k.units_done ABORTED_SQ_DELETION k.work s) (λ e. s)) commands h
verdict_walks x m abort commands h = h

-- Taking the entry changes nothing that the rule of an admin entry looks at.
taken_at : (cs : List ControllerQueue) (q k : ℕ)
    → (option_map_or (λ queue. queue.state) (slice_get (change q with_taken cs) k) Absent ≡ option_map_or (λ queue. queue.state) (slice_get cs k) Absent)
    × (option_map_or (λ queue. queue.cq_there) (slice_get (change q with_taken cs) k) false ≡ option_map_or (λ queue. queue.cq_there) (slice_get cs k) false)
    × (option_map_or (λ queue. queue.controller.entries) (slice_get (change q with_taken cs) k) 0 ≡ option_map_or (λ queue. queue.controller.entries) (slice_get cs k) 0)
taken_at [] q k = (refl, refl, refl)
taken_at (c ∷ cs) zero zero = (refl, refl, refl)
taken_at (c ∷ cs) zero (suc k) = (refl, refl, refl)
taken_at (c ∷ cs) (suc q) zero = (refl, refl, refl)
taken_at (c ∷ cs) (suc q) (suc k) = taken_at cs q k

pub taken_view : (pages : ℕ) (cs : List ControllerQueue) (commands : List FetchedCommand) (q : ℕ) (e : SubEntry) → view_for pages (change q with_taken cs) commands e ≡ view_for pages cs commands e
taken_view pages cs commands q e =
    let at = taken_at cs q (named_queue e) in
    λ i. record (view_for pages cs commands e) { sq = at.0 i; cq_there = at.1 i; entries = at.2 i; queues = (length-change q with_taken cs) i - 1 }

-- What is decided of an admin entry suits both sides, where nothing was forged.

-- the sides after the entry of queue 0 was taken
abbrev taken : Sides → Sides
taken s = record s { controller = record s.controller { queues = change_contents zero with_taken s.controller.queues } }

-- a queue that was taken from is in the same state, and so is its completion queue
record IsAlike (x c : ControllerQueue) : Type 0 where
  state : x.state ≡ c.state
  there : x.cq_there ≡ c.cq_there

taken_alike : (cs : List ControllerQueue) (k q : ℕ) (x c : ControllerQueue) → slice_get (change_contents k with_taken cs) q ≡ Some x → slice_get cs q ≡ Some c → IsAlike x c
taken_alike [] k q x c e f = absurd cc
taken_alike (y ∷ cs) zero zero x c e f =
    let new : with_taken y ≡ x = cc in
    let old : y ≡ c = cc in
    record { state = sym (ap (λ (z : ControllerQueue). z.state) new) ∙ ap (λ (z : ControllerQueue). z.state) old; there = sym (ap (λ (z : ControllerQueue). z.cq_there) new) ∙ ap (λ (z : ControllerQueue). z.cq_there) old }
taken_alike (y ∷ cs) (suc k) (suc q) x c e f = taken_alike cs k q x c e f
taken_alike y k q x c e f = let same : x ≡ c = cc in record { state = ap (λ (z : ControllerQueue). z.state) same; there = ap (λ (z : ControllerQueue). z.cq_there) same }

-- the entry in hand is that of its record
pub entry_known : (s : Sides) → IsWorld s → s.trusted ≡ true → (e : SubEntry) → next_rung (state_of s) 0 ≡ Some e → EntryKnown s.host.host.records e
entry_known s world t e next =
    (subst (AllByRecursion (EntryKnown s.host.host.records)) (taken_entry (state_of s).controller.queues e next) (tied_of s world t).agree.admin_commands.entries).0

pub suited : (s : Sides) → IsWorld s → s.trusted ≡ true → (e : SubEntry) → next_rung (state_of s) 0 ≡ Some e
    → Suits (taken s) (decision e (view_for (length s.pages) s.controller.queues s.controller.commands e))
suited s world t e next = by_verdict (decision e view) (decides e view)
  where
    cs : List ControllerQueue
    cs = s.controller.queues

    view : DeviceView
    view = view_for (length s.pages) cs s.controller.commands e

    -- the queue of that number before the entry was taken
    old : (q : ℕ) (h : HostQueue) (x : ControllerQueue) → slice_get s.host.host.queues q ≡ Some h → slice_get (change_contents zero with_taken cs) q ≡ Some x
        → (c : ControllerQueue) × (slice_get cs q ≡ Some c) × IsKnown s q h c × IsAlike x c
    old q h x at here =
        let (c, found) = controller_at s world q h at in
        (c, found, known s world t q h c at found, taken_alike cs zero q x c here found)

    there_seen : (c : ControllerQueue) → slice_get cs (named_queue e) ≡ Some c → view.cq_there ≡ c.cq_there
    there_seen c found = ap (λ (o : Option ControllerQueue). option_map_or (λ queue. queue.cq_there) o false) found

    few : length s.host.host.queues ≤ 65536
    few = (tied_of s world t).agree.few_queues

    stops : is_live view.sq ≡ true → (h : HostQueue) (x : ControllerQueue) → slice_get s.host.host.queues (named_queue e) ≡ Some h → slice_get (change_contents zero with_taken cs) (named_queue e) ≡ Some x → is_live x.state ≡ true
    stops live h x at here =
        let (c, found, is, alike) = old (named_queue e) h x at here in
        ap is_live (alike.state ∙ sym (ap (λ (o : Option ControllerQueue). option_map_or (λ queue. queue.state) o Absent) found)) ∙ live

    drops : (q : ℕ) (h : HostQueue) (x : ControllerQueue) → slice_get s.host.host.queues q ≡ Some h → slice_get (change_contents zero with_taken cs) q ≡ Some x → is_making_cq h.state ≡ true → h.ring ≡ fresh_host_ring
    drops q h x at here making =
        let (c, found, is, alike) = old q h x at here in
        is.fits.fresh (making_cq h.state making)

    completes : (e.opcode == CREATE_IO_CQ) ≡ true → view.cq_there ≡ false → (h : HostQueue) (x : ControllerQueue)
        → slice_get s.host.host.queues (named_queue e) ≡ Some h → slice_get (change_contents zero with_taken cs) (named_queue e) ≡ Some x → IsGranted s.host.entries (named_base e) h x
    completes code free h x at here =
        let (c, found, is, alike) = old (named_queue e) h x at here in
        let granted = completion_granted s world e (entry_known s world t e next) few h c at is code (sym (there_seen c found) ∙ free) in
        record { asked = granted.asked; fresh = granted.fresh; half = granted.half; absent = ap is_absent alike.state ∙ granted.absent; none = alike.there ∙ granted.none }

    submits : (e.opcode == CREATE_IO_SQ) ≡ true → view.cq_there ≡ true → (h : HostQueue) (x : ControllerQueue)
        → slice_get s.host.host.queues (named_queue e) ≡ Some h → slice_get (change_contents zero with_taken cs) (named_queue e) ≡ Some x → IsGrantedBeside s.host.entries (named_base e) h x
    submits code has h x at here =
        let (c, found, is, alike) = old (named_queue e) h x at here in
        let granted = submission_granted s world e (entry_known s world t e next) few h c at is code (sym (there_seen c found) ∙ has) in
        record { unserved = granted.unserved; fresh = granted.fresh; half = granted.half; there = alike.there ∙ granted.there }

    by_verdict : (v : AdminVerdict) → Decides e view v → Suits (taken s) v
    by_verdict (Answer st dw0) d = tt
    by_verdict (AbortJob q cid) d =
        subst (λ (q : ℕ). Suits (taken s) (AbortJob q cid)) (sym d.0)
        (subst (λ (cid : ℕ). Suits (taken s) (AbortJob (named_queue e) cid)) (sym d.1)
        (abort_open s.controller.commands (named_queue e) (named_command e) (world.sides.controller.commands.differ (named_queue e) (named_command e)) d.2))
    by_verdict (StopQueue q) d = subst (λ (q : ℕ). Suits (taken s) (StopQueue q)) (sym d.0) (stops d.1)
    by_verdict (DropCompletion q) d = drops q
    by_verdict (MakeCompletion q base) d =
        subst (λ (q : ℕ). Suits (taken s) (MakeCompletion q base)) (sym d.queue)
        (subst (λ (base : ℕ). Suits (taken s) (MakeCompletion (named_queue e) base)) (sym d.begins) (completes d.opcode d.free))
    by_verdict (MakeSubmission q base) d =
        subst (λ (q : ℕ). Suits (taken s) (MakeSubmission q base)) (sym d.queue)
        (subst (λ (base : ℕ). Suits (taken s) (MakeSubmission (named_queue e) base)) (sym d.begins) (submits d.opcode d.there))
