-- What a call of one side leaves of the other.
use Rattle.std.proofs.Common.{◌≡◌, ◌≢◌, ℕ, zero, suc, ◌+◌, ◌<◌, ◌≤◌, nat_lt, Bool, true, false, Some, List, [], ◌∷◌, length, slice_get, refl, ap, sym, ◌∙◌, arith, subst, ltb-true, ◌||◌, if◌then◌else◌, ◌==◌, Option, None, map, is_some, ap₂}
use Rattle.std.{proofs.lemmas.{Bool.OnTrue_at, Option.slice_get-map}, specs.{List.AllByRecursion, Option.option_map}}
use Rattle.host_core.{proofs.PageOwners.among-from, specs.Alone.alone}
use Rattle.machine_model.proofs.Counting.{one, held_once, total, not_held}
use Rattle.machine_model.proofs.Owned.{in_queue, in_record, owned, owned_is, none_here, in_is, taken, taken_le, taken_from_out}
use Rattle.machine_model.{proofs.Steps.{length-in_store, Accepts}, specs.{After.{course_of, after}, Agreeing.{QueueFits, QueuesFit}, Always.HasHalves}}
use Rattle.machine_model.specs.{Events.{Event, Reply}, Memory.{is_in, memory_of}, Positions.IsInRing}
use Rattle.machine_model.specs.Refusals.{has_cq, in_service, is_making_cq, is_reaped, served_queue, is_submitted}
use Rattle.machine_model.specs.{State.{HostQueue, Record, pages_of, ServedQueue, State, Job, PostedCompletion}, Step.times, declared.words.HostState.HostState}
use Rattle.two_sides.proofs.{Agreed.stood_of, JobLaws.stay_after, NeverFull.ListsStay, Provided.{In, in_at, all_indexed}}
use Rattle.two_sides.proofs.Served.{Stood, job_list, serves_in, course_in, course_over, counts_sent, page_there}
use Rattle.two_sides.proofs.Untouched.{among_counts, holds_left as among_left, holds_right as among_right, sent_page}
use Rattle.two_sides.specs.Sides.{Sides, state_of, served_queue_of, served_queues_of, job_of, present, posted_completion, unfetched_between, completions_between}
use Rattle.two_sides.specs.Ties.{AreSides, AreTied, IsOwned, IsWorld, ShareQueue, ShareQueues, RingsStand, QueueStands, AllQueuesStand, first_completion_page, has_ring, WalkStands, WalksStand, HeadsFollow, ShareHalves}
use Rattle.page_ledger.specs.Owners.{is_among, pages_from}
use Rattle.admin_commands.specs.Verdicts.{is_absent}
use Rattle.controller_core.specs.{Contents.{FetchedCommand, FitsCommand, FitsWork, FetchedWork}, declared.command.FetchedWork.TheVariants.{Io, Admin}}
use Rattle.controller_core.specs.declared.queue.ControllerQueue.{ControllerQueue}
use Rattle.page_memory.specs.{Memory.Memory, Pages.{byte_at, Pages, page_at}, declared.page.Half.TheVariants.{Submission, Completion}}
use Rattle.queue_pair.{proofs.Halves.{pages_in, pages_agree, entries_agree, posted_agree, phases_agree}, specs.{Halves.{IsIn, Agree}, Lists.PhasesStand}}
use Rattle.queue_pair.specs.{Members.change, Memory.half_pages}
use Rattle.block_image.specs.Blocks.{block_count}
use Rattle.controller_walk.{proofs.Same.{list_served, walk_served}, specs.{Laws.after_units, Serving.Serves}}
use Rattle.controller_walk.specs.{Units.{Stays, Reads, Moves, Course, Does, course_of_list}, declared.walk.Walk.Walk}
use Rattle.io_commands.specs.Jobs.{JobContents, job_course, course_of_walk, direction_of_entry, need_of_entry}
use Rattle.entry_codec.specs.declared.{completion.ComEntry.ComEntry, submission.SubEntry.SubEntry}
use Rattle.page_memory.proofs.Lists.{some_is}
use Rattle.machine_model.proofs.Sound.{small}
use Rattle.page_memory.proofs.Lists.{all-at}

-- Each page of the pool is free, or of one queue's half, or of one command.

-- how often a page is owned: once in the pool, and never outside
owned_as : (s : Sides) → AreSides s → (p : ℕ) → owned p s.host.host ≡ one (nat_lt p (length s.pages))
owned_as s sides p = sym (owned_is p s.host.host) ∙ sides.kept.owners p

pub owned_once : (s : Sides) → AreSides s → (p : ℕ) → owned p s.host.host ≤ 1
owned_once s sides p = omega (arith, owned_as s sides p, small (nat_lt p (length s.pages)))

-- two members of a list count no more than all of it
pub both_count : {A : Type 0} (w : A → ℕ) (xs : List A) (i j : ℕ) (x y : A) → slice_get xs i ≡ Some x → slice_get xs j ≡ Some y → i ≢ j → w x + w y ≤ total w xs
both_count w [] i j x y e f apart = absurd cc
both_count w (z ∷ xs) zero zero x y e f apart = absurd (apart refl)
both_count w (z ∷ xs) zero (suc j) x y e f apart = let same : z ≡ x = cc in omega (arith, ap w same, in_at xs j y f w)
both_count w (z ∷ xs) (suc i) zero x y e f apart = let same : z ≡ y = cc in omega (arith, ap w same, in_at xs i x e w)
both_count w (z ∷ xs) (suc i) (suc j) x y e f apart = omega (arith, both_count w xs i j x y e f (λ h. apart (ap suc h)))

-- the pages of a command are none of a queue's halves
pub commands_apart : (s : Sides) → AreSides s → (q : ℕ) (h : HostQueue) (r : Record) (p : ℕ) → slice_get s.host.host.queues q ≡ Some h → In r s.host.host.records → is_among (pages_of r) p ≡ true
    → (is_among h.sq_pages p ≡ false) × (is_among h.cq_pages p ≡ false)
commands_apart s sides q h r p e within among =
    let none' : in_queue p h ≡ 0 = omega (arith, held_once p (pages_of r) among, owned_once s sides p, within (in_record p), in_at s.host.host.queues q h e (in_queue p)) in
    (among_counts p h.sq_pages (omega (arith, none')), among_counts p h.cq_pages (omega (arith, none')))

-- a page of a queue's half is in
pub queue_page_in : (s : Sides) → AreSides s → (q : ℕ) (h : HostQueue) (p : ℕ) → slice_get s.host.host.queues q ≡ Some h → 0 < in_queue p h → is_in s.pages p ≡ true
queue_page_in s sides q h p e some =
    let count = in_at s.host.host.queues q h e (in_queue p) in
    let none' : total (taken p) s.host.host.records ≡ 0 = omega (arith, owned_once s sides p, some, count, taken_le p s.host.host.records) in
    let inside : p < length s.pages = within (nat_lt p (length s.pages)) refl (omega (arith, owned_as s sides p, some, count)) in
    some_is (sym (in_is s.pages p inside)
    ∙ (taken_from_out (alone s.host s.pages) sides.kept.out p (subst (λ (n : ℕ). p < n) (sym (length-in_store s.pages)) inside)
    ∙ ap (λ (b : Bool). Some b) (none_here _ none')))
  where
    within : (b : Bool) → nat_lt p (length s.pages) ≡ b → 0 < one b → p < length s.pages
    within true e l = ltb-true p (length s.pages) e
    within false e l = absurd (omega (arith, l))

-- a free page is one of the pool
pub free_below : (s : Sides) → AreSides s → (p : ℕ) → is_among s.host.host.free p ≡ true → p < length s.pages
free_below s sides p free = within (nat_lt p (length s.pages)) refl (omega (arith, owned_as s sides p, held_once p s.host.host.free free))
  where
    within : (b : Bool) → nat_lt p (length s.pages) ≡ b → 0 < one b → p < length s.pages
    within true e l = ltb-true p (length s.pages) e
    within false e l = absurd (omega (arith, l))

-- What is known of a queue on both sides, where nothing was forged.

-- whatever was forged
pub record IsPlaced (s : Sides) (q : ℕ) (h : HostQueue) (c : ControllerQueue) : Type 0 where
  pub share : ShareQueue s.host.entries q h c
  pub ring : IsInRing s.host.entries h.ring

pub record IsKnown (s : Sides) (q : ℕ) (h : HostQueue) (c : ControllerQueue) : Type 0 where
  pub placed : IsPlaced s q h c
  -- the submission half lies where both sides have it as long as the controller has the queue, and the completion half as long as its ring is in use; both are in
  pub submission : is_absent c.state ≡ false → h.sq_pages ≡ pages_from c.controller.sq (half_pages s.host.entries Submission)
  pub completion : has_ring h c ≡ true → h.cq_pages ≡ pages_from c.controller.cq (half_pages s.host.entries Completion)
  pub submission_in : is_absent c.state ≡ false → IsIn (byte_at s.pages) c.controller.sq (half_pages s.host.entries Submission)
  pub completion_in : has_ring h c ≡ true → IsIn (byte_at s.pages) c.controller.cq (half_pages s.host.entries Completion)
  -- its rings stand, and the ring that is granted for one is as it was granted
  pub rings : has_ring h c ≡ true → RingsStand (byte_at s.pages) q h c
  pub granted : is_making_cq h.state ≡ true → c.cq_there ≡ false → PhasesStand (byte_at s.pages) (first_completion_page h) s.host.entries 0 true
  pub granted_pages : is_making_cq h.state ≡ true → h.cq_pages ≡ pages_from (first_completion_page h) (half_pages s.host.entries Completion)
  pub fits : QueueFits s.host.entries h (served_queue_of (byte_at s.pages) h.ring c)
  pub served : in_service h.state ≡ true → c.cq_there ≡ true

-- A completion ring is in use where the host reaps it, where the controller has it, and so where the controller has the submission queue.

pub reaped_ring : (h : HostQueue) (c : ControllerQueue) → is_reaped h.state ≡ true → has_ring h c ≡ true
reaped_ring h c e = ap (λ (b : Bool). b || c.cq_there) e

pub there_ring : (h : HostQueue) (c : ControllerQueue) → c.cq_there ≡ true → has_ring h c ≡ true
there_ring h c e = grind arith

pub queue_ring : (s : Sides) (q : ℕ) (h : HostQueue) (c : ControllerQueue) → IsKnown s q h c → is_absent c.state ≡ false → has_ring h c ≡ true
queue_ring s q h c known there = there_ring h c (known.fits.half there)

-- As many queues on either side

controller_of : (n i k : ℕ) (hs : List HostQueue) (cs : List ControllerQueue) (h : HostQueue) → ShareQueues n i hs cs → slice_get hs k ≡ Some h → (c : ControllerQueue) × (slice_get cs k ≡ Some c)
controller_of n i k [] cs h share e = absurd cc
controller_of n i k (x ∷ hs) [] h share e = absurd share
controller_of n i zero (x ∷ hs) (c ∷ cs) h share e = (c, refl)
controller_of n i (suc k) (x ∷ hs) (c ∷ cs) h share e = controller_of n (suc i) k hs cs h share.1 e

pub controller_at : (s : Sides) → IsWorld s → (q : ℕ) (h : HostQueue) → slice_get s.host.host.queues q ≡ Some h → (c : ControllerQueue) × (slice_get s.controller.queues q ≡ Some c)
controller_at s world q h e = controller_of s.host.entries 0 q s.host.host.queues s.controller.queues h world.sides.queues e

host_of : (n i k : ℕ) (hs : List HostQueue) (cs : List ControllerQueue) (c : ControllerQueue) → ShareQueues n i hs cs → slice_get cs k ≡ Some c → (h : HostQueue) × (slice_get hs k ≡ Some h)
host_of n i k [] [] c share e = absurd cc
host_of n i zero (h ∷ hs) (x ∷ cs) c share e = (h, refl)
host_of n i (suc k) (h ∷ hs) (x ∷ cs) c share e = host_of n (suc i) k hs cs c share.1 e
host_of n i k x y c share e = absurd share

pub host_at : (s : Sides) → IsWorld s → (q : ℕ) (c : ControllerQueue) → slice_get s.controller.queues q ≡ Some c → (h : HostQueue) × (slice_get s.host.host.queues q ≡ Some h)
host_at s world q c e = host_of s.host.entries 0 q s.host.host.queues s.controller.queues c world.sides.queues e

-- What holds of each of them

controller_part : (m : Memory) (q : ℕ) (hs : List HostQueue) (cs : List ControllerQueue) (h : HostQueue) (c : ControllerQueue) → slice_get hs q ≡ Some h → slice_get cs q ≡ Some c
    → slice_get (served_queues_of m hs cs) q ≡ Some (served_queue_of m h.ring c)
controller_part m zero (x ∷ hs) (y ∷ cs) h c e f =
    let host : x ≡ h = cc in
    let controller : y ≡ c = cc in
    ap (λ (z : HostQueue). Some (served_queue_of m z.ring y)) host ∙ ap (λ (z : ControllerQueue). Some (served_queue_of m h.ring z)) controller
controller_part m (suc q) (x ∷ hs) (y ∷ cs) h c e f = controller_part m q hs cs h c e f
controller_part m q x cs h c e f = absurd cc

pub served_at : (s : Sides) (q : ℕ) (h : HostQueue) (c : ControllerQueue) → slice_get s.host.host.queues q ≡ Some h → slice_get s.controller.queues q ≡ Some c
    → served_queue (state_of s) q ≡ Some (served_queue_of (byte_at s.pages) h.ring c)
served_at s q h c e f = controller_part (byte_at s.pages) q s.host.host.queues s.controller.queues h c e f

-- one of all pairs, by what holds of each
pub from_zero : (q : ℕ) → 0 + q ≡ q
from_zero q = omega arith

pub share_of : (n i q : ℕ) (hs : List HostQueue) (cs : List ControllerQueue) (h : HostQueue) (c : ControllerQueue) → ShareQueues n i hs cs → slice_get hs q ≡ Some h → slice_get cs q ≡ Some c → ShareQueue n (i + q) h c
share_of n i zero (x ∷ hs) (y ∷ cs) h c share e f =
    let host : x ≡ h = cc in
    let controller : y ≡ c = cc in
    let here : i ≡ i + 0 = omega arith in
    subst (λ (k : ℕ). ShareQueue n k h c) here (subst (λ (z : ControllerQueue). ShareQueue n i h z) controller (subst (λ (z : HostQueue). ShareQueue n i z y) host share.0))
share_of n i (suc q) (x ∷ hs) (y ∷ cs) h c share e f =
    let next : suc i + q ≡ i + suc q = omega arith in
    subst (λ (k : ℕ). ShareQueue n k h c) next (share_of n (suc i) q hs cs h c share.1 e f)
share_of n i q x cs h c share e f = absurd cc

pub stands_of : (n : ℕ) (m : Memory) (i q : ℕ) (hs : List HostQueue) (cs : List ControllerQueue) (h : HostQueue) (c : ControllerQueue)
    → AllQueuesStand n m i hs cs → slice_get hs q ≡ Some h → slice_get cs q ≡ Some c → QueueStands n m (i + q) h c
stands_of n m i zero (x ∷ hs) (y ∷ cs) h c all e f =
    let host : x ≡ h = cc in
    let controller : y ≡ c = cc in
    let here : i ≡ i + 0 = omega arith in
    subst (λ (k : ℕ). QueueStands n m k h c) here (subst (λ (z : ControllerQueue). QueueStands n m i h z) controller (subst (λ (z : HostQueue). QueueStands n m i z y) host all.0))
stands_of n m i (suc q) (x ∷ hs) (y ∷ cs) h c all e f =
    let next : suc i + q ≡ i + suc q = omega arith in
    subst (λ (k : ℕ). QueueStands n m k h c) next (stands_of n m (suc i) q hs cs h c all.1 e f)
stands_of n m i q x cs h c all e f = absurd cc

pub fits_of : (n q : ℕ) (hs : List HostQueue) (ds : List ServedQueue) (h : HostQueue) (d : ServedQueue) → QueuesFit n hs ds → slice_get hs q ≡ Some h → slice_get ds q ≡ Some d → QueueFits n h d
fits_of n zero (x ∷ hs) (y ∷ ds) h d fits e f =
    let host : x ≡ h = cc in
    let controller : y ≡ d = cc in
    subst (λ (z : ServedQueue). QueueFits n h z) controller (subst (λ (z : HostQueue). QueueFits n z y) host fits.0)
fits_of n (suc q) (x ∷ hs) (y ∷ ds) h d fits e f = fits_of n q hs ds h d fits.1 e f
fits_of n q x ds h d fits e f = absurd cc

pub placed : (s : Sides) → IsWorld s → (q : ℕ) (h : HostQueue) (c : ControllerQueue)
    → slice_get s.host.host.queues q ≡ Some h → slice_get s.controller.queues q ≡ Some c → IsPlaced s q h c
placed s world q h c e f =
    record {
      share = subst (λ (k : ℕ). ShareQueue s.host.entries k h c) (from_zero q) (share_of s.host.entries 0 q s.host.host.queues s.controller.queues h c world.sides.queues e f);
      ring = all-at _ s.host.host.queues q h e world.sides.sound.positions;
    }

-- a half is in, wherever its pages begin
pub half_in : (s : Sides) → IsWorld s → (q : ℕ) (h : HostQueue) → slice_get s.host.host.queues q ≡ Some h → (pages : List ℕ) → ((p : ℕ) → 0 < times p pages → 0 < in_queue p h)
    → (first many : ℕ) → pages ≡ pages_from first many → IsIn (byte_at s.pages) first many
half_in s world q h e pages part first many same =
    pages_in s.pages first many world.sides.over.pool.whole
    (λ p l. queue_page_in s world.sides q h (first + p) e
    (part (first + p) (held_once (first + p) pages (ap (λ (ps : List ℕ). is_among ps (first + p)) same ∙ among-from first many p l))))

-- a half that has pages begins with the first of them
pub first_of_half : (n first : ℕ) (h : HostQueue) → 0 < n → h.cq_pages ≡ pages_from first (half_pages n Completion) → first_completion_page h ≡ first
first_of_half n first h some same = grind arith

pub half_lies : (n : ℕ) (h : HostQueue) → 0 < n → HasHalves n h → has_cq h.state ≡ true → h.cq_pages ≡ pages_from (first_completion_page h) (half_pages n Completion)
-- a completion half that lies together lies from the first of its pages
half_lies n h some halves there = grind arith

pub tied_of : (s : Sides) → IsWorld s → s.trusted ≡ true → AreTied s
tied_of s world t = OnTrue_at t world.tied

pub known : (s : Sides) → IsWorld s → s.trusted ≡ true → (q : ℕ) (h : HostQueue) (c : ControllerQueue)
    → slice_get s.host.host.queues q ≡ Some h → slice_get s.controller.queues q ≡ Some c → IsKnown s q h c
known s world t q h c e f =
    let m = byte_at s.pages in
    let n = s.host.entries in
    let tied = tied_of s world t in
    let place = placed s world q h c e f in
    let some : 0 < n = omega (arith, place.share.entries, place.share.side.least) in
    let stands : QueueStands n m q h c = subst (λ (k : ℕ). QueueStands n m k h c) (from_zero q) (stands_of n m 0 q s.host.host.queues s.controller.queues h c tied.queues e f) in
    record {
      placed = place;
      submission = stands.halves.submission;
      completion = stands.halves.completion;
      submission_in = λ there. half_in s world q h e h.sq_pages (λ p l. omega (arith, l)) c.controller.sq (half_pages n Submission) (stands.halves.submission there);
      completion_in = λ has. half_in s world q h e h.cq_pages (λ p l. omega (arith, l)) c.controller.cq (half_pages n Completion) (stands.halves.completion has);
      rings = stands.rings;
      granted = stands.granted;
      granted_pages = λ making. half_lies n h some (all-at (HasHalves n) s.host.host.queues q h e world.sides.provided.queues) (grind arith);
      fits = fits_of n q s.host.host.queues (served_queues_of m s.host.host.queues s.controller.queues) h _ tied.agree.pairs e (served_at s q h c e f);
      served = tied.serve.serves q h _ e (served_at s q h c e f);
    }

-- The walks stay where they stand in their lists, in a memory that keeps the lists.

pub stood : (s : Sides) → IsWorld s → s.trusted ≡ true → Stood (state_of s)
stood s world t = stood_of (state_of s) (tied_of s world t).agree

-- What serves a course serves what is left of it.

serves_after : (m other : Memory) (n : ℕ) (c : Course) → Serves m other c → Serves m other (after_units n c)
serves_after m other (suc n) (Does Stays rest) s = serves_after m other n rest s
serves_after m other (suc n) (Does (Reads place) rest) s = serves_after m other n rest s.1
serves_after m other (suc n) (Does (Moves place count offset) rest) s = serves_after m other n rest s.1
serves_after m other x c s = s

walk_again : (m other : Memory) (o : Option Walk) → Serves m other (course_of_walk m o) → course_of_walk other o ≡ course_of_walk m o
walk_again m other None s = refl
walk_again m other (Some w) s = walk_served m other w s

-- the course of a job's whole list
abbrev pub whole_course : Memory → JobContents → Course
whole_course m job = course_of_list m job.entry.sgl1 (direction_of_entry job.entry) (need_of_entry job.entry)

-- what a memory that serves the list leaves of a walk
pub stands_again : (m other : Memory) (done : ℕ) (job : JobContents) → Serves m other (whole_course m job) → job_course m job ≡ after_units done (whole_course m job)
    → job_course other job ≡ after_units done (whole_course other job)
stands_again m other done job serves stands =
    walk_again m other job.walk (subst (Serves m other) (sym stands) (serves_after m other done _ serves))
    ∙ stands ∙ sym (ap (after_units done) (list_served m other job.entry.sgl1 (direction_of_entry job.entry) (need_of_entry job.entry) serves))

-- a memory that keeps the lists serves the list of each job
pub job_served : (s : State) (m : Pages) (k : ℕ) (j : Job) → Stood s → ListsStay s m → slice_get s.controller.jobs k ≡ Some j → (j.q == 0) ≡ false → Serves (memory_of s.memory) (memory_of m) (course_of s j)
job_served s m k j stood stay at other =
    let l = job_list s stood j (in_at s.controller.jobs k j at) other (λ P all. all-at P s.controller.jobs k j at all) in
    serves_in s.memory m l.command.chain_pages l.command.data_pages (stay.chains l.command l.within l.phase) (stay.own l.command l.within l.phase) (course_of s j) (course_in s j l) (course_over s stood j l).1

pub still_stands : (s : Sides) (pages : Pages) → IsWorld s → s.trusted ≡ true → ListsStay (state_of s) pages → WalksStand (memory_of pages) s.controller.commands
still_stands s pages world t stay =
    all_indexed (λ (k : FetchedCommand). WalkStands (memory_of s.pages) k.units_done k.work) (λ (k : FetchedCommand). WalkStands (memory_of pages) k.units_done k.work) s.controller.commands
    (λ i k at. one k.q k.waiting_abort k.work k.units_done (all-at (FitsCommand (block_count s.controller.image) (length s.controller.queues)) s.controller.commands i k at world.sides.controller.commands.each).1
    (job_served (state_of s) pages i (job_of k) (stood s world t) stay (slice_get-map job_of s.controller.commands i ∙ ap (option_map job_of) at)))
    (tied_of s world t).walks
  where
    one : (q : ℕ) (waiting : Option ℕ) (work : FetchedWork) (done : ℕ) → FitsWork (block_count s.controller.image) q done work
        → (let j : Job = job_of (record { q = q; units_done = done; waiting_abort = waiting; work = work }) in (j.q == 0) ≡ false → Serves (memory_of s.pages) (memory_of pages) (course_of (state_of s) j))
        → WalkStands (memory_of s.pages) done work → WalkStands (memory_of pages) done work
    one q waiting (Io job) done fits serves stands = λ none. stands_again (memory_of s.pages) (memory_of pages) done job (serves fits.0) (stands none)
    one q waiting (Admin entry status dw0) done fits serves stands = tt

-- What a change of one queue, or of the memory outside the halves, leaves of the machine's queues and of the rings and halves.

one_more : (n i : ℕ) → n + suc i ≡ suc n + i
one_more n i = omega arith

-- queues that both memories show the same
same_queues : (m m' : Memory) (hs : List HostQueue) (cs : List ControllerQueue)
    → ((i : ℕ) (h : HostQueue) (c : ControllerQueue) → slice_get hs i ≡ Some h → slice_get cs i ≡ Some c → served_queue_of m' h.ring c ≡ served_queue_of m h.ring c)
    → served_queues_of m' hs cs ≡ served_queues_of m hs cs
same_queues m m' (h ∷ hs) (c ∷ cs) each = ap₂ (λ (d : ServedQueue) (ds : List ServedQueue). d ∷ ds) (each 0 h c refl refl) (same_queues m m' hs cs (λ i x y e f. each (suc i) x y e f))
same_queues m m' x cs each = refl

-- One queue is changed on both sides, and the machine's; of the others both memories show the same.
pub one_queue : (m m' : Memory) (q : ℕ) (f : HostQueue → HostQueue) (g : ControllerQueue → ControllerQueue) (k : ServedQueue → ServedQueue) (hs : List HostQueue) (cs : List ControllerQueue)
    → ((h : HostQueue) (c : ControllerQueue) → slice_get hs q ≡ Some h → slice_get cs q ≡ Some c → served_queue_of m' (f h).ring (g c) ≡ k (served_queue_of m h.ring c))
    → ((i : ℕ) (h : HostQueue) (c : ControllerQueue) → i ≢ q → slice_get hs i ≡ Some h → slice_get cs i ≡ Some c → served_queue_of m' h.ring c ≡ served_queue_of m h.ring c)
    → served_queues_of m' (change q f hs) (change q g cs) ≡ change q k (served_queues_of m hs cs)
one_queue m m' zero f g k (h ∷ hs) (c ∷ cs) here there =
    ap₂ (λ (d : ServedQueue) (ds : List ServedQueue). d ∷ ds) (here h c refl refl) (same_queues m m' hs cs (λ i x y e f. there (suc i) x y (λ n. cc) e f))
one_queue m m' (suc q) f g k (h ∷ hs) (c ∷ cs) here there =
    ap₂ (λ (d : ServedQueue) (ds : List ServedQueue). d ∷ ds) (there 0 h c (λ n. cc) refl refl)
    (one_queue m m' q f g k hs cs here (λ i x y other e f. there (suc i) x y (λ n. other (omega (arith, n))) e f))
one_queue m m' q f g k x cs here there = refl

same_stand : (n : ℕ) (m m' : Memory) (k : ℕ) (hs : List HostQueue) (cs : List ControllerQueue)
    → ((i : ℕ) (h : HostQueue) (c : ControllerQueue) → slice_get hs i ≡ Some h → slice_get cs i ≡ Some c → QueueStands n m (k + i) h c → QueueStands n m' (k + i) h c)
    → AllQueuesStand n m k hs cs → AllQueuesStand n m' k hs cs
same_stand n m m' k (h ∷ hs) (c ∷ cs) each all = (
  subst (λ (j : ℕ). QueueStands n m j h c → QueueStands n m' j h c) (omega arith) (each 0 h c refl refl) all.0,
  same_stand n m m' (suc k) hs cs (λ i x y e f. subst (λ (j : ℕ). QueueStands n m j x y → QueueStands n m' j x y) (one_more k i) (each (suc i) x y e f)) all.1,
)
same_stand n m m' k x cs each all = tt

one_stands_from : (n : ℕ) (m m' : Memory) (k q : ℕ) (f : HostQueue → HostQueue) (g : ControllerQueue → ControllerQueue) (hs : List HostQueue) (cs : List ControllerQueue)
    → ((h : HostQueue) (c : ControllerQueue) → slice_get hs q ≡ Some h → slice_get cs q ≡ Some c → QueueStands n m (k + q) h c → QueueStands n m' (k + q) (f h) (g c))
    → ((i : ℕ) (h : HostQueue) (c : ControllerQueue) → i ≢ q → slice_get hs i ≡ Some h → slice_get cs i ≡ Some c → QueueStands n m (k + i) h c → QueueStands n m' (k + i) h c)
    → AllQueuesStand n m k hs cs → AllQueuesStand n m' k (change q f hs) (change q g cs)
one_stands_from n m m' k zero f g (h ∷ hs) (c ∷ cs) here there all = (
  subst (λ (j : ℕ). QueueStands n m j h c → QueueStands n m' j (f h) (g c)) (omega arith) (here h c refl refl) all.0,
  same_stand n m m' (suc k) hs cs (λ i x y e d. subst (λ (j : ℕ). QueueStands n m j x y → QueueStands n m' j x y) (one_more k i) (there (suc i) x y (λ z. cc) e d)) all.1,
)
one_stands_from n m m' k (suc q) f g (h ∷ hs) (c ∷ cs) here there all = (
  subst (λ (j : ℕ). QueueStands n m j h c → QueueStands n m' j h c) (omega arith) (there 0 h c (λ z. cc) refl refl) all.0,
  one_stands_from n m m' (suc k) q f g hs cs (λ x y e d. subst (λ (j : ℕ). QueueStands n m j x y → QueueStands n m' j (f x) (g y)) (one_more k q) (here x y e d))
      (λ i x y other e d. subst (λ (j : ℕ). QueueStands n m j x y → QueueStands n m' j x y) (one_more k i) (there (suc i) x y (λ z. other (omega (arith, z))) e d)) all.1,
)
one_stands_from n m m' k q f g x cs here there all = tt

pub one_stands : (n : ℕ) (m m' : Memory) (q : ℕ) (f : HostQueue → HostQueue) (g : ControllerQueue → ControllerQueue) (hs : List HostQueue) (cs : List ControllerQueue)
    → ((h : HostQueue) (c : ControllerQueue) → slice_get hs q ≡ Some h → slice_get cs q ≡ Some c → QueueStands n m q h c → QueueStands n m' q (f h) (g c))
    → ((i : ℕ) (h : HostQueue) (c : ControllerQueue) → i ≢ q → slice_get hs i ≡ Some h → slice_get cs i ≡ Some c → QueueStands n m i h c → QueueStands n m' i h c)
    → AllQueuesStand n m zero hs cs → AllQueuesStand n m' zero (change q f hs) (change q g cs)
one_stands n m m' q f g hs cs here there all =
    one_stands_from n m m' 0 q f g hs cs
    (λ h c e d. subst (λ (j : ℕ). QueueStands n m j h c → QueueStands n m' j (f h) (g c)) (sym (from_zero q)) (here h c e d))
    (λ i h c other e d. subst (λ (j : ℕ). QueueStands n m j h c → QueueStands n m' j h c) (sym (from_zero i)) (there i h c other e d)) all

-- The host changes one of its queues over the same memory.

pub unchanged : {A : Type 0} (k : ℕ) (xs : List A) → change k (λ x. x) xs ≡ xs
unchanged k [] = refl
unchanged zero (x ∷ xs) = refl
unchanged (suc k) (x ∷ xs) = ap (λ l. x ∷ l) (unchanged k xs)

pub host_lists : (m : Memory) (q : ℕ) (f : HostQueue → HostQueue) (hs : List HostQueue) (cs : List ControllerQueue)
    → ((h : HostQueue) (c : ControllerQueue) → slice_get hs q ≡ Some h → slice_get cs q ≡ Some c → served_queue_of m (f h).ring c ≡ served_queue_of m h.ring c)
    → served_queues_of m (change q f hs) cs ≡ served_queues_of m hs cs
host_lists m q f hs cs here =
    ap (served_queues_of m (change q f hs)) (sym (unchanged q cs))
    ∙ one_queue m m q f (λ c. c) (λ d. d) hs cs here (λ i h c other e g. refl)
    ∙ unchanged q (served_queues_of m hs cs)

pub host_stands : (n : ℕ) (m : Memory) (q : ℕ) (f : HostQueue → HostQueue) (hs : List HostQueue) (cs : List ControllerQueue)
    → ((h : HostQueue) (c : ControllerQueue) → slice_get hs q ≡ Some h → slice_get cs q ≡ Some c → QueueStands n m q h c → QueueStands n m q (f h) c)
    → AllQueuesStand n m zero hs cs → AllQueuesStand n m zero (change q f hs) cs
host_stands n m q f hs cs here all =
    subst (λ (xs : List ControllerQueue). AllQueuesStand n m zero (change q f hs) xs) (unchanged q cs) (one_stands n m m q f (λ c. c) hs cs here (λ i h c other e g stands. stands) all)

-- a queue of the host in another state, with other pages: its rings stand, where nothing waits once it is out of service
pub state_stands : (m : Memory) (q : ℕ) (h : HostQueue) (c : ControllerQueue) (st : HostState) (sq_pages cq_pages : List ℕ) → RingsStand m q h c
    → (in_service st ≡ false → h.ring.head ≡ c.controller.ring.tail) → RingsStand m q (record h { state = st; sq_pages = sq_pages; cq_pages = cq_pages }) c
state_stands m q h c st sq_pages cq_pages stands drained =
    record {
      fetched = stands.fetched;
      rung = stands.rung;
      heard = stands.heard;
      expected = stands.expected;
      phases = stands.phases;
      owned = stands.owned;
      follow = stands.follow;
      drained = drained;
    }

-- The pages of a queue's halves that the host has are the same in another pool.
pub record SparesQueue (old new : Pages) (h : HostQueue) : Type 0 where
  pub submission : (p : ℕ) → is_among h.sq_pages p ≡ true → page_at new p ≡ page_at old p
  pub completion : (p : ℕ) → is_among h.cq_pages p ≡ true → page_at new p ≡ page_at old p

-- the same bytes are in a run of pages
same_run : (s : Sides) (pages : Pages) (own : List ℕ) (first many : ℕ) → ((p : ℕ) → is_among own p ≡ true → page_at pages p ≡ page_at s.pages p) → own ≡ pages_from first many
    → Agree (byte_at pages) (byte_at s.pages) first many
same_run s pages own first many same lie =
    pages_agree pages s.pages first many (λ p l. same (first + p) (ap (λ (ps : List ℕ). is_among ps (first + p)) lie ∙ among-from first many p l))

pub completion_agrees : (s : Sides) (pages : Pages) (q : ℕ) (h : HostQueue) (c : ControllerQueue) → IsKnown s q h c → SparesQueue s.pages pages h → has_ring h c ≡ true
    → Agree (byte_at pages) (byte_at s.pages) c.controller.cq (half_pages c.controller.entries Completion)
completion_agrees s pages q h c known spares has =
    subst (λ (n : ℕ). Agree (byte_at pages) (byte_at s.pages) c.controller.cq (half_pages n Completion)) (sym known.placed.share.entries)
    (same_run s pages h.cq_pages c.controller.cq (half_pages s.host.entries Completion) spares.completion (known.completion has))

turned : (m m' : Memory) (first many : ℕ) → Agree m' m first many → Agree m m' first many
turned m m' first many agree = record { same = λ k l. sym (agree.same k l) }

-- the completions of each queue are the same
completions_stay : (s : Sides) (pages : Pages) (q : ℕ) (h : HostQueue) (c : ControllerQueue) → IsKnown s q h c → SparesQueue s.pages pages h → has_ring h c ≡ true
    → completions_between (byte_at pages) h.ring c.controller ≡ completions_between (byte_at s.pages) h.ring c.controller
completions_stay s pages q h c known spares has =
    ap present (posted_agree (byte_at pages) (byte_at s.pages) c.controller.cq c.controller.entries h.ring.head c.controller.ring.tail
    (completion_agrees s pages q h c known spares has)
    (subst (λ (n : ℕ). h.ring.head < n) (sym known.placed.share.entries) known.placed.ring.head))

-- then the machine's queue is the same, and it stands
pub queue_stays : (s : Sides) (pages : Pages) (q : ℕ) (h : HostQueue) (c : ControllerQueue) → IsKnown s q h c → SparesQueue s.pages pages h
    → served_queue_of (byte_at pages) h.ring c ≡ served_queue_of (byte_at s.pages) h.ring c
queue_stays s pages q h c known spares = ap₂ (λ (us : List SubEntry) (ans : List PostedCompletion). shown us ans) (unfetched (is_absent c.state) refl) (answers c.cq_there refl)
  where
    shown : List SubEntry → List PostedCompletion → ServedQueue
    shown us ans = record { state = c.state; cq_there = c.cq_there; unfetched = us; rung = (served_queue_of (byte_at s.pages) h.ring c).rung; completions = ans }

    unfetched : (b : Bool) → is_absent c.state ≡ b → (if b then [] else unfetched_between (byte_at pages) h.ring c.controller) ≡ (if b then [] else unfetched_between (byte_at s.pages) h.ring c.controller)
    unfetched true e = refl
    unfetched false e =
        ap present (entries_agree (byte_at pages) (byte_at s.pages) c.controller.sq c.controller.entries c.controller.ring.head h.ring.tail
        (subst (λ (n : ℕ). Agree (byte_at pages) (byte_at s.pages) c.controller.sq (half_pages n Submission)) (sym known.placed.share.entries)
        (same_run s pages h.sq_pages c.controller.sq (half_pages s.host.entries Submission) spares.submission (known.submission e))) known.placed.share.side.head)

    answers : (b : Bool) → c.cq_there ≡ b → (if b then map posted_completion (completions_between (byte_at pages) h.ring c.controller) else []) ≡ (if b then map posted_completion (completions_between (byte_at s.pages) h.ring c.controller) else [])
    answers false e = refl
    answers true e = ap (map posted_completion) (completions_stay s pages q h c known spares (there_ring h c e))

pub rings_stay : (s : Sides) (pages : Pages) (q : ℕ) (h : HostQueue) (c : ControllerQueue) → IsKnown s q h c → SparesQueue s.pages pages h → has_ring h c ≡ true
    → RingsStand (byte_at pages) q h c
rings_stay s pages q h c known spares has =
    let rings = known.rings has in
    let same = sym (completions_stay s pages q h c known spares has) in
    record {
      fetched = rings.fetched;
      rung = rings.rung;
      heard = rings.heard;
      expected = rings.expected;
      phases = phases_agree (byte_at s.pages) (byte_at pages) c.controller.cq c.controller.entries c.controller.ring.tail c.controller.ring.phase
          (turned (byte_at s.pages) (byte_at pages) c.controller.cq (half_pages c.controller.entries Completion) (completion_agrees s pages q h c known spares has)) rings.phases;
      owned = subst (λ (es : List ComEntry). AllByRecursion (IsOwned q) es) same rings.owned;
      follow = subst (λ (es : List ComEntry). HeadsFollow c.controller.entries h.ring.known_head c.controller.ring.head es) same rings.follow;
      drained = rings.drained;
    }

pub granted_stays : (s : Sides) (pages : Pages) (q : ℕ) (h : HostQueue) (c : ControllerQueue) → IsKnown s q h c → SparesQueue s.pages pages h → is_making_cq h.state ≡ true → c.cq_there ≡ false
    → PhasesStand (byte_at pages) (first_completion_page h) s.host.entries 0 true
granted_stays s pages q h c known spares making absent =
    let first = first_completion_page h in
    phases_agree (byte_at s.pages) (byte_at pages) first s.host.entries 0 true
    (turned (byte_at s.pages) (byte_at pages) first (half_pages s.host.entries Completion)
    (same_run s pages h.cq_pages first (half_pages s.host.entries Completion) spares.completion (known.granted_pages making)))
    (known.granted making absent)

pub halves_of : (s : Sides) (q : ℕ) (h : HostQueue) (c : ControllerQueue) → IsKnown s q h c → ShareHalves s.host.entries h c
halves_of s q h c known = record { submission = known.submission; completion = known.completion }

pub stands_still : (s : Sides) (pages : Pages) (q : ℕ) (h : HostQueue) (c : ControllerQueue) → IsKnown s q h c → SparesQueue s.pages pages h
    → QueueStands s.host.entries (byte_at pages) q h c
stands_still s pages q h c known spares =
    record { halves = halves_of s q h c known; rings = rings_stay s pages q h c known spares; granted = granted_stays s pages q h c known spares }

-- all queues
abbrev pub Spares : Sides → Pages → Type 0
Spares s pages = (q : ℕ) (h : HostQueue) → slice_get s.host.host.queues q ≡ Some h → SparesQueue s.pages pages h

pub queues_stay : (s : Sides) (pages : Pages) → IsWorld s → s.trusted ≡ true → Spares s pages
    → served_queues_of (byte_at pages) s.host.host.queues s.controller.queues ≡ served_queues_of (byte_at s.pages) s.host.host.queues s.controller.queues
queues_stay s pages world t spares =
    same_queues (byte_at s.pages) (byte_at pages) s.host.host.queues s.controller.queues (λ q h c e f. queue_stays s pages q h c (known s world t q h c e f) (spares q h e))

pub all_stand_still : (s : Sides) (pages : Pages) → IsWorld s → s.trusted ≡ true → Spares s pages
    → AllQueuesStand s.host.entries (byte_at pages) zero s.host.host.queues s.controller.queues
all_stand_still s pages world t spares =
    same_stand s.host.entries (byte_at s.pages) (byte_at pages) 0 s.host.host.queues s.controller.queues
    (λ i h c e f stands. subst (λ (k : ℕ). QueueStands s.host.entries (byte_at pages) k h c) (sym (from_zero i)) (stands_still s pages i h c (known s world t i h c e f) (spares i h e)))
    (tied_of s world t).queues

-- Walks

-- so it is after each accepted event that leaves the commands alone
pub walks_after : (s : Sides) (e : Event) (reply : Reply) → IsWorld s → s.trusted ≡ true → Accepts (state_of s) e reply → WalksStand (memory_of (after (state_of s) e reply).memory) s.controller.commands
walks_after s e reply world t ok = still_stands s (after (state_of s) e reply).memory world t (stay_after (state_of s) e reply ok (stood s world t))

-- whose page a submitted command's is
submitted_owner : (p : ℕ) (rs : List Record) → 0 < total (sent_page p) rs
    → (i : ℕ) × (r : Record) × (slice_get rs i ≡ Some r) × (is_submitted r.phase ≡ true) × (is_among (pages_of r) p ≡ true)
submitted_owner p [] some = absurd (omega (arith, some))
submitted_owner p (r ∷ rs) some = owner_found (is_submitted r.phase) (is_among (pages_of r) p) refl refl some (submitted_owner p rs)
  where
    later : (i : ℕ) × (x : Record) × (slice_get rs i ≡ Some x) × (is_submitted x.phase ≡ true) × (is_among (pages_of x) p ≡ true)
        → (i : ℕ) × (x : Record) × (slice_get (r ∷ rs) i ≡ Some x) × (is_submitted x.phase ≡ true) × (is_among (pages_of x) p ≡ true)
    later (i, x, at, sub, among) = (suc i, x, at, sub, among)

    owner_found : (b a : Bool) → is_submitted r.phase ≡ b → is_among (pages_of r) p ≡ a → 0 < (if b then in_record p r else 0) + total (sent_page p) rs
        → (0 < total (sent_page p) rs → (i : ℕ) × (x : Record) × (slice_get rs i ≡ Some x) × (is_submitted x.phase ≡ true) × (is_among (pages_of x) p ≡ true))
        → (i : ℕ) × (x : Record) × (slice_get (r ∷ rs) i ≡ Some x) × (is_submitted x.phase ≡ true) × (is_among (pages_of x) p ≡ true)
    owner_found true true sub among l ih = (0, r, refl, sub, among)
    owner_found true false sub among l ih = later (ih (omega (arith, l, not_held p (pages_of r) among)))
    owner_found false a sub among l ih = later (ih (omega (arith, l)))

-- Walks read the pages of submitted commands alone: where these are the same, what is left of each list is.
abbrev pub SparesSubmitted : Sides → Pages → Type 0
SparesSubmitted s pages = (i : ℕ) (r : Record) → slice_get s.host.host.records i ≡ Some r → is_submitted r.phase ≡ true → (p : ℕ) → is_among (pages_of r) p ≡ true → page_at pages p ≡ page_at s.pages p

pub walks_stay : (s : Sides) (pages : Pages) → IsWorld s → s.trusted ≡ true → SparesSubmitted s pages → WalksStand (memory_of pages) s.controller.commands
walks_stay s pages world t spares = still_stands s pages world t (record {
  chains = λ r within sub p among. same p (counts_sent (state_of s) r within sub p (among_right p r.data_pages r.chain_pages among));
  own = λ r within sub p among.
      let here = among_left p r.data_pages r.chain_pages among in
      ap (λ (page : Option (List ℕ)). is_some page) (same p (counts_sent (state_of s) r within sub p here)) ∙ page_there (state_of s) (stood s world t).grounds r within sub p here;
})
  where
    same : (p : ℕ) → 0 < total (sent_page p) s.host.host.records → page_at pages p ≡ page_at s.pages p
    same p some = let own = submitted_owner p s.host.host.records some in spares own.0 own.1 own.2 own.3 p own.4

-- Who owns which page

-- the pages of a command are none of a queue's halves
pub apart_from_queues : (s : Sides) → IsWorld s → (q i : ℕ) (h : HostQueue) (r : Record) (p : ℕ) → slice_get s.host.host.queues q ≡ Some h → slice_get s.host.host.records i ≡ Some r
    → is_among (pages_of r) p ≡ true → (is_among h.sq_pages p ≡ false) × (is_among h.cq_pages p ≡ false)
apart_from_queues s world q i h r p e f among = commands_apart s world.sides q h r p e (in_at s.host.host.records i r f) among

-- and none of another command's
pub apart_from_commands : (s : Sides) → IsWorld s → (i j : ℕ) (r k : Record) (p : ℕ) → slice_get s.host.host.records i ≡ Some r → slice_get s.host.host.records j ≡ Some k → i ≢ j
    → is_among (pages_of r) p ≡ true → is_among (pages_of k) p ≡ false
apart_from_commands s world i j r k p e f apart among =
    among_counts p (pages_of k) (omega (arith, held_once p (pages_of r) among, owned_once s world.sides p, both_count (in_record p) s.host.host.records i j r k e f apart))

-- free pages are no queue's and no command's
pub free_apart_from_queues : (s : Sides) → IsWorld s → (q : ℕ) (h : HostQueue) (p : ℕ) → slice_get s.host.host.queues q ≡ Some h → is_among s.host.host.free p ≡ true
    → (is_among h.sq_pages p ≡ false) × (is_among h.cq_pages p ≡ false)
free_apart_from_queues s world q h p e free =
    let none : in_queue p h ≡ 0 = omega (arith, held_once p s.host.host.free free, owned_once s world.sides p, in_at s.host.host.queues q h e (in_queue p)) in
    (among_counts p h.sq_pages (omega (arith, none)), among_counts p h.cq_pages (omega (arith, none)))

pub free_apart_from_commands : (s : Sides) → IsWorld s → (i : ℕ) (r : Record) (p : ℕ) → slice_get s.host.host.records i ≡ Some r → is_among s.host.host.free p ≡ true
    → is_among (pages_of r) p ≡ false
free_apart_from_commands s world i r p e free =
    among_counts p (pages_of r) (omega (arith, held_once p s.host.host.free free, owned_once s world.sides p, in_at s.host.host.records i r e (in_record p)))

-- the halves of two queues, and the two halves of one, share no page
pub halves_apart : (s : Sides) → IsWorld s → (q k : ℕ) (h x : HostQueue) (p : ℕ) → slice_get s.host.host.queues q ≡ Some h → slice_get s.host.host.queues k ≡ Some x → q ≢ k
    → (is_among h.sq_pages p ≡ true → (is_among x.sq_pages p ≡ false) × (is_among x.cq_pages p ≡ false))
    × (is_among h.cq_pages p ≡ true → (is_among x.sq_pages p ≡ false) × (is_among x.cq_pages p ≡ false))
halves_apart s world q k h x p e f apart =
    let other : 0 < in_queue p h → (is_among x.sq_pages p ≡ false) × (is_among x.cq_pages p ≡ false) = λ own.
    let none : in_queue p x ≡ 0 = omega (arith, own, owned_once s world.sides p, both_count (in_queue p) s.host.host.queues q k h x e f apart) in
    (among_counts p x.sq_pages (omega (arith, none)), among_counts p x.cq_pages (omega (arith, none))) in
    (λ sq. other (omega (arith, (held_once p h.sq_pages sq))), λ cq. other (let l = held_once p h.cq_pages cq in omega (arith, l)))

pub own_halves_apart : (s : Sides) → IsWorld s → (q : ℕ) (h : HostQueue) (p : ℕ) → slice_get s.host.host.queues q ≡ Some h
    → is_among h.sq_pages p ≡ true → is_among h.cq_pages p ≡ false
own_halves_apart s world q h p e among =
    among_counts p h.cq_pages (omega (arith, held_once p h.sq_pages among, owned_once s world.sides p, in_at s.host.host.queues q h e (in_queue p)))
