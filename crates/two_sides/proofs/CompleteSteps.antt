-- Completions are steps of the machine.
use Rattle.controller_core.{proofs.{Lists.change-change, Rows.end-posted}, specs.Posting.{completion_by, page_posted, post_refusal, with_posted}}
use Rattle.controller_core.specs.Completing.{image_of_end, queues_of_end, status_of_end, without_command, without_submission, CompletesTo, command_refusal, complete_refusal, has_success, waits_among}
use Rattle.controller_core.specs.Contents.{FetchedCommand, FitsWork, FetchedWork, is_deletion, Contents, IsController, dw0_of_work, entry_of_work, is_command, verdict_of_work}
use Rattle.controller_core.specs.declared.{command.FetchedWork.TheVariants.{Io, Admin}, queue.ControllerQueue.ControllerQueue}
use Rattle.std.proofs.Common.{◌≡◌, ℕ, zero, ◌<◌, Bool, true, false, not, Option, Some, None, List, map, filter, slice_get, if◌then◌else◌, refl, ap₂, sym, ◌∙◌, arith, inl, inr, ◌≢◌, ◌==◌, ◌&&◌, ◌||◌, ◌++◌, Ok, Err, IfSome, IsSome, is_none, is_some, [], ◌∷◌, length, find, ap, subst}
use Rattle.std.{proofs.lemmas.Bool.{eqb-false, true≢false, cases_Bool, and_parts, not-false}, specs.Option.{option_map, option_map_or}}
use Rattle.admin_commands.specs.{Entries.named_queue, Verdicts.is_absent}
use Rattle.entry_codec.specs.{Completion.completion_bytes, declared.{admin_opcode.TheConstants.DELETE_IO_SQ, completion.ComEntry.ComEntry}}
use Rattle.entry_codec.specs.declared.status.Status.{Status}
use Rattle.host_core.proofs.Lists.{change-other}
use Rattle.machine_model.proofs.{Counting.{one, total}, Steps.{in_store, in_store-with_bytes}, Tokens.is_job}
use Rattle.machine_model.specs.After.{change, deletion_done, final_status, image_completed, on_controller, without_job, after_complete, with_posted_completion}
use Rattle.machine_model.specs.{Agreeing.on_queue, Memory.{is_in, memory_of}}
use Rattle.machine_model.specs.Refusals.{completions_full, in_service, is_abort_of, job_at, post_page, refusal_of, slot_offset, waits}
use Rattle.machine_model.specs.{State.{State, ServedQueue, HostQueue, Job}, Step.Permits}
use Rattle.two_sides.proofs.{AdminKept.{admin_ended, places_left}, Agreed.agreed_linked}
use Rattle.two_sides.proofs.CompletionPosts.{CanPostCompletion, posted_is, posted_seen, posted_shares, posted_spares_commands, posted_spares_queues, posted_stands, page_is_in, post_room, slot_is_in, slot_written, with_completion}
use Rattle.two_sides.proofs.{Assembling.{ServesOver, serve_refused, served_stepped}, ControllerMoves.cleared}
use Rattle.two_sides.proofs.{Frames.{queue_stays, stands_still, walks_stay, IsKnown, served_at, known, there_ring, tied_of}, JobLaws.length-completion_bytes}
use Rattle.two_sides.proofs.Places.{controllers_changed, stands_changed, filter-map, IsFound, any-map, is_found, job-at, job-found, Shows, completions_full_is, post_page_is, shows}
use Rattle.two_sides.{proofs.{Provided.in_found, Serving.{with_served, either_by, same_pages}, Shared.belled}, specs.Serving.why_of}
use Rattle.two_sides.specs.Sides.{Sides, state_of, controller_part, served_queues_of, job_of, posted_completion, served_queue_of}
use Rattle.two_sides.specs.Stepping.{LeavesPages, StepsTo, served, completes_step, completes_refuse_alike}
use Rattle.two_sides.specs.Ties.{AllQueuesStand, QueueStands, ShareQueue, ShareQueues, IsWorld, SharesAdmin, WalkStands, WalksStand, has_ring}
use Rattle.page_memory.specs.{Memory.Memory, Pages.{Pages, byte_at}}
use Rattle.block_image.specs.Blocks.{block_count}
use Rattle.queue_pair.{proofs.Halves.completion_there, specs.{Memory.completion_slot, Slots.is_full}}
use Rattle.controller_core.specs.declared.refusal.ControllerRefusal.{ControllerRefusal}
use Rattle.controller_core.specs.declared.refusal.ControllerRefusal.TheVariants as because
use Rattle.machine_model.specs.Events as events
use Rattle.machine_model.specs.declared.words.Refusal.TheVariants as refusal
use Rattle.page_memory.proofs.Lists.{all-filter}
use Rattle.page_memory.proofs.Lists.{some_is}

-- How a command ends: on both sides, and at the machine.

-- A completion can carry each end.

pub end_fits : (blocks q done : ℕ) (image : List ℕ) (work : FetchedWork) → FitsWork blocks q done work → (status_of_end image work).sct < 8
end_fits blocks q done image work fits = grind arith

-- The queues

-- the machine's queues after the end of a command
abbrev pub controllers_of_end : FetchedWork → List ServedQueue → List ServedQueue
controllers_of_end (Io job) queues = queues
controllers_of_end (Admin entry status dw0) queues = if is_deletion entry status then change (named_queue entry) cleared queues else queues

pub controllers_ended : (m : Memory) (work : FetchedWork) (hs : List HostQueue) (cs : List ControllerQueue) → served_queues_of m hs (queues_of_end work cs) ≡ controllers_of_end work (served_queues_of m hs cs)
controllers_ended m (Io job) hs cs = refl
controllers_ended m (Admin entry status dw0) hs cs = by_deletion (is_deletion entry status)
  where
    by_deletion : (b : Bool) → served_queues_of m hs (if b then change (named_queue entry) without_submission cs else cs) ≡ (if b then change (named_queue entry) cleared (served_queues_of m hs cs) else served_queues_of m hs cs)
    by_deletion true = controllers_changed m m (named_queue entry) without_submission cleared hs cs (λ h c e f. refl) (λ i h c other e f. refl)
    by_deletion false = refl

pub stands_ended : (n : ℕ) (m : Memory) (work : FetchedWork) (hs : List HostQueue) (cs : List ControllerQueue) → AllQueuesStand n m zero hs cs → AllQueuesStand n m zero hs (queues_of_end work cs)
stands_ended n m (Io job) hs cs all = all
stands_ended n m (Admin entry status dw0) hs cs all = by_deletion (is_deletion entry status)
  where
    without : (q : ℕ) (h : HostQueue) (c : ControllerQueue) → QueueStands n m q h c → QueueStands n m q h (without_submission c)
    without q h c stands =
        record {
          halves = record { submission = λ there. absurd (true≢false there); completion = stands.halves.completion };
          rings = λ has. let r = stands.rings has in
              record { fetched = r.fetched; rung = r.rung; heard = r.heard; expected = r.expected; phases = r.phases; owned = r.owned; follow = r.follow; drained = r.drained };
          granted = stands.granted;
        }

    by_deletion : (b : Bool) → AllQueuesStand n m zero hs (if b then change (named_queue entry) without_submission cs else cs)
    by_deletion true = stands_changed n m m (named_queue entry) without_submission hs cs (λ h c e f stands. without (named_queue entry) h c stands) (λ i h c other e f stands. stands) all
    by_deletion false = all

pub share_ended : (n : ℕ) (work : FetchedWork) (hs : List HostQueue) (cs : List ControllerQueue) → ShareQueues n zero hs cs → ShareQueues n zero hs (queues_of_end work cs)
share_ended n (Io job) hs cs share = share
share_ended n (Admin entry status dw0) hs cs share = by_deletion (is_deletion entry status)
  where
    one : (i : ℕ) (h : HostQueue) (c : ControllerQueue) → ShareQueue n i h c → ShareQueue n i h (without_submission c)
    one i h c s = record { number = s.number; entries = s.entries; side = s.side }

    by_deletion : (b : Bool) → ShareQueues n zero hs (if b then change (named_queue entry) without_submission cs else cs)
    by_deletion true = belled n zero (named_queue entry) without_submission hs cs one share
    by_deletion false = share

-- A command's own queue isn't the one that it deletes.
pub controllers_end_elsewhere : (blocks q done : ℕ) (work : FetchedWork) (queues : List ServedQueue) → FitsWork blocks q done work → slice_get (controllers_of_end work queues) q ≡ slice_get queues q
controllers_end_elsewhere blocks q done (Io job) queues fits = refl
controllers_end_elsewhere blocks q done (Admin entry status dw0) queues fits = elim (cases_Bool (is_deletion entry status)) [
  | inl e ↦ rw e (change-other (named_queue entry) q cleared queues (λ same. eqb-false (named_queue entry) 0 (fits.2 e) (same ∙ fits.0)))
  | inr e ↦ rw e refl
]

-- Another change of a queue commutes with it.
pub controllers_end_behind : (work : FetchedWork) (q : ℕ) (f : ServedQueue → ServedQueue) (queues : List ServedQueue) → ((at : ServedQueue) → cleared (f at) ≡ f (cleared at))
    → controllers_of_end work (change q f queues) ≡ change q f (controllers_of_end work queues)
controllers_end_behind (Io job) q f queues bears = refl
controllers_end_behind (Admin entry status dw0) q f queues bears = by_deletion (is_deletion entry status)
  where
    by_deletion : (b : Bool) → (if b then change (named_queue entry) cleared (change q f queues) else change q f queues) ≡ change q f (if b then change (named_queue entry) cleared queues else queues)
    by_deletion true = change-change (named_queue entry) q cleared f bears queues
    by_deletion false = refl

-- At the machine

pub status_seen : (s : State) (k : FetchedCommand) (blocks : ℕ) → FitsWork blocks k.q k.units_done k.work → final_status s (job_of k) ≡ status_of_end s.controller.image k.work
status_seen s k blocks fits = grind arith

image_seen : (image : List ℕ) (k : FetchedCommand) (blocks : ℕ) → FitsWork blocks k.q k.units_done k.work → image_completed (job_of k) image ≡ image_of_end image k.work
image_seen image k blocks fits = grind arith

deletion_seen : (s : State) (image : List ℕ) (k : FetchedCommand) (blocks : ℕ) → FitsWork blocks k.q k.units_done k.work
    → deletion_done (job_of k) (status_of_end image k.work) s ≡ with_served s s.memory (controllers_of_end k.work s.controller.queues) s.controller.jobs s.controller.image
deletion_seen s image k blocks fits = grind arith

pub jobs-without : (q cid : ℕ) (commands : List FetchedCommand) → map job_of (without_command q cid commands) ≡ filter (λ j. not (is_job q cid j)) (map job_of commands)
jobs-without q cid commands = sym (filter-map job_of (λ (j : Job). not (is_job q cid j)) commands)

-- the machine's state after the end of a command, before its completion is posted
pub ended : (s : Sides) (q cid : ℕ) (k : FetchedCommand) (blocks : ℕ) → FitsWork blocks k.q k.units_done k.work
    → with_served (state_of s) s.pages (controllers_of_end k.work (controller_part s).queues) (map job_of (without_command q cid s.controller.commands)) (image_of_end s.controller.image k.work)
    ≡ deletion_done (job_of k) (status_of_end s.controller.image k.work) (on_controller (λ d. record d { image = image_completed (job_of k) d.image }) (without_job q cid (state_of s)))
ended s q cid k blocks fits =
    ap₂ (with_served (state_of s) s.pages (controllers_of_end k.work (controller_part s).queues)) (jobs-without q cid s.controller.commands) (sym (image_seen s.controller.image k blocks fits))
    ∙ sym (deletion_seen (on_controller (λ d. record d { image = image_completed (job_of k) d.image }) (without_job q cid (state_of s))) s.controller.image k blocks fits)

-- The completion of a command is a step of the machine, and leaves both sides tied.

-- What is known of the queue of a command, where nothing was forged

there : (s : Sides) → IsWorld s → s.trusted ≡ true → (q cid : ℕ) (k : FetchedCommand) (h : HostQueue) (c : ControllerQueue) → find (is_command q cid) s.controller.commands ≡ Some k
    → slice_get s.host.host.queues q ≡ Some h → slice_get s.controller.queues q ≡ Some c → is_absent c.state ≡ false
there s world t q cid k h c found at here =
    ap (λ (o : Option ServedQueue). option_map_or (λ at. is_absent at.state) o true) (sym (served_at s q h c at here))
    ∙ (agreed_linked (state_of s) (tied_of s world t).agree).jobs_have_queues q cid (ap is_some (job-found s q cid k found))

-- and the host has it in service
served_there : (s : Sides) → IsWorld s → s.trusted ≡ true → (q cid : ℕ) (k : FetchedCommand) (h : HostQueue) → find (is_command q cid) s.controller.commands ≡ Some k → slice_get s.host.host.queues q ≡ Some h → in_service h.state ≡ true
served_there s world t q cid k h found at =
    let named = and_parts (k.q == q) ((entry_of_work k.work).cid == cid) (is_found s world q cid k found).named in
    let some : 0 < total (on_queue q) (state_of s).controller.jobs = omega (arith, ap one named.0, in_found (is_job q cid) (state_of s).controller.jobs (job_of k) (job-found s q cid k found) (on_queue q)) in
    not-false (in_service h.state)
    (sym (ap (λ (o : Option HostQueue). option_map_or (λ h. not (in_service h.state)) o false) at) ∙ (tied_of s world t).agree.job_service q some)

-- The refusals

refused_by : (s : State) (q cid : ℕ) (j : Job) (waiting full : Bool) → job_at s q cid ≡ Some j → waits s j ≡ waiting → completions_full s q ≡ full → is_in s.memory (post_page s q) ≡ true
    → refusal_of s (events.Complete q cid) ≡ (if is_none j.verdict then Some refusal.Walking else if waiting then Some refusal.Waits else if full then Some refusal.Full else None)
refused_by s q cid j waiting full ej ew ef ei = rw (← ew, ← ef, ej, ei) refl

waits_seen : (s : Sides) (k : FetchedCommand) → waits (state_of s) (job_of k) ≡ waits_among s.controller.commands k
waits_seen s k =
    ap₂ (λ (a b : Bool). (k.q == 0) && (a || (((entry_of_work k.work).opcode == DELETE_IO_SQ) && has_success k.work && b)))
    (any-map job_of (λ (j : Job). is_abort_of (entry_of_work k.work).cid j.waiting_abort) s.controller.commands)
    (any-map job_of (λ (j : Job). j.q == _) s.controller.commands)

same_causes : (none waiting full out : Bool) → out ≡ false
    → (if none then Some refusal.Walking else if waiting then Some refusal.Waits else if full then Some refusal.Full else None)
    ≡ option_map why_of (if none then Some because.Walking else if waiting then Some because.Waits else if full then Some because.Full else if out then Some because.SlotOut else None)
same_causes none waiting full out e = grind arith

pub complete_refused_alike : completes_refuse_alike
complete_refused_alike s q cid world t = by_command (find (is_command q cid) s.controller.commands) refl
  where
    none_some : {X : Type 0} (o : Option X) → IsSome o → is_none o ≡ false
    none_some o e = grind arith

    by_command : (o : Option FetchedCommand) → find (is_command q cid) s.controller.commands ≡ o
        → refusal_of (state_of s) (events.Complete q cid) ≡ option_map why_of (option_map_or (command_refusal s.controller (byte_at s.pages) q) o (Some because.NoJob))
    by_command None e = rw (job-at s q cid ∙ ap (option_map job_of) e) refl
    by_command (Some k) e =
        let found = is_found s world q cid k e in
        let h = found.host in
        let c = found.queue in
        let known = known s world t q h c found.host_here found.queue_here in
        let has = known.fits.half (there s world t q cid k h c e found.host_here found.queue_here) in
        let used = there_ring h c has in
        let shown = shows s q h c found.host_here found.queue_here in
        let full = is_full c.controller.entries c.controller.ring.known_head c.controller.ring.tail in
        refused_by (state_of s) q cid (job_of k) (waits_among s.controller.commands k) full (job-found s q cid k e) (waits_seen s k) (completions_full_is (state_of s) s q h c shown known has)
        (ap (is_in s.pages) (post_page_is (state_of s) s q h c shown known has) ∙ page_is_in s q h c known used)
        ∙ same_causes (is_none (verdict_of_work k.work)) (waits_among s.controller.commands k) full (is_none (completion_slot (byte_at s.pages) c.controller.cq c.controller.ring.tail))
        (none_some _ (completion_there (byte_at s.pages) c.controller.cq s.host.entries c.controller.ring.tail (known.completion_in used) (subst (λ (n : ℕ). c.controller.ring.tail < n) known.placed.share.entries known.placed.share.side.tail)))
        ∙ ap (λ (o : Option ControllerQueue). option_map why_of (if is_none (verdict_of_work k.work) then Some because.Walking else if waits_among s.controller.commands k then Some because.Waits else option_map_or (λ queue. post_refusal (byte_at s.pages) queue.controller) o None)) (sym found.queue_here)

may_refuse : (s : Sides) (q cid : ℕ) (why : ControllerRefusal) → IsWorld s → complete_refusal s.controller (byte_at s.pages) q cid ≡ Some why → Permits (state_of s) (events.Complete q cid) (events.Refused (why_of why) [])
may_refuse s q cid why world e =
    subst (λ (o : Option ControllerRefusal). IfSome o Allowed) e (causes (find (is_command q cid) s.controller.commands)) (λ t. complete_refused_alike s q cid world t ∙ ap (option_map why_of) e)
  where
    Allowed : ControllerRefusal → Type 0
    Allowed why = (s.trusted ≡ true → refusal_of (state_of s) (events.Complete q cid) ≡ Some (why_of why)) → Permits (state_of s) (events.Complete q cid) (events.Refused (why_of why) [])

    first : (b : Bool) (why : ControllerRefusal) (o : Option ControllerRefusal) → Allowed why → IfSome o Allowed → IfSome (if b then Some why else o) Allowed
    first true why o here rest = here
    first false why o here rest = rest

    posts : (o : Option ControllerQueue) → IfSome (option_map_or (λ queue. post_refusal (byte_at s.pages) queue.controller) o None) Allowed
    posts None = tt
    posts (Some c) =
        first (is_full c.controller.entries c.controller.ring.known_head c.controller.ring.tail) because.Full _ (λ h. either_by s.trusted _ _ (λ t. (h t, refl)) (λ f. refl))
        (first (is_none (completion_slot (byte_at s.pages) c.controller.cq c.controller.ring.tail)) because.SlotOut None (λ h. either_by s.trusted _ _ (λ t. (h t, refl)) (λ f. refl)) tt)

    causes : (o : Option FetchedCommand) → IfSome (option_map_or (command_refusal s.controller (byte_at s.pages) q) o (Some because.NoJob)) Allowed
    causes None = λ h. either_by s.trusted _ _ (λ t. (h t, refl)) (λ f. refl)
    causes (Some k) =
        first (is_none (verdict_of_work k.work)) because.Walking _ (λ h. either_by s.trusted _ _ (λ t. (h t, refl)) (λ f. refl))
        (first (waits_among s.controller.commands k) because.Waits _ (λ h. either_by s.trusted _ _ (λ t. (h t, refl)) (λ f. refl)) (posts (slice_get s.controller.queues q)))

-- An accepted completion

refused_not : (b : Bool) (why : ControllerRefusal) (o : Option ControllerRefusal) → (if b then Some why else o) ≡ None → (b ≡ false) × (o ≡ None)
refused_not true why o e = cc
refused_not false why o e = (refl, e)

after_complete_is : (s : State) (q cid : ℕ) (j : Job) (st : Status) → job_at s q cid ≡ Some j → final_status s j ≡ st
    → after_complete q cid s ≡ with_posted_completion q cid st j.dw0 (deletion_done j st (on_controller (λ d. record d { image = image_completed j d.image }) (without_job q cid s)))
after_complete_is s q cid j st ej est = rw (← est, ej) refl

module _ (s : Sides) (q cid : ℕ) (c : Contents) (pages : Pages) (touched : List ℕ) (world : IsWorld s) (leaves : LeavesPages s.pages pages) (free : complete_refusal s.controller (byte_at s.pages) q cid ≡ None) (w : CompletesTo s.controller q cid (byte_at s.pages) [] c (byte_at pages) touched) where
  abbrev k : FetchedCommand
  k = w.command

  abbrev x : ControllerQueue
  x = w.queue

  abbrev st : Status
  st = status_of_end s.controller.image k.work

  abbrev e : ComEntry
  e = completion_by q cid st (dw0_of_work k.work) x.controller

  -- the pages with it, and what they show
  abbrev posted : Pages
  posted = with_completion s x e

  abbrev m : Memory
  m = byte_at posted

  abbrev hs : List HostQueue
  hs = s.host.host.queues

  found : IsFound s q cid k
  found = is_found s world q cid k w.found

  room : (is_full x.controller.entries x.controller.ring.known_head x.controller.ring.tail ≡ false) × (completion_slot (byte_at s.pages) x.controller.cq x.controller.ring.tail ≢ None)
  -- there is room for it, and its slot is in
  room = post_room (byte_at s.pages) x.controller (grind arith)

  pages_are : pages ≡ posted
  pages_are =
      slot_written s.pages pages x.controller.cq x.controller.ring.tail (completion_bytes e) world.sides.over.pool leaves
      (slot_is_in s.pages x.controller.cq x.controller.ring.tail room.1) (length-completion_bytes e) w.memory

  -- whatever was forged
  serves : IsController c → ServesOver s c pages
  serves is = record {
    leaves = leaves;
    in_store = ap in_store pages_are ∙ in_store-with_bytes s.pages (page_posted x.controller) (slot_offset 16 x.controller.ring.tail) (completion_bytes e);
    controller = is;
    queues =
        subst (λ (c : Contents). ShareQueues s.host.entries 0 hs c.queues) (sym w.leaves)
        (belled s.host.entries 0 q with_posted hs (queues_of_end k.work s.controller.queues) (posted_shares s.host.entries) (share_ended s.host.entries k.work hs s.controller.queues world.sides.queues));
    admin =
        subst (λ (c : Contents). SharesAdmin s.host.entries hs c.queues) (sym w.leaves)
        (places_left s.host.entries q with_posted hs (queues_of_end k.work s.controller.queues) (λ x. (refl, refl)) (admin_ended s.host.entries k.work hs s.controller.queues world.sides.admin));
    image = w.as_long;
  }

  module _ (t : s.trusted ≡ true) where
    queue_known : IsKnown s q found.host x
    queue_known = known s world t q found.host x found.host_here w.here

    queue_there : is_absent x.state ≡ false
    queue_there = there s world t q cid k found.host x w.found found.host_here w.here

    has : x.cq_there ≡ true
    has = queue_known.fits.half queue_there

    used : has_ring found.host x ≡ true
    used = there_ring found.host x has

    can : CanPostCompletion s q found.host x e
    can = record { known = queue_known; there = queue_there; served = served_there s world t q cid k found.host w.found found.host_here; room = room.0; typed = w.typed; fits = record { sct = end_fits (block_count s.controller.image) k.q k.units_done s.controller.image k.work found.fits.1; hints = record { retry_delay = omega arith } } }

    -- what changes of the machine's queue
    abbrev grown : ServedQueue → ServedQueue
    grown at = record at { completions = at.completions ++ posted_completion e ∷ [] }

    queues_posted : served_queues_of m hs (change q with_posted s.controller.queues) ≡ change q grown (controller_part s).queues
    queues_posted =
        controllers_changed (byte_at s.pages) m q with_posted grown hs s.controller.queues
        (λ h y at here. subst (λ (h : HostQueue). served_queue_of m h.ring (with_posted y) ≡ grown (served_queue_of (byte_at s.pages) h.ring y)) (some_is (sym found.host_here ∙ at))
        (subst (λ (y : ControllerQueue). served_queue_of m found.host.ring (with_posted y) ≡ grown (served_queue_of (byte_at s.pages) found.host.ring y)) (some_is (sym w.here ∙ here))
        (posted_seen s q found.host x e world found.host_here can)))
        (λ i h y other at here. queue_stays s posted i h y (known s world t i h y at here) (posted_spares_queues s q i found.host h x e world queue_known used found.host_here at other))

    stand_posted : AllQueuesStand s.host.entries m 0 hs (change q with_posted s.controller.queues)
    stand_posted =
        stands_changed s.host.entries (byte_at s.pages) m q with_posted hs s.controller.queues
        (λ h y at here stands. subst (λ (h : HostQueue). QueueStands s.host.entries m q h (with_posted y)) (some_is (sym found.host_here ∙ at))
        (subst (λ (y : ControllerQueue). QueueStands s.host.entries m q found.host (with_posted y)) (some_is (sym w.here ∙ here)) (posted_stands s q cid st (dw0_of_work k.work) found.host x world can)))
        (λ i h y other at here stands. stands_still s posted i h y (known s world t i h y at here) (posted_spares_queues s q i found.host h x e world queue_known used found.host_here at other))
        (tied_of s world t).queues

    queues_completed : served_queues_of m hs c.queues ≡ change q grown (controllers_of_end k.work (controller_part s).queues)
    queues_completed =
        ap (λ (c : Contents). served_queues_of m hs c.queues) w.leaves
        ∙ ap (served_queues_of m hs) (sym (end-posted k.work q s.controller.queues))
        ∙ controllers_ended m k.work hs (change q with_posted s.controller.queues)
        ∙ ap (controllers_of_end k.work) queues_posted
        ∙ controllers_end_behind k.work q grown (controller_part s).queues (λ at. refl)

    -- the machine's state after the end of the command, in which its queue is as before
    abbrev behind_end : State
    behind_end = with_served (state_of s) s.pages (controllers_of_end k.work (controller_part s).queues) (map job_of (without_command q cid s.controller.commands)) (image_of_end s.controller.image k.work)

    shown : Shows behind_end s q found.host x
    shown = record {
      entries = refl;
      host = found.host_here;
      controller = subst (λ (p : ℕ). slice_get (controllers_of_end k.work (controller_part s).queues) p ≡ slice_get (controller_part s).queues p) found.its_queue
          (controllers_end_elsewhere (block_count s.controller.image) k.q k.units_done k.work (controller_part s).queues found.fits.1)
          ∙ served_at s q found.host x found.host_here w.here;
    }

    state_completed : state_of (served s c pages) ≡ after_complete q cid (state_of s)
    state_completed =
        ap (λ (pages : Pages). state_of (served s c pages)) pages_are
        ∙ ap (λ (queues : List ServedQueue). with_served (state_of s) posted queues (map job_of c.commands) c.image) queues_completed
        ∙ ap (λ (c : Contents). with_served (state_of s) posted (change q grown (controllers_of_end k.work (controller_part s).queues)) (map job_of c.commands) c.image) w.leaves
        ∙ posted_is behind_end s q cid st (dw0_of_work k.work) found.host x shown refl can
        ∙ ap (with_posted_completion q cid st (dw0_of_work k.work)) (ended s q cid k (block_count s.controller.image) found.fits.1)
        ∙ sym (after_complete_is (state_of s) q cid (job_of k) st (job-found s q cid k w.found) (status_seen (state_of s) k (block_count s.controller.image) found.fits.1))

    stand_completed : AllQueuesStand s.host.entries (byte_at pages) 0 hs c.queues
    stand_completed =
        subst (λ (pages : Pages). AllQueuesStand s.host.entries (byte_at pages) 0 hs c.queues) (sym pages_are)
        (subst (λ (c : Contents). AllQueuesStand s.host.entries m 0 hs c.queues) (sym w.leaves)
        (subst (AllQueuesStand s.host.entries m 0 hs) (end-posted k.work q s.controller.queues)
        (stands_ended s.host.entries m k.work hs (change q with_posted s.controller.queues) stand_posted)))

    walks_completed : WalksStand (memory_of pages) c.commands
    walks_completed =
        subst (λ (pages : Pages). WalksStand (memory_of pages) c.commands) (sym pages_are)
        (subst (λ (c : Contents). WalksStand (memory_of posted) c.commands) (sym w.leaves)
        (all-filter (λ (k : FetchedCommand). WalkStands (memory_of posted) k.units_done k.work) (λ (k : FetchedCommand). not (is_command q cid k)) s.controller.commands
        (walks_stay s posted world t (posted_spares_commands s q found.host x e world queue_known used found.host_here))))

  permits : Permits (state_of s) (events.Complete q cid) (events.Completed touched)
  permits =
      either_by s.trusted _ _
      (λ t. (
        complete_refused_alike s q cid world t ∙ ap (option_map why_of) free,
        w.touches ∙ ap (λ (p : ℕ). p ∷ []) (sym (post_page_is (state_of s) s q found.host x (shows s q found.host x found.host_here w.here) (queue_known t) (has t))),
      ))
      (λ f. (ap is_some found.host_here, ap length w.touches))

  complete_done : IsController c → StepsTo s (events.Complete q cid) (events.Completed touched) (served s c pages)
  complete_done is =
      served_stepped s (events.Complete q cid) (events.Completed touched) c pages world refl (serves is) (λ new. refl) permits (λ t. (state_completed t, stand_completed t, walks_completed t))

pub complete_steps : completes_step
complete_steps s q cid (Ok done) c pages touched world is leaves w = complete_done s q cid c pages touched world leaves w.0 w.1 is
complete_steps s q cid (Err why) c pages touched world is leaves (e, same_controller, same_memory, untouched) =
    subst (λ (touched : List ℕ). StepsTo s (events.Complete q cid) (events.Refused (why_of why) touched) (served s c pages)) (sym untouched)
    (serve_refused s (events.Complete q cid) (why_of why) [] c pages world refl same_controller (same_pages s pages world leaves same_memory) (may_refuse s q cid why world e))
