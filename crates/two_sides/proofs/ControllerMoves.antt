-- How a step of the controller changes a state, and what it leaves in place.
use Rattle.machine_model.specs.After as a
use Rattle.std.proofs.Common.{◌≡◌, ℕ, ◌+◌, ◌/◌, ◌%◌, ◌==◌, Bool, true, false, ◌&&◌, Option, Some, None, List, [], ◌∷◌, ◌++◌, map, take, drop, if◌then◌else◌, refl, ap, ap₂, sym, ◌∙◌, subst, eqb-true, inl, inr, zero, suc, ◌<◌, arith, length, find, slice_get, is_some, ◌≤◌, not}
use Rattle.std.{proofs.lemmas.Bool.{true≢false, cases_Bool}, specs.{List.AllByRecursion, Option.option_map_or}}
use Rattle.machine_model.proofs.{Counting.all_changed, Headline.{in_limits, limits_say}, Kept.{sq_stays, cq_stays}}
use Rattle.machine_model.proofs.{Moves.{host_moves, half_from}, Owned.all_reset_queues, Sound.{asked_at, asks}}
use Rattle.machine_model.proofs.Steps.{Accepts, IsKept, each_step, each_run, part_controller}
use Rattle.machine_model.specs.After.{cq_there, dropped, completion_made, submission_made}
use Rattle.machine_model.specs.Agreeing.{is_absent_at as gone_at, has_completions_at as there_at, TokensGoRound, QueueFits as PairOk, QueuesFit as Paired, is_out_of_service_at as out_at, on_queue}
use Rattle.machine_model.specs.{Events.{Event, Reply}, Linked.{absent, IsLinked}, Opening.{opening, queues_from, Opens}, Positions.IsInRing}
use Rattle.machine_model.specs.Refusals.{host_queue, next_rung, job_at, is_job, conflicts, fetch_slot, post_slot, slot_page, slot_offset, has_cq, is_gone, has_sq, in_service, is_making}
use Rattle.machine_model.specs.{State.{State, HostQueue, ServedQueue, Job, PostedCompletion, Record}, Step.{HostPart, host_part, IsController, fits_ring}}
use Rattle.machine_model.specs.Weights.{one, total}
use Rattle.admin_commands.specs.{Entries.named_queue, Verdicts.is_absent, declared.SqState.TheVariants.{Absent, Stopping}}
use Rattle.controller_walk.specs.Units.{Act, Stays, Reads, Moves}
use Rattle.sgl_descriptor.specs.declared.Direction.{Direction, TheVariants.{Destination, Source}}
use Rattle.entry_codec.specs.{Completion.completion_bytes, Status.is_success, declared.{admin_opcode.TheConstants.DELETE_IO_SQ, completion.ComEntry.ComEntry}}
use Rattle.entry_codec.specs.declared.{status.{Status.Status, TheConstants.Status.COMMAND_ID_CONFLICT}, submission.SubEntry.SubEntry}
use Rattle.entry_codec.specs.declared.hints.TheConstants.Hints.{NONE}
use Rattle.io_commands.specs.Jobs.{verdict_of, direction_of_entry}
use Rattle.page_memory.specs.{Pages.{Pages, with_bytes, with_page_bytes}, declared.page.Half.TheVariants.{Submission, Completion}}
use Rattle.queue_pair.{proofs.Rings.next_below, specs.{Members.change, Memory.half_pages, Rings.{HostRing, fresh_host_ring, next_tail, next_head, knowing}}}
use Rattle.two_sides.specs.Provided.{each_step_stays_in_rings, every_run_stays_in_rings}
use Rattle.slot_table.proofs.Rows.{option_is}
use Rattle.page_memory.proofs.Lists.{all-at}
use Rattle.controller_core.proofs.Lists.{length-change}
pub use Rattle.machine_model.specs.Agreeing.{is_known_deleted as is_over, QueueFits as PairOk, QueuesFit as Paired, on_queue, is_out_of_service_at as out_at}

-- What an event of the controller leaves, case by case: a statement that holds of what each case leaves holds after the event.

-- A posted completion: only the memory depends on whether the queue is there

abbrev pub posted_completion : ℕ → ℕ → Status → ℕ → State → PostedCompletion
posted_completion q cid st dw0 s = record { cid = cid; status = st; dw0 = dw0; sq_head = fetch_slot s q }

abbrev pub completed_bytes : ℕ → ℕ → Status → ℕ → State → Pages
completed_bytes q cid st dw0 s =
    option_map_or
    (λ queue. with_page_bytes s.memory (slot_page queue.cq_pages 16 (post_slot s q)) (slot_offset 16 (post_slot s q))
    (completion_bytes (record { dw0 = dw0; sqhd = fetch_slot s q; sqid = q; cid = cid; phase = a.post_phase s q queue; status = st; hints = NONE }))) (host_queue s q) s.memory

abbrev pub posts_completion : ℕ → ℕ → Status → ℕ → State → State
posts_completion q cid st dw0 s = a.on_served_queue q (λ at. record at { completions = at.completions ++ posted_completion q cid st dw0 s ∷ [] }) (record s { memory = completed_bytes q cid st dw0 s })

pub completes_is : (q cid : ℕ) (st : Status) (dw0 : ℕ) (s : State) → posts_completion q cid st dw0 s ≡ a.with_posted_completion q cid st dw0 s
completes_is q cid st dw0 s = grind arith

-- Fetching

pub fetch_of : (P : State → Type 0) (s : State) (q : ℕ) (e : SubEntry) → next_rung s q ≡ Some e
    → (conflicts s q ≡ true → P (posts_completion q e.cid COMMAND_ID_CONFLICT 0 (a.taken_off q s)))
    → (conflicts s q ≡ false → q ≡ 0 → P (a.managed e (a.taken_off 0 s)))
    → (conflicts s q ≡ false → (q == 0) ≡ false → P (a.begun q e (a.taken_off q s))) → P (a.after_fetch q s)
fetch_of P s q e n conflict manages begins =
    subst (λ (o : Option SubEntry). P (option_map_or (λ e. if conflicts s q then a.with_posted_completion q e.cid COMMAND_ID_CONFLICT 0 (a.taken_off q s) else if q == 0 then a.managed e (a.taken_off 0 s) else a.begun q e (a.taken_off q s)) o s)) (sym n)
    (by (conflicts s q) (q == 0) refl refl)
  where
    by : (b z : Bool) → conflicts s q ≡ b → (q == 0) ≡ z → P (if b then a.with_posted_completion q e.cid COMMAND_ID_CONFLICT 0 (a.taken_off q s) else if z then a.managed e (a.taken_off 0 s) else a.begun q e (a.taken_off q s))
    by true z c is = subst P (completes_is q e.cid COMMAND_ID_CONFLICT 0 (a.taken_off q s)) (conflict c)
    by false true c is = manages c (eqb-true q 0 is)
    by false false c is = begins c is

pub fetch_by : (P : State → Type 0) (s : State) (q : ℕ) → P s
    → ((e : SubEntry) → next_rung s q ≡ Some e → conflicts s q ≡ true → P (posts_completion q e.cid COMMAND_ID_CONFLICT 0 (a.taken_off q s)))
    → ((e : SubEntry) → next_rung s q ≡ Some e → conflicts s q ≡ false → q ≡ 0 → P (a.managed e (a.taken_off 0 s)))
    → ((e : SubEntry) → next_rung s q ≡ Some e → conflicts s q ≡ false → (q == 0) ≡ false → P (a.begun q e (a.taken_off q s))) → P (a.after_fetch q s)
fetch_by P s q idle conflict manages begins = elim (option_is (next_rung s q)) [
  | inl n ↦ subst (λ (o : Option SubEntry). P (option_map_or (λ e. if conflicts s q then a.with_posted_completion q e.cid COMMAND_ID_CONFLICT 0 (a.taken_off q s) else if q == 0 then a.managed e (a.taken_off 0 s) else a.begun q e (a.taken_off q s)) o s)) (sym n) idle
  | inr (e, n) ↦ fetch_of P s q e n (conflict e n) (manages e n) (begins e n)
]

-- Walking: the bytes that a unit leaves a job, the memory after it, and both

abbrev pub unit_bytes : State → Direction → Act → List ℕ → List ℕ
unit_bytes s dir Stays bytes = bytes
unit_bytes s dir (Reads place) bytes = bytes
unit_bytes s Destination (Moves place n offset) bytes = bytes
unit_bytes s Source (Moves place n offset) bytes = with_bytes bytes offset (a.page_bytes s.memory place n)

abbrev pub unit_memory : State → Job → Direction → Act → Pages
unit_memory s j dir Stays = s.memory
unit_memory s j dir (Reads place) = s.memory
unit_memory s j Destination (Moves place n offset) = with_page_bytes s.memory (place / 4096) (place % 4096) (take n (drop offset j.bytes))
unit_memory s j Source (Moves place n offset) = s.memory

abbrev pub unit_done : State → Job → Act → Job → Job
unit_done s j act k = record k { bytes = unit_bytes s (direction_of_entry j.entry) act k.bytes; units_done = k.units_done + 1; verdict = verdict_of (a.next_answer s j) }

abbrev pub walks_on : ℕ → ℕ → Job → Act → State → State
walks_on q cid j act s = a.on_job q cid (unit_done s j act) (record s { memory = unit_memory s j (direction_of_entry j.entry) act })

walks_is : (s : State) (q cid : ℕ) (j : Job) (dir : Direction) (act : Act) → job_at s q cid ≡ Some j
    → a.on_job q cid (λ k. record k { bytes = unit_bytes s dir act k.bytes; units_done = k.units_done + 1; verdict = verdict_of (a.next_answer s j) }) (record s { memory = unit_memory s j dir act })
    ≡ a.on_job q cid (λ k. record k { units_done = k.units_done + 1; verdict = verdict_of (a.next_answer s j) }) (a.moved dir act q cid s)
walks_is s q cid j dir Stays at = refl
walks_is s q cid j dir (Reads place) at = refl
walks_is s q cid j Destination (Moves place n offset) at =
    ap (λ (o : Option Job). a.on_job q cid (λ k. record k { units_done = k.units_done + 1; verdict = verdict_of (a.next_answer s j) })
    (option_map_or (λ j. a.on_memory (λ m. with_page_bytes m (place / 4096) (place % 4096) (take n (drop offset j.bytes))) s) o s)) (sym at)
walks_is s q cid j Source (Moves place n offset) at = ap (λ (js : List Job). record s { controller = record s.controller { jobs = js } }) (fuse s.controller.jobs)
  where
    one : (k : Job) (b : Bool) → is_job q cid k ≡ b
        → (if b then record k { bytes = with_bytes k.bytes offset (a.page_bytes s.memory place n); units_done = k.units_done + 1; verdict = verdict_of (a.next_answer s j) } else k)
        ≡ (let x : Job = (if b then record k { bytes = with_bytes k.bytes offset (a.page_bytes s.memory place n) } else k) in if is_job q cid x then record x { units_done = x.units_done + 1; verdict = verdict_of (a.next_answer s j) } else x)
    one k b e = grind arith

    fuse : (js : List Job) → map (λ (k : Job). if is_job q cid k then record k { bytes = with_bytes k.bytes offset (a.page_bytes s.memory place n); units_done = k.units_done + 1; verdict = verdict_of (a.next_answer s j) } else k) js
        ≡ map (λ (k : Job). if is_job q cid k then record k { units_done = k.units_done + 1; verdict = verdict_of (a.next_answer s j) } else k) (map (λ (k : Job). if is_job q cid k then record k { bytes = with_bytes k.bytes offset (a.page_bytes s.memory place n) } else k) js)
    fuse [] = refl
    fuse (k ∷ js) = ap₂ (λ (x : Job) (xs : List Job). x ∷ xs) (one k (is_job q cid k) refl) (fuse js)

pub walk_is : (s : State) (q cid : ℕ) (j : Job) (act : Act) → job_at s q cid ≡ Some j → a.next_unit s j ≡ Some act → walks_on q cid j act s ≡ a.after_walk q cid s
walk_is s q cid j act at u =
    walks_is s q cid j (direction_of_entry j.entry) act at
    ∙ ap (λ (o : Option Act). option_map_or (λ act. a.on_job q cid (λ k. record k { units_done = k.units_done + 1; verdict = verdict_of (a.next_answer s j) }) (a.moved (direction_of_entry j.entry) act q cid s)) o s) (sym u)
    ∙ ap (λ (o : Option Job). option_map_or (λ j. option_map_or (λ act. a.on_job q cid (λ k. record k { units_done = k.units_done + 1; verdict = verdict_of (a.next_answer s j) }) (a.moved (direction_of_entry j.entry) act q cid s)) (a.next_unit s j) s) o s) (sym at)

pub walk_by : (P : State → Type 0) (s : State) (q cid : ℕ) → P s → ((j : Job) (act : Act) → job_at s q cid ≡ Some j → a.next_unit s j ≡ Some act → P (walks_on q cid j act s)) → P (a.after_walk q cid s)
walk_by P s q cid idle walks = elim (option_is (job_at s q cid)) [ inl at ↦ rw at idle | inr (j, at) ↦ rw at (elim (option_is (a.next_unit s j)) [ inl u ↦ rw u idle | inr (act, u) ↦ rw u (subst P (walks_is s q cid j (direction_of_entry j.entry) act at) (walks j act at u)) ]) ]

-- Completing

abbrev pub finished : ℕ → ℕ → Job → State → State
finished q cid j s = a.on_controller (λ d. record d { image = a.image_completed j d.image }) (a.without_job q cid s)

abbrev pub cleared : ServedQueue → ServedQueue
cleared at = record at { state = Absent; unfetched = []; rung = 0 }

abbrev pub clears : State → Job → Bool
clears s j = (j.q == 0) && (j.entry.opcode == DELETE_IO_SQ) && is_success (a.final_status s j)

pub complete_by : (P : State → Type 0) (s : State) (q cid : ℕ) → P s
    → ((j : Job) → job_at s q cid ≡ Some j → clears s j ≡ true → P (posts_completion q cid (a.final_status s j) j.dw0 (a.on_served_queue (named_queue j.entry) cleared (finished q cid j s))))
    → ((j : Job) → job_at s q cid ≡ Some j → clears s j ≡ false → P (posts_completion q cid (a.final_status s j) j.dw0 (finished q cid j s))) → P (a.after_complete q cid s)
complete_by P s q cid idle clearing plain = elim (option_is (job_at s q cid)) [ inl at ↦ rw at idle | inr (j, at) ↦ rw at (inner j at (clears s j) refl) ]
  where
    inner : (j : Job) → job_at s q cid ≡ Some j → (b : Bool) → clears s j ≡ b
        → P (a.with_posted_completion q cid (a.final_status s j) j.dw0 (if b then a.on_served_queue (named_queue j.entry) (λ at. record at { state = Absent; unfetched = []; rung = 0 }) (finished q cid j s) else finished q cid j s))
    inner j at true c = subst P (completes_is q cid (a.final_status s j) j.dw0 (a.on_served_queue (named_queue j.entry) cleared (finished q cid j s))) (clearing j at c)
    inner j at false c = subst P (completes_is q cid (a.final_status s j) j.dw0 (finished q cid j s)) (plain j at c)

-- Every step leaves the host's positions in their rings.

abbrev pub InRings : HostPart → Type 0
InRings part = AllByRecursion (λ queue. IsInRing part.entries queue.ring) part.host.queues

-- moves stay inside

ring_moved : (n q : ℕ) (g : HostRing → HostRing) (hs : List HostQueue) → ((ring : HostRing) → IsInRing n ring → IsInRing n (g ring)) → AllByRecursion (λ queue. IsInRing n queue.ring) hs
    → AllByRecursion (λ queue. IsInRing n queue.ring) (change q (λ queue. record queue { ring = g queue.ring }) hs)
ring_moved n q g hs each h = all_changed (λ queue. IsInRing n queue.ring) q (λ queue. record queue { ring = g queue.ring }) hs (λ queue e r. each queue.ring r) h

-- a queue's ring is unchanged
ring_left : (n q : ℕ) (f : HostQueue → HostQueue) (hs : List HostQueue) → ((queue : HostQueue) → (f queue).ring ≡ queue.ring) → AllByRecursion (λ queue. IsInRing n queue.ring) hs → AllByRecursion (λ queue. IsInRing n queue.ring) (change q f hs)
ring_left n q f hs same h = all_changed (λ queue. IsInRing n queue.ring) q f hs (λ queue e r. subst (IsInRing n) (sym (same queue)) r) h

-- a head pointer that fits is a slot
fits_below : (s : State) (q : ℕ) (e : ComEntry) → fits_ring s q e ≡ true → e.sqhd < s.entries
fits_below s q e h = grind arith

pub rings_event : (s : State) (e : Event) (reply : Reply) → Accepts s e reply → IsController e ≡ false → IsKept InRings s e reply
rings_event s e reply ok c h =
    let tail_moved : (q : ℕ) (hs : List HostQueue) → AllByRecursion (λ queue. IsInRing s.entries queue.ring) hs → AllByRecursion (λ queue. IsInRing s.entries queue.ring) (change q (λ queue. record queue { ring = next_tail s.entries queue.ring }) hs) = λ q hs h.
    ring_moved s.entries q (next_tail s.entries) hs (λ ring r. record { head = r.head; known_head = r.known_head; tail = next_below s.entries ring.tail r.tail }) h in
    -- rings as they open begin at slot 0, and a slot of the ring that was there is below its entries
    let granted_fresh : (q : ℕ) (f : HostQueue → HostQueue) → ((x : HostQueue) → (f x).ring ≡ fresh_host_ring) → AllByRecursion (λ queue. IsInRing s.entries queue.ring) (change q f s.host.queues) = λ q f fresh.
    all_changed (λ queue. IsInRing s.entries queue.ring) q f s.host.queues
    (λ x e r. let some : 0 < s.entries = omega (arith, r.tail) in subst (IsInRing s.entries) (sym (fresh x)) (record { head = some; known_head = some; tail = some })) h in
    let head_moved : (q : ℕ) → AllByRecursion (λ queue. IsInRing s.entries queue.ring) (change q (λ queue. record queue { ring = next_head s.entries queue.ring }) s.host.queues) = λ q.
    ring_moved s.entries q (next_head s.entries) s.host.queues (λ ring r. record { head = next_below s.entries ring.head r.head; known_head = r.known_head; tail = r.tail }) h in
    let told : (q : ℕ) (e : ComEntry) → fits_ring s q e ≡ true → InRings (host_part (a.heard q e s)) = λ q e fits.
    ring_moved s.entries q (knowing e.sqhd) (change q (λ queue. record queue { ring = next_head s.entries queue.ring }) s.host.queues) (λ ring r. record { head = r.head; known_head = fits_below s q e fits; tail = r.tail }) (head_moved q) in
    host_moves (λ (e : Event) (reply : Reply) (t : State). (InRings (host_part t))) s e reply ok c
    (record {
      reserves = λ q request d none is. h;
      submits = λ d entry r none built its live. tail_moved d.q s.host.queues h;
      cancels = λ d r its. h;
      rings = λ q none. h;
      rests = λ q is. h;
      rejects = λ q why is. head_moved q;
      tells = λ q cid st what e r request t heard w. told q e heard.fits;
      hears = λ q cid st what e r adm t heard w quiet unmade. told q e heard.fits;
      notes = λ q cid st what e r k t heard w. ring_left s.entries k _ (a.heard q e s).host.queues (λ queue. refl) (told q e heard.fits);
      frees = λ q cid st what e r k queue t heard w at retired good. ring_left s.entries k a.gone (a.heard q e s).host.queues (λ queue. refl) (told q e heard.fits);
      makes_cq = λ q cid st what e r k size base vector t heard w good. ring_left s.entries k a.half_made (a.heard q e s).host.queues (λ queue. refl) (told q e heard.fits);
      unmakes_cq = λ q cid st what e r k size base vector queue t heard w at bad. ring_left s.entries k a.gone (a.heard q e s).host.queues (λ queue. refl) (told q e heard.fits);
      makes_sq = λ q cid st what e r k size base t heard w good. ring_left s.entries k a.live (a.heard q e s).host.queues (λ queue. refl) (told q e heard.fits);
      unmakes_sq = λ q cid st what e r k size base queue t heard w at bad. ring_left s.entries k a.unmade_sq (a.heard q e s).host.queues (λ queue. refl) (told q e heard.fits);
      collects = λ q cid r f at held is. h;
      releases = λ f r its. h;
      aborts = λ q cid id none new. tail_moved 0 s.host.queues h;
      asks = λ q id queue none new live. ring_left s.entries q a.deleting (change 0 (λ queue. record queue { ring = next_tail s.entries queue.ring }) s.host.queues) (λ queue. refl) (tail_moved 0 s.host.queues h);
      drops = λ q id none new. tail_moved 0 s.host.queues h;
      creates_cqs = λ q vector id first queue none new granted. tail_moved 0 (change q (a.making_cq (half_from Completion first s)) s.host.queues) (granted_fresh q (a.making_cq (half_from Completion first s)) (λ x. refl));
      creates_sqs = λ q id first queue none new granted. tail_moved 0 (change q (a.making_sq (half_from Submission first s)) s.host.queues) (granted_fresh q (a.making_sq (half_from Submission first s)) (λ x. refl));
      retires = λ q queue none at deleted. ring_left s.entries q a.retired s.host.queues (λ queue. refl) h;
      forges = λ q slot bytes queue none at. h;
      resets = reset_fresh s.host.queues h;
    })
  where
    reset_fresh : (hs : List HostQueue) → AllByRecursion (λ queue. IsInRing s.entries queue.ring) hs → AllByRecursion (λ queue. IsInRing s.entries queue.ring) (a.reset_queues hs)
    reset_fresh [] r = tt
    reset_fresh (x ∷ hs) r =
        let some : 0 < s.entries = omega (arith, r.0.tail) in
        let fresh : IsInRing s.entries fresh_host_ring = record { head = some; known_head = some; tail = some } in
        all_reset_queues (λ queue. IsInRing s.entries queue.ring) (λ queue. IsInRing s.entries queue.ring) (x ∷ hs) (λ y e p. fresh) fresh r

-- whatever the event
pub rings_on : (s : State) (e : Event) (reply : Reply) → Accepts s e reply → InRings (host_part s) → InRings (host_part (a.after s e reply))
rings_on s e reply ok h = elim (cases_Bool (IsController e)) [ inl c ↦ subst InRings (sym (part_controller s e reply c)) h | inr c ↦ rings_event s e reply ok c h ]

-- The statements

opened_rings : (page n count : ℕ) → 0 < n → AllByRecursion (λ (queue : HostQueue). IsInRing n queue.ring) (queues_from page n count)
opened_rings page n zero some = tt
opened_rings page n (suc count) some = (record { head = some; known_head = some; tail = some }, opened_rings (page + half_pages n Submission + half_pages n Completion) n count some)

pub rings_at_opening : (pages queues n s : ℕ) (image : List ℕ) → Opens pages queues n s → InRings (host_part (opening pages queues n s image))
rings_at_opening pages queues n s image opens = opened_rings 0 n (queues + 1) (limits_say pages queues n s (in_limits pages queues n s opens)).0

pub steps_stay_in_rings : each_step_stays_in_rings
steps_stay_in_rings old e reply new step h = each_step InRings rings_event old e reply new step h

pub runs_stay_in_rings : every_run_stays_in_rings
runs_stay_in_rings pages queues n s image es replies new opens run = each_run InRings rings_event _ es replies new run (rings_at_opening pages queues n s image opens)

-- Where nothing was forged: what the host knows of a queue fits what the controller has of it.

pub paired_host : (n k : ℕ) (f : HostQueue → HostQueue) (hs : List HostQueue) (ds : List ServedQueue)
    → ((h : HostQueue) (d : ServedQueue) → slice_get hs k ≡ Some h → slice_get ds k ≡ Some d → PairOk n h d → PairOk n (f h) d) → Paired n hs ds → Paired n (change k f hs) ds
paired_host n k f [] [] step p = p
paired_host n zero f (h ∷ hs) (d ∷ ds) step p = (step h d refl refl p.0, p.1)
paired_host n (suc k) f (h ∷ hs) (d ∷ ds) step p = (p.0, paired_host n k f hs ds step p.1)
paired_host n k f x y step p = absurd p

pub paired_controller : (n k : ℕ) (f : ServedQueue → ServedQueue) (hs : List HostQueue) (ds : List ServedQueue)
    → ((h : HostQueue) (d : ServedQueue) → slice_get hs k ≡ Some h → slice_get ds k ≡ Some d → PairOk n h d → PairOk n h (f d)) → Paired n hs ds → Paired n hs (change k f ds)
paired_controller n k f [] [] step p = p
paired_controller n zero f (h ∷ hs) (d ∷ ds) step p = (step h d refl refl p.0, p.1)
paired_controller n (suc k) f (h ∷ hs) (d ∷ ds) step p = (p.0, paired_controller n k f hs ds step p.1)
paired_controller n k f x y step p = absurd p

-- a queue of the controller is at the host
pub paired_at : (n k : ℕ) (hs : List HostQueue) (ds : List ServedQueue) (d : ServedQueue) → slice_get ds k ≡ Some d → Paired n hs ds → (h : HostQueue) × (slice_get hs k ≡ Some h) × PairOk n h d
paired_at n k [] [] d e p = absurd cc
paired_at n zero (h ∷ hs) (x ∷ ds) d e p = let same : x ≡ d = cc in (h, refl, subst (λ (y : ServedQueue). PairOk n h y) same p.0)
paired_at n (suc k) (h ∷ hs) (x ∷ ds) d e p = paired_at n k hs ds d e p.1
paired_at n k x y d e p = absurd p

-- with whether each job's queue is there, what a touch needs
pub record Tied (s : State) : Type 0 where
  pub some_entries : 0 < s.entries
  pub pairs : Paired s.entries s.host.queues s.controller.queues
  pub jobs : (q : ℕ) → 0 < total (on_queue q) s.controller.jobs → gone_at s.controller.queues q ≡ false
  -- what the host takes for deleted is deleted
  pub over : (q : ℕ) (queue : HostQueue) → host_queue s q ≡ Some queue → is_over queue.state ≡ true → gone_at s.controller.queues q ≡ true
  pub gone : (q : ℕ) (queue : HostQueue) → host_queue s q ≡ Some queue → is_gone queue.state ≡ true → there_at s.controller.queues q ≡ false

pub found_counts : (q cid : ℕ) (js : List Job) (j : Job) → find (is_job q cid) js ≡ Some j → 0 < total (on_queue q) js
found_counts q cid [] j e = absurd cc
found_counts q cid (x ∷ js) j e = grind (arith, found_counts q cid js j)

there_queue : (s : State) (q : ℕ) → absent s q ≡ false → (d : ServedQueue) × (slice_get s.controller.queues q ≡ Some d) × (is_absent d.state ≡ false)
there_queue s q h = elim (option_is (slice_get s.controller.queues q)) [ inl e ↦ let h = rw e at h in absurd (true≢false h) | inr (d, e) ↦ let h = rw e at h in (d, e, h) ]

completion_queue : (s : State) (q : ℕ) → cq_there s q ≡ true → (d : ServedQueue) × (slice_get s.controller.queues q ≡ Some d) × (d.cq_there ≡ true)
completion_queue s q h = elim (option_is (slice_get s.controller.queues q)) [
  | inl e ↦ let h = rw e at h in absurd (true≢false (sym h))
  | inr (d, e) ↦ let h = rw e at h in (d, e, h)
]

pub linked_from_tied : (s : State) → InRings (host_part s) → Tied s → IsLinked s
linked_from_tied s rings tied = record {
  entries = tied.some_entries;
  inside = λ q queue e. all-at (λ queue. IsInRing s.entries queue.ring) s.host.queues q queue e rings;
  submission_whole = λ q queue e there.
      let d = there_queue s q there in
      let p = paired_at s.entries q s.host.queues s.controller.queues d.0 d.1 tied.pairs in
      let same : p.0 ≡ queue = cc (p.1, e) in
      subst (λ (h : HostQueue). length h.sq_pages ≡ half_pages s.entries Submission) same (p.2.sub (sq_stays p.0.state (λ o. true≢false (sym (tied.over q p.0 p.1 o) ∙ there))));
  completion_whole = λ q queue e there.
      let d = completion_queue s q there in
      let p = paired_at s.entries q s.host.queues s.controller.queues d.0 d.1 tied.pairs in
      let same : p.0 ≡ queue = cc (p.1, e) in
      subst (λ (h : HostQueue). length h.cq_pages ≡ half_pages s.entries Completion) same (p.2.comp (cq_stays p.0.state (λ o. true≢false (sym there ∙ tied.gone q p.0 p.1 (grind arith)))));
  known = λ q there.
      let d = there_queue s q there in
      ap is_some (paired_at s.entries q s.host.queues s.controller.queues d.0 d.1 tied.pairs).1;
  completion_stays = λ q there.
      let d = there_queue s q there in
      ap (λ o. option_map_or (λ (at : ServedQueue). at.cq_there) o false) d.1 ∙ (paired_at s.entries q s.host.queues s.controller.queues d.0 d.1 tied.pairs).2.half d.2;
  jobs_have_queues = λ q cid is. job_queue q cid is;
}
  where
    job_queue : (q cid : ℕ) → is_some (job_at s q cid) ≡ true → absent s q ≡ false
    job_queue q cid h = by_job (job_at s q cid) refl h
      where
        by_job : (o : Option Job) → job_at s q cid ≡ o → is_some o ≡ true → absent s q ≡ false
        by_job None e h = absurd (true≢false (sym h))
        by_job (Some j) e h = tied.jobs q (found_counts q cid s.controller.jobs j e)

-- Where nothing was forged: what a change of one queue, or of the jobs, does to the tie of the controller's queues to the host's.

-- queues fit, and a job's queue is there and in service
pub record Tie (n : ℕ) (hs : List HostQueue) (ds : List ServedQueue) (js : List Job) : Type 0 where
  pub pairs : Paired n hs ds
  pub jobs : (q : ℕ) → 0 < total (on_queue q) js → gone_at ds q ≡ false
  pub service : (q : ℕ) → 0 < total (on_queue q) js → out_at hs q ≡ false

-- with what is outstanding, and with the tokens of what is deleted and made
pub record Fit (n : ℕ) (rs : List Record) (hs : List HostQueue) (ds : List ServedQueue) (js : List Job) : Type 0 where
  pub some_entries : 0 < n
  pub few : length hs ≤ 65536
  pub asked : (q : ℕ) → total (asks q) rs ≡ one (asked_at hs q)
  pub pairs : Paired n hs ds
  pub jobs : (q : ℕ) → 0 < total (on_queue q) js → gone_at ds q ≡ false
  pub service : (q : ℕ) → 0 < total (on_queue q) js → out_at hs q ≡ false
  pub tokens : TokensGoRound rs hs ds js

pub tie_of : (n : ℕ) (rs : List Record) (hs : List HostQueue) (ds : List ServedQueue) (js : List Job) → Fit n rs hs ds js → Tie n hs ds js
tie_of n rs hs ds js h = record { pairs = h.pairs; jobs = h.jobs; service = h.service }

-- what a queue fails, it still fails as one is changed
pub stays_false : {A : Type 0} (g : A → Bool) (b : Bool) (k : ℕ) (f : A → A) (xs : List A) (q : ℕ) → ((x : A) → slice_get xs k ≡ Some x → k ≡ q → g x ≡ false → g (f x) ≡ false)
    → option_map_or g (slice_get xs q) b ≡ false → option_map_or g (slice_get (change k f xs) q) b ≡ false
stays_false g b zero f (x ∷ xs) zero step h = step x refl refl h
stays_false g b (suc k) f (x ∷ xs) (suc q) step h = stays_false g b k f xs q (λ y e same. step y e (ap suc same)) h
stays_false g b k f x q step h = h

-- fewer jobs
pub tie_jobs : (n : ℕ) (hs : List HostQueue) (ds : List ServedQueue) (js js' : List Job) → ((q : ℕ) → total (on_queue q) js' ≤ total (on_queue q) js) → Tie n hs ds js → Tie n hs ds js'
tie_jobs n hs ds js js' less h = record {
  pairs = h.pairs;
  jobs = λ q some. h.jobs q (omega (arith, less q));
  service = λ q some. h.service q (omega (arith, less q));
}

-- one of the host's queues
pub tie_host : (n : ℕ) (hs : List HostQueue) (ds : List ServedQueue) (js : List Job) (k : ℕ) (f : HostQueue → HostQueue)
    → ((x : HostQueue) (d : ServedQueue) → slice_get hs k ≡ Some x → slice_get ds k ≡ Some d → PairOk n x d → PairOk n (f x) d)
    → ((x : HostQueue) → slice_get hs k ≡ Some x → 0 < total (on_queue k) js → in_service x.state ≡ true → in_service (f x).state ≡ true)
    → Tie n hs ds js → Tie n (change k f hs) ds js
tie_host n hs ds js k f pair served h = record {
  pairs = paired_host n k f hs ds pair h.pairs;
  jobs = h.jobs;
  service = λ q some. stays_false (λ (x : HostQueue). not (in_service x.state)) false k f hs q (λ x e same out. grind arith) (h.service q some);
}

-- one of the controller's
pub tie_controller : (n : ℕ) (hs : List HostQueue) (ds : List ServedQueue) (js : List Job) (k : ℕ) (f : ServedQueue → ServedQueue)
    → ((x : HostQueue) (d : ServedQueue) → slice_get hs k ≡ Some x → slice_get ds k ≡ Some d → PairOk n x d → PairOk n x (f d))
    → ((d : ServedQueue) → slice_get ds k ≡ Some d → 0 < total (on_queue k) js → is_absent d.state ≡ false → is_absent (f d).state ≡ false)
    → Tie n hs ds js → Tie n hs (change k f ds) js
tie_controller n hs ds js k f pair there h = record {
  pairs = paired_controller n k f hs ds pair h.pairs;
  jobs = λ q some. stays_false (λ (d : ServedQueue). is_absent d.state) true k f ds q (λ d e same. there d e (subst (λ (z : ℕ). 0 < total (on_queue z) js) (sym same) some)) (h.jobs q some);
  service = h.service;
}

gone_of : (ds : List ServedQueue) (k : ℕ) (d : ServedQueue) → slice_get ds k ≡ Some d → gone_at ds k ≡ is_absent d.state
gone_of ds k d e = ap (λ o. option_map_or (λ (at : ServedQueue). is_absent at.state) o true) e

pub there_of : (ds : List ServedQueue) (k : ℕ) (d : ServedQueue) → slice_get ds k ≡ Some d → there_at ds k ≡ d.cq_there
there_of ds k d e = ap (λ o. option_map_or (λ (at : ServedQueue). at.cq_there) o false) e

out_of : (hs : List HostQueue) (k : ℕ) (x : HostQueue) → slice_get hs k ≡ Some x → out_at hs k ≡ not (in_service x.state)
out_of hs k x e = ap (λ o. option_map_or (λ (h : HostQueue). not (in_service h.state)) o false) e

-- what the host holds of a queue changes, and it comes into service or stays where it was
pub pair_moves : (n : ℕ) (x y : HostQueue) (d : ServedQueue) → (has_sq y.state ≡ true → length y.sq_pages ≡ half_pages n Submission) → (has_cq y.state ≡ true → length y.cq_pages ≡ half_pages n Completion)
    → (in_service y.state ≡ false → in_service x.state ≡ false) → (is_making y.state ≡ true → y.ring ≡ fresh_host_ring) → PairOk n x d → PairOk n y d
pair_moves n x y d sub comp out fresh p = record { sub = sub; comp = comp; half = p.half; emptied = p.emptied; unfetched = λ o. p.unfetched (out o); completions = λ o. p.completions (out o); fresh = fresh }

-- a ring of the host's, of a queue that is not being made
pub tie_ring : (n : ℕ) (hs : List HostQueue) (ds : List ServedQueue) (js : List Job) (k : ℕ) (g : HostRing → HostRing) → ((x : HostQueue) → slice_get hs k ≡ Some x → is_making x.state ≡ false)
    → Tie n hs ds js → Tie n (change k (λ h. record h { ring = g h.ring }) hs) ds js
tie_ring n hs ds js k g made h =
    tie_host n hs ds js k (λ h. record h { ring = g h.ring })
    (λ x d ex ed p. record { sub = p.sub; comp = p.comp; half = p.half; emptied = p.emptied; unfetched = p.unfetched; completions = p.completions; fresh = λ o. absurd (true≢false (sym o ∙ made x ex)) })
    (λ x ex some o. o) h

-- an entry is fetched, or the doorbell rung
pub tie_less : (n : ℕ) (hs : List HostQueue) (ds : List ServedQueue) (js : List Job) (k : ℕ) (f : ServedQueue → ServedQueue)
    → ((d : ServedQueue) → (f d).state ≡ d.state) → ((d : ServedQueue) → (f d).cq_there ≡ d.cq_there) → ((d : ServedQueue) → d.unfetched ≡ [] → (f d).unfetched ≡ []) → ((d : ServedQueue) → d.completions ≡ [] → (f d).completions ≡ [])
    → Tie n hs ds js → Tie n hs (change k f ds) js
tie_less n hs ds js k f state there un an h =
    tie_controller n hs ds js k f
    (λ x d ex ed p. record {
      sub = p.sub;
      comp = p.comp;
      half = λ o. there d ∙ p.half (ap is_absent (sym (state d)) ∙ o);
      emptied = λ o. un d (p.emptied (ap is_absent (sym (state d)) ∙ o));
      unfetched = λ o. un d (p.unfetched o);
      completions = λ o. an d (p.completions o);
      fresh = p.fresh;
    })
    (λ d ed some o. ap is_absent (state d) ∙ o) h

-- an entry is posted to a queue that is there and in service
pub tie_posted : (n : ℕ) (hs : List HostQueue) (ds : List ServedQueue) (js : List Job) (k : ℕ) (e : SubEntry) → ((x : HostQueue) → slice_get hs k ≡ Some x → gone_at ds k ≡ false) → out_at hs k ≡ false
    → Tie n hs ds js → Tie n hs (change k (λ at. record at { unfetched = at.unfetched ++ e ∷ [] }) ds) js
tie_posted n hs ds js k e there served h =
    tie_controller n hs ds js k (λ at. record at { unfetched = at.unfetched ++ e ∷ [] })
    (λ x d ex ed p. record {
      sub = p.sub;
      comp = p.comp;
      half = p.half;
      emptied = λ o. absurd (true≢false (sym o ∙ sym (gone_of ds k d ed) ∙ there x ex));
      unfetched = λ o. absurd (true≢false (ap not (sym o) ∙ sym (out_of hs k x ex) ∙ served));
      completions = p.completions;
      fresh = p.fresh;
    })
    (λ d ed some o. o) h

-- a completion is posted to a queue that is in service
pub tie_completed : (n : ℕ) (hs : List HostQueue) (ds : List ServedQueue) (js : List Job) (k : ℕ) (an : PostedCompletion) → out_at hs k ≡ false
    → Tie n hs ds js → Tie n hs (change k (λ at. record at { completions = at.completions ++ an ∷ [] }) ds) js
tie_completed n hs ds js k an served h =
    tie_controller n hs ds js k (λ at. record at { completions = at.completions ++ an ∷ [] })
    (λ x d ex ed p. record {
      sub = p.sub;
      comp = p.comp;
      half = p.half;
      emptied = p.emptied;
      unfetched = p.unfetched;
      completions = λ o. absurd (true≢false (ap not (sym o) ∙ sym (out_of hs k x ex) ∙ served));
      fresh = p.fresh;
    })
    (λ d ed some o. o) h

-- a queue stops
pub tie_stop : (n : ℕ) (hs : List HostQueue) (ds : List ServedQueue) (js : List Job) (k : ℕ) → gone_at ds k ≡ false → Tie n hs ds js → Tie n hs (change k (λ d. record d { state = Stopping }) ds) js
tie_stop n hs ds js k there h =
    tie_controller n hs ds js k (λ d. record d { state = Stopping })
    (λ x d ex ed p.
    record { sub = p.sub; comp = p.comp; half = λ o. p.half (sym (gone_of ds k d ed) ∙ there); emptied = λ o. absurd (true≢false (sym o)); unfetched = p.unfetched; completions = p.completions; fresh = p.fresh })
    (λ d ed some o. refl) h

-- a completion queue goes, its submission queue gone
pub tie_drop : (n : ℕ) (hs : List HostQueue) (ds : List ServedQueue) (js : List Job) (k : ℕ) → gone_at ds k ≡ true → Tie n hs ds js → Tie n hs (change k dropped ds) js
tie_drop n hs ds js k gone h =
    tie_controller n hs ds js k dropped
    (λ x d ex ed p.
    record { sub = p.sub; comp = p.comp; half = λ o. absurd (true≢false (sym gone ∙ gone_of ds k d ed ∙ o)); emptied = p.emptied; unfetched = p.unfetched; completions = λ o. refl; fresh = p.fresh })
    (λ d ed some o. o) h

-- one is made
pub tie_completion : (n : ℕ) (hs : List HostQueue) (ds : List ServedQueue) (js : List Job) (k : ℕ) → Tie n hs ds js → Tie n hs (change k completion_made ds) js
tie_completion n hs ds js k h =
    tie_controller n hs ds js k completion_made
    (λ x d ex ed p. record { sub = p.sub; comp = p.comp; half = λ o. refl; emptied = p.emptied; unfetched = p.unfetched; completions = λ o. refl; fresh = p.fresh }) (λ d ed some o. o) h

-- a submission queue is made, its completion queue there
pub tie_submission : (n : ℕ) (hs : List HostQueue) (ds : List ServedQueue) (js : List Job) (k : ℕ) → there_at ds k ≡ true → Tie n hs ds js → Tie n hs (change k submission_made ds) js
tie_submission n hs ds js k there h =
    tie_controller n hs ds js k submission_made
    (λ x d ex ed p. record { sub = p.sub; comp = p.comp; half = λ o. sym (there_of ds k d ed) ∙ there; emptied = λ o. refl; unfetched = λ o. refl; completions = λ o. refl; fresh = p.fresh }) (λ d ed some o. refl) h

-- a submission queue goes, with no job left
pub tie_kill : (n : ℕ) (hs : List HostQueue) (ds : List ServedQueue) (js : List Job) (k : ℕ) → total (on_queue k) js ≡ 0 → Tie n hs ds js → Tie n hs (change k cleared ds) js
tie_kill n hs ds js k none h =
    tie_controller n hs ds js k cleared
    (λ x d ex ed p. record { sub = p.sub; comp = p.comp; half = λ o. absurd (true≢false o); emptied = λ o. refl; unfetched = λ o. refl; completions = p.completions; fresh = p.fresh }) (λ d ed some o. absurd (omega (arith, none))) h
