-- No completion ring runs over.
use Rattle.machine_model.specs.After as a
use Rattle.machine_model.specs.Events as events
use Rattle.machine_model.specs.declared.words.Refusal.TheVariants as refusal
use Rattle.std.proofs.Common.{◌≡◌, ℕ, zero, suc, ◌+◌, ◌<◌, ◌≤◌, ◌==◌, Bool, true, false, not, ◌&&◌, Some, None, List, [], ◌∷◌, length, map, slice_get, is_some, is_none, if◌then◌else◌, refl, ap, sym, ◌∙◌, arith, subst, replicate, inl, inr, ◌-◌, nat_lt, nat_le, Option, ◌++◌, All, IsTrue, ltb-true, ◌≢◌}
use Rattle.std.proofs.lemmas.{Bool.{true≢false, cases_Bool, not-false, and_parts, or_parts, Decides.nat_tests}, List.length-replicate}
use Rattle.std.{proofs.lemmas.List.Elements.{All-nil, All-cons}, specs.{List.AllByRecursion, Option.option_map_or}}
use Rattle.page_ledger.specs.Owners.{is_among}
use Rattle.controller_walk.specs.{Laws.after_units, Units.{Act, Course, Closes, Does, units, verdict, course_of_list, first_passing}, Walks.answer}
use Rattle.controller_walk.specs.declared.walk.WalkState.{WalkState, TheVariants.{More, End, Fault}}
use Rattle.admin_commands.specs.{Entries.{named_queue, named_command}, Verdicts.is_absent, declared.SqState.TheVariants.Stopping}
use Rattle.entry_codec.specs.declared.status.{Status.Status, TheConstants.Status.{SUCCESS, ABORT_REQUESTED, ABORTED_SQ_DELETION}}
use Rattle.entry_codec.specs.declared.submission.SubEntry.{SubEntry}
use Rattle.io_commands.specs.{Jobs.{verdict_of, direction_of_entry, need_of_entry, io_fault, bytes_after_check}, Requests.fault_of, Values.numbers_of}
use Rattle.io_commands.specs.declared.request.RequestFault.{RequestFault}
use Rattle.page_memory.specs.Pages.{Pages, page_at, zero_page}
use Rattle.machine_model.proofs.{Counting.{times-append, held_once}, Headline.{in_limits, limits_of}, HostLeaves.{ids_of, host_leaves}}
use Rattle.machine_model.proofs.{Kept.live_serves, Moves.queue_known, Owned.{in_is, in_queue, taken, taken_le, none_here}}
use Rattle.machine_model.proofs.Steps.{part-walk, in_store, length-in_store, Accepts, part_controller, managed_by, permitted, found, pages_match}
use Rattle.machine_model.specs.{After.course_of, Agreeing.{job_weight, is_out_of_service_at as past_at, completions_at, sent_count}}
use Rattle.machine_model.specs.{Events.{Event, Reply}, Image.Made, Linked.{absent, IsLinked}, Memory.{memory_of, is_in}}
use Rattle.machine_model.specs.{Opening.{Opens, opening, served_queue as opened}, Proper.IsProper}
use Rattle.machine_model.specs.Refusals.{is_submitted, refusal_of, is_job, causes, is_live, is_drafted, is_of, has_cq, is_io_queue, record_is, in_state, queue_full, no_identifier, host_queue, served_queue, next_rung, job_at, conflicts, completions_full, fetch_page, post_page}
use Rattle.machine_model.specs.{Standing.{HasUnitLeft, unfetched_at}, State.{State, Record, Job, PostedCompletion, HostQueue, ServedQueue, is_at, outstanding_on}}
use Rattle.machine_model.specs.{Step.{HostPart, IsController, Permits, Refuses}, Touch.pages_of_queue, Weights.{one, total, here, sent}}
use Rattle.machine_model.specs.declared.words.Refusal.{Refusal}
use Rattle.two_sides.proofs.{Along.{Keeps, each_proper_step, run_along}, Commands.{Walking, walking, chains_walk, commands_event}}
use Rattle.two_sides.proofs.ControllerMoves.{unit_done, fetch_by, walk_by, complete_by, linked_from_tied}
use Rattle.two_sides.proofs.Heads.{sent_outstanding, few_outstanding, length_outstanding, total_ones, HeadsS, drafted_room, heads_event, heads_at_opening, no_conflict}
use Rattle.two_sides.proofs.PlacesKept.{places_event, drafted_not, in_hand}
use Rattle.two_sides.proofs.Provided.{In, in_at, all_indexed, all_in_both, all_map, all_append, only_found, in_found}
use Rattle.two_sides.proofs.{Served.{Stood, job_list, same_list, course_over, counts_sent, chain_of, data_of, page_there, page_below}, Tied.tied_from_fit}
use Rattle.two_sides.proofs.TiedAll.{grounds_on, grounds_at_opening, Grounds}
use Rattle.two_sides.proofs.Untouched.{is_walk, fetch_stays_in, post_stays_in, rung_there, untouched, live_queue, owned_once}
use Rattle.two_sides.specs.MachineLaws.{is_full, rings_are_never_full}
use Rattle.queue_pair.specs.Slots.{is_full as ring_is_full, distance}
use Rattle.slot_table.proofs.Rows.{option_is}
use Rattle.page_memory.proofs.Lists.{all-at, found_is, all-to, all-filter, some_is}
pub use Rattle.two_sides.proofs.PoolBytes.{host_jobs}

-- Every event keeps walks within their lists, and all that stands while nothing is forged.

-- a job with a unit left, over a memory
abbrev UnitLeft : Pages → Job → Type 0
UnitLeft m j = (j.q == 0) ≡ false → j.verdict ≡ None → j.units_done < length (units (course_of_list (memory_of m) j.entry.sgl1 (direction_of_entry j.entry) (need_of_entry j.entry)))

-- Jobs keep their lists

pub record ListsStay (s : State) (m : Pages) : Type 0 where
  pub chains : (r : Record) → In r s.host.records → is_submitted r.phase ≡ true → (p : ℕ) → is_among r.chain_pages p ≡ true → page_at m p ≡ page_at s.memory p
  pub own : (r : Record) → In r s.host.records → is_submitted r.phase ≡ true → (p : ℕ) → is_among r.data_pages p ≡ true → is_some (page_at m p) ≡ true

-- a job's course in a state that comes after
pub course_stays : (s t : State) → Stood s → ListsStay s t.memory → (k : ℕ) (j : Job) → slice_get s.controller.jobs k ≡ Some j → (j.q == 0) ≡ false → course_of t j ≡ course_of s j
course_stays s t stood stay k j e other =
    let l = job_list s stood j (in_at s.controller.jobs k j e) other (λ P all. all-at P s.controller.jobs k j e all) in
    same_list s t stood j l (stay.chains l.command l.within l.phase) (stay.own l.command l.within l.phase)

walks_still : (s t : State) → Stood s → ListsStay s t.memory → AllByRecursion (UnitLeft t.memory) s.controller.jobs
walks_still s t stood stay =
    all_indexed (HasUnitLeft s) (UnitLeft t.memory) s.controller.jobs
    (λ k j e left other none. subst (λ (c : Course). j.units_done < length (units c)) (sym (course_stays s t stood stay k j e other)) (left other none)) stood.walks

pub stay_untouched : (s : State) (e : Event) (reply : Reply) → Accepts s e reply → is_walk e ≡ false → Stood s → ListsStay s (a.after s e reply).memory
stay_untouched s e reply ok w stood = record {
  chains = λ r within sub p chain. untouched s e reply ok w stood.grounds p (counts_sent s r within sub p (chain_of r p chain));
  own = λ r within sub p own. ap is_some (untouched s e reply ok w stood.grounds p (counts_sent s r within sub p (data_of r p own))) ∙ page_there s stood.grounds r within sub p (data_of r p own);
}

-- what is in stays in
still_in : (m m' : Pages) (p : ℕ) → in_store m' ≡ in_store m → p < length m → is_some (page_at m p) ≡ true → is_some (page_at m' p) ≡ true
still_in m m' p same l h =
    some_is (sym (in_is m' p (omega (arith, l, sym (length-in_store m') ∙ ap length same ∙ length-in_store m))) ∙ ap (λ (bits : List Bool). slice_get bits p) same ∙ in_is m p l) ∙ h

pub stay_walk : (s : State) (q cid : ℕ) → refusal_of s (events.Walk q cid) ≡ None → Stood s → ListsStay s (a.after_walk q cid s).memory
stay_walk s q cid none stood = record {
  chains = λ r within sub p chain. chains_walk s q cid none stood r within p chain;
  own = λ r within sub p own. still_in s.memory (a.after_walk q cid s).memory p (ap (λ (part : HostPart). part.in_store) (part-walk q cid s)) (page_below s stood.grounds r within p (data_of r p own))
      (page_there s stood.grounds r within sub p (data_of r p own));
}

-- Fetching

abbrev Units : Pages → State → Type 0
Units m s = AllByRecursion (UnitLeft m) s.controller.jobs

pub some_none : {st : Status} → Some st ≡ None → ⊥
some_none e = cc

units_decided : (m : Pages) (e : SubEntry) (st : Status) (dw0 : ℕ) (s : State) → Units m s → Units m (a.decided e st dw0 s)
units_decided m e st dw0 s h = all_append (UnitLeft m) s.controller.jobs (a.new_job 0 e (Some st) dw0 [] ∷ []) h ((λ other none. absurd (some_none none)), tt)

units_stopped : (m : Pages) (f : Job → Job) (test : Job → Bool) (s : State) → ((j : Job) → is_some (f j).verdict ≡ true) → Units m s → AllByRecursion (UnitLeft m) (map (λ j. if test j then f j else j) s.controller.jobs)
units_stopped m f test s stopped h = all_map (UnitLeft m) (UnitLeft m) (λ j. if test j then f j else j) s.controller.jobs (λ j left. each j (test j) left) h
  where
    each : (j : Job) (b : Bool) → UnitLeft m j → UnitLeft m (if b then f j else j)
    each j true left = λ other none. absurd (true≢false (sym (stopped j) ∙ ap is_some none))
    each j false left = left

units_managed : (m : Pages) (e : SubEntry) (s : State) → Units m s → Units m (a.managed e s)
units_managed m e s h =
    managed_by (λ (t : State). Units m t) e s
    (record {
      refuses = λ st bad. units_decided m e st 0 s h;
      aborts = λ is8 walks. units_decided m e SUCCESS 0 (a.on_job (named_queue e) (named_command e) (λ j. record j { verdict = Some ABORT_REQUESTED; waiting_abort = Some e.cid }) s)
          (units_stopped m (λ j. record j { verdict = Some ABORT_REQUESTED; waiting_abort = Some e.cid }) (λ j. (j.q == named_queue e) && (j.entry.cid == named_command e)) s (λ j. refl) h);
      is_late = λ is8. units_decided m e SUCCESS 1 s h;
      stops = λ is0 q0 runs. units_decided m e SUCCESS 0 (a.on_controller (λ d. record d { jobs = map (a.stopped (named_queue e)) d.jobs }) (a.on_served_queue (named_queue e) (λ at. record at { state = Stopping }) s))
          (units_stopped m (λ j. record j { verdict = Some ABORTED_SQ_DELETION }) (λ j. (j.q == named_queue e) && is_none j.verdict) s (λ j. refl) h);
      drops = λ is4 q0 there gone. units_decided m e SUCCESS 0 (a.on_served_queue (named_queue e) a.dropped s) h;
      makes_completion = λ is5 q0 none. units_decided m e SUCCESS 0 (a.on_served_queue (named_queue e) a.completion_made s) h;
      makes_submission = λ is1 q0 gone there. units_decided m e SUCCESS 0 (a.on_served_queue (named_queue e) a.submission_made s) h;
    })

units_fetch : (m : Pages) (q : ℕ) (s : State) → Units m s → Units m (a.after_fetch q s)
units_fetch m q s h =
    fetch_by (λ (t : State). Units m t) s q h (λ e n c. h) (λ e n c z. units_managed m e (a.taken_off 0 s) h)
    (λ e n c other. let t = a.taken_off q s in
    all_append (UnitLeft m) s.controller.jobs (a.new_job q e (io_fault (a.image_blocks t) e) 0 (bytes_after_check t.controller.image e (io_fault (a.image_blocks t) e)) ∷ []) h ((λ other none. omega arith), tt))

-- Completing

units_complete : (m : Pages) (q cid : ℕ) (s : State) → Units m s → Units m (a.after_complete q cid s)
units_complete m q cid s h =
    complete_by (λ (t : State). Units m t) s q cid h (λ j at c. all-filter (UnitLeft m) (λ x. not (is_job q cid x)) s.controller.jobs h) (λ j at c. all-filter (UnitLeft m) (λ x. not (is_job q cid x)) s.controller.jobs h)

-- Walking

-- a step that has no verdict leaves a unit to do
is_more : (v : WalkState) → verdict_of v ≡ None → v ≡ More
is_more More h = refl
is_more End h = absurd (some_none h)
is_more (Fault status) h = absurd (some_none h)

more_left : (c : Course) (k : ℕ) → verdict c ≢ More → verdict_of (answer (after_units k c)) ≡ None → k < length (units c)
more_left (Closes v) zero over h = absurd (over (is_more v h))
more_left (Closes v) (suc k) over h = absurd (over (is_more v h))
more_left (Does x rest) zero e h = omega arith
more_left (Does x rest) (suc k) e h = omega (arith, more_left rest k e h)

-- one job at most has an identifier
pub one_job : (s : State) → Stood s → (q cid : ℕ) → total (λ j. one (is_job q cid j)) s.controller.jobs < 2
one_job s stood q cid =
    let same : (js : List Job) → total (λ j. one (is_job q cid j)) js ≤ total (job_weight q (λ c. one (c == cid))) js = λ js. grind arith in
    omega (arith, same s.controller.jobs, stood.places q (λ c. one (c == cid)), few s.host.records, stood.grounds.stands.0.once q cid)
  where
    few : (rs : List Record) → total (sent q (λ c. one (c == cid))) rs ≤ total (here q cid) rs
    few [] = omega arith
    few (r ∷ rs) = omega (arith, few rs, each (r.q == q) (is_submitted r.phase) (r.cid == cid))
      where
        each : (x y z : Bool) → (if x && y then one z else 0) ≤ one (x && z)
        each x y z = grind arith

-- a job before its unit, and after it
abbrev Either : Pages → ℕ → ℕ → (Job → Job) → Job → Type 0
Either m q cid f k = UnitLeft m k × (is_job q cid k ≡ true → UnitLeft m (f k))

units_walk : (q cid : ℕ) (s : State) → refusal_of s (events.Walk q cid) ≡ None → Stood s → Units (a.after_walk q cid s).memory s → Units (a.after_walk q cid s).memory (a.after_walk q cid s)
units_walk q cid s none stood h =
    let before : (j : Job) (act : Act) → Walking s q cid j → AllByRecursion (Either (a.after_walk q cid s).memory q cid (unit_done s j act)) s.controller.jobs = λ j act w.
    all_in_both (λ k. is_job q cid k ≡ true → k ≡ j) (UnitLeft (a.after_walk q cid s).memory) (Either (a.after_walk q cid s).memory q cid (unit_done s j act)) s.controller.jobs
    (λ k within left same. (left, λ t. subst (λ (x : Job). UnitLeft (a.after_walk q cid s).memory (unit_done s j act x)) (sym (same t)) (stepped j w)))
    h (only_found (is_job q cid) s.controller.jobs j w.found (one_job s stood q cid)) in
    walk_by (λ (t : State). Units (a.after_walk q cid s).memory t) s q cid h
    (λ j act at u. all_map (Either (a.after_walk q cid s).memory q cid (unit_done s j act)) (UnitLeft (a.after_walk q cid s).memory) (λ k. if (k.q == q) && (k.entry.cid == cid) then unit_done s j act k else k) s.controller.jobs
    (λ k left. each (unit_done s j act) k ((k.q == q) && (k.entry.cid == cid)) refl left) (before j act (walking s q cid j none stood at)))
  where
    stays : (j : Job) → Walking s q cid j → course_of (a.after_walk q cid s) j ≡ course_of s j
    stays j w = same_list s (a.after_walk q cid s) stood j w.list
        (λ p chain. chains_walk s q cid none stood w.list.command w.list.within p chain)
        (λ p own. still_in s.memory (a.after_walk q cid s).memory p (ap (λ (part : HostPart). part.in_store) (part-walk q cid s)) (page_below s stood.grounds w.list.command w.list.within p (data_of w.list.command p own))
        (page_there s stood.grounds w.list.command w.list.within w.list.phase p (data_of w.list.command p own)))

    stepped : (j : Job) → Walking s q cid j → UnitLeft (a.after_walk q cid s).memory (record j { units_done = j.units_done + 1; verdict = verdict_of (a.next_answer s j) })
    stepped j w other more =
        subst (λ (c : Course). j.units_done + 1 < length (units c)) (sym (stays j w)) (more_left (course_of s j) (j.units_done + 1) (course_over s stood j w.list).0 more)

    each : (f : Job → Job) (k : Job) (b : Bool) → is_job q cid k ≡ b → Either (a.after_walk q cid s).memory q cid f k → UnitLeft (a.after_walk q cid s).memory (if b then f k else k)
    each f k true t left = left.1 t
    each f k false t left = left.0

-- Every event

pub walks_event : (s : State) (e : Event) (reply : Reply) → Accepts s e reply → Stood s → AllByRecursion (HasUnitLeft (a.after s e reply)) (a.after s e reply).controller.jobs
walks_event s (events.Fetch q) (events.Fetched c touched) ok h =
    units_fetch (a.after_fetch q s).memory q s (walks_still s (a.after_fetch q s) h (stay_untouched s (events.Fetch q) (events.Fetched c touched) ok refl h))
walks_event s (events.Walk q cid) (events.Walked o touched) ok h = units_walk q cid s ok.0 h (walks_still s (a.after_walk q cid s) h (stay_walk s q cid ok.0 h))
walks_event s (events.Complete q cid) (events.Completed touched) ok h =
    units_complete (a.after_complete q cid s).memory q cid s (walks_still s (a.after_complete q cid s) h (stay_untouched s (events.Complete q cid) (events.Completed touched) ok refl h))
walks_event s e (events.Refused why touched) ok h = h.walks
walks_event s (events.Fetch q) reply ok h = absurd ok.1
walks_event s (events.Walk q cid) reply ok h = absurd ok.1
walks_event s (events.Complete q cid) reply ok h = absurd ok.1
walks_event s events.Reset reply ok h = tt
walks_event s e reply ok h =
    subst (AllByRecursion (HasUnitLeft (a.after s e reply))) (sym (host_jobs s e reply ok refl refl)) (walks_still s (a.after s e reply) h (stay_untouched s e reply ok refl h))

-- The pool keeps its size

bits_event : (s : State) (e : Event) (reply : Reply) → Accepts s e reply → length (a.after s e reply).memory ≡ length s.memory
bits_event s e reply ok = elim (cases_Bool (IsController e)) [
  | inl c ↦ sym (length-in_store (a.after s e reply).memory) ∙ ap (λ (part : HostPart). length part.in_store) (part_controller s e reply c) ∙ length-in_store s.memory
  | inr c ↦ (host_leaves s e reply ok c).size
]

-- All that stands, at every step

pub stood_on : (s : State) (e : Event) (reply : Reply) → IsProper e → Accepts s e reply → s.trusted ≡ true → Stood s → Stood (a.after s e reply)
stood_on s e reply pr ok t h = record {
  grounds = grounds_on s e reply ok t h.grounds;
  few = omega (arith, h.few, bits_event s e reply ok);
  commands = commands_event s e reply pr ok t h;
  places = places_event s e reply pr ok t h.grounds h.places;
  walks = walks_event s e reply ok h;
}

few_opened : (pages queues n s : ℕ) → Opens pages queues n s → pages ≤ 65536
few_opened pages queues n s opens = (limits_of pages queues n s (in_limits pages queues n s opens)).pages_most

nothing_unfetched : (w : ℕ → ℕ) (k q : ℕ) → total (λ (e : SubEntry). w e.cid) (unfetched_at (replicate k opened) q) ≡ 0
nothing_unfetched w (suc k) (suc q) = nothing_unfetched w k q
nothing_unfetched w x q = refl

nothing_completed : (w : ℕ → ℕ) (k q : ℕ) → total (λ (an : PostedCompletion). w an.cid) (completions_at (replicate k opened) q) ≡ 0
nothing_completed w (suc k) (suc q) = nothing_completed w k q
nothing_completed w x q = refl

pub stood_at_opening : (pages queues n s : ℕ) (image : List ℕ) → Opens pages queues n s → Stood (opening pages queues n s image)
stood_at_opening pages queues n s image opens = record {
  grounds = grounds_at_opening pages queues n s image opens;
  few = omega (arith, length-replicate pages (Some zero_page), few_opened pages queues n s opens);
  commands = tt;
  places = λ q w. omega (arith, counted (past_at (opening pages queues n s image).host.queues q) q w, nothing_completed w (queues + 1) q);
  walks = tt;
}
  where
    counted : (b : Bool) (q : ℕ) (w : ℕ → ℕ) → (if b then 0 else total (λ (e : SubEntry). w e.cid) (unfetched_at (replicate (queues + 1) opened) q)) ≡ 0
    counted true q w = refl
    counted false q w = nothing_unfetched w (queues + 1) q

-- Where nothing was forged no ring is full and no slot's page is out.

pub record Roomy (s : State) : Type 0 where
  pub stood : Stood s
  pub heads : HeadsS s

-- A page of a queue is in

queue_page_in : (s : State) → Grounds s → (q p : ℕ) → is_among (pages_of_queue s q) p ≡ true → is_in s.memory p ≡ true
queue_page_in s g q p h = by_queue (host_queue s q) refl h
  where
    below : (queue : HostQueue) → host_queue s q ≡ Some queue → 0 < in_queue p queue → p < length s.memory
    below queue e some = at (nat_lt p (length (in_store s.memory))) refl
      where
        at : (b : Bool) → nat_lt p (length (in_store s.memory)) ≡ b → p < length s.memory
        at true l = omega (arith, ltb-true p (length (in_store s.memory)) l, length-in_store s.memory)
        at false l = absurd (omega (arith, ap one l, g.stands.0.owner p, in_at s.host.queues q queue e (in_queue p), some))

    by_queue : (o : Option HostQueue) → host_queue s q ≡ o → is_among (option_map_or (λ queue. queue.sq_pages ++ queue.cq_pages) o []) p ≡ true → is_in s.memory p ≡ true
    by_queue None e h = absurd (true≢false (sym h))
    by_queue (Some queue) e h =
        let some : 0 < in_queue p queue = omega (arith, held_once p (queue.sq_pages ++ queue.cq_pages) h, times-append p queue.sq_pages queue.cq_pages) in
        let l = below queue e some in
        let nobody : total (taken p) s.host.records ≡ 0 = omega (arith, owned_once _ p s.host g.stands.0, in_at s.host.queues q queue e (in_queue p), some, taken_le p s.host.records) in
        some_is (sym (in_is s.memory p l) ∙ g.taken p (omega (arith, l, length-in_store s.memory)) ∙ ap Some (none_here (total (taken p) s.host.records) nobody))

-- No ring is full

few_sent : (s : State) → Roomy s → (q : ℕ) → sent_count q s.host.records ≤ s.entries - 1
few_sent s r q = omega (arith, sent_outstanding q s.host.records, few_outstanding q (s.entries - 1) s.host.records r.heads.ids r.stood.grounds.stands.0.once)

not_full : (s : State) → Roomy s → (q : ℕ) → ((queue : HostQueue) → host_queue s q ≡ Some queue → is_live queue.state ≡ true) → is_some (host_queue s q) ≡ true → sent_count q s.host.records < s.entries - 1 → queue_full s q ≡ false
not_full s r q live there room = by_queue (host_queue s q) refl there
  where
    far : (d n : ℕ) → d < n → (d == n) ≡ false
    far d n l = grind (arith, nat_tests)

    by_queue : (o : Option HostQueue) → host_queue s q ≡ o → is_some o ≡ true → option_map_or (λ queue. ring_is_full s.entries queue.ring.known_head queue.ring.tail) o true ≡ false
    by_queue None e h = absurd (true≢false (sym h))
    by_queue (Some queue) e h =
        far (distance s.entries queue.ring.known_head queue.ring.tail) (s.entries - 1) (omega (arith, room, (r.heads.behind q queue e (live_serves queue.state (live queue e))).known))

zero_there : {A : Type 0} (xs : List A) (q : ℕ) → is_none (slice_get xs q) ≡ false → is_some (slice_get xs 0) ≡ true
zero_there [] q h = absurd (true≢false h)
zero_there (x ∷ xs) q h = refl

-- queue 0 has room for one more identifier
zero_room : (s : State) → Roomy s → (q : ℕ) → is_none (host_queue s q) ≡ false → no_identifier s 0 ≡ false → queue_full s 0 ≡ false
zero_room s r q there room =
    let below : (a b : ℕ) → nat_le a b ≡ false → b < a = λ a b e. grind (arith, nat_tests) in
    not_full s r 0 (λ queue e. sym (ap (λ (o : Option HostQueue). option_map_or (λ h. is_live h.state) o true) e) ∙ r.stood.grounds.zero_live) (zero_there s.host.queues q there)
    (omega (arith, sent_outstanding 0 s.host.records, length_outstanding 0 s.host.records, below (s.entries - 1) (length (outstanding_on s.host 0)) room))

named_there : (s : State) (q : ℕ) → not (is_io_queue s q) ≡ false → is_none (host_queue s q) ≡ false
named_there s q h = let h1 = (and_parts (not (q == 0)) (is_some (host_queue s q)) (not-false _ h)).1 in grind arith

linked : (s : State) → Roomy s → IsLinked s
linked s r = linked_from_tied s r.stood.grounds.rings (tied_from_fit s r.stood.grounds.fit)

no_conflicts : (s : State) → Roomy s → (q : ℕ) → conflicts s q ≡ false
no_conflicts s r q = elim (option_is (next_rung s q)) [ inl n ↦ rw n refl | inr (e, n) ↦ rw n (no_conflict s r.stood q e (in_hand s q e n)) ]

-- where a job is, its queue has room for its completion
room_for_completion : (s : State) → Roomy s → (q cid : ℕ) → is_none (job_at s q cid) ≡ false → completions_full s q ≡ false
room_for_completion s r q cid job = by_queue (served_queue s q) refl
  where
    some_job : (o : Option Job) → job_at s q cid ≡ o → is_none o ≡ false → 1 ≤ total (job_weight q (λ c. 1)) s.controller.jobs
    some_job None e h = absurd (true≢false h)
    some_job (Some j) e h =
        omega (arith, ap one (and_parts (j.q == q) (j.entry.cid == cid) (found_is (is_job q cid) s.controller.jobs j e)).0, in_found (is_job q cid) s.controller.jobs j e (job_weight q (λ c. 1)))

    there : absent s q ≡ false
    there = (linked s r).jobs_have_queues q cid (not_none (job_at s q cid) job)
      where
        not_none : (o : Option Job) → is_none o ≡ false → is_some o ≡ true
        not_none o h = grind arith

    far : (d n : ℕ) → d < n → (d == n) ≡ false
    far d n l = grind (arith, nat_tests)

    by_queue : (o : Option ServedQueue) → served_queue s q ≡ o → option_map_or (λ at. length at.completions == s.entries - 1) o true ≡ false
    by_queue None e = absurd (true≢false (sym (ap (λ (o : Option ServedQueue). option_map_or (λ at. is_absent at.state) o true) e) ∙ there))
    by_queue (Some at) e =
        let answers : total (λ (an : PostedCompletion). 1) (completions_at s.controller.queues q) ≡ length at.completions = ap (λ (o : Option ServedQueue). total (λ (an : PostedCompletion). 1) (option_map_or (λ at. at.completions) o [])) e ∙ total_ones at.completions in
        far (length at.completions) (s.entries - 1) (omega (arith, answers, some_job (job_at s q cid) refl job, r.stood.places q (λ c. 1), few_sent s r q))

-- The causes of each event

abbrev full : Refusal → Bool
full why = is_full (events.Refused why [])

abbrev Rows : List (Bool × Refusal) → Type 0
Rows [] = Unit {0}
Rows (row ∷ rows) = (row.0 ≡ true → full row.1 ≡ false) × (row.0 ≡ false → Rows rows)

rows_say : (rows : List (Bool × Refusal)) → Rows rows → (why : Refusal) → first_passing rows ≡ Some why → full why ≡ false
rows_say [] h why e = absurd cc
rows_say (row ∷ rows) h why e = elim (cases_Bool row.0) [
  | inl t ↦ let e = rw t at e in let same : row.1 ≡ why = cc in ap full (sym same) ∙ h.0 t
  | inr t ↦ rows_say rows (h.1 t) why (rw t at e)
]

bad_row : (o : Option RequestFault) → full (option_map_or refusal.Bad o refusal.NoQueue) ≡ false
bad_row o = grind arith

in_after : (b : Bool) → b ≡ true → not b ≡ true → ⊥
in_after b e f = grind arith

no_cause : (s : State) → Roomy s → (e : Event) → Rows (causes s e)
no_cause s r (events.Reserve q request) =
    ((λ t. refl), λ f. ((λ t. refl), λ f. ((λ t. bad_row (fault_of request.kind request.block_size request.blocks request.pieces)), λ f. ((λ t. refl), λ f. ((λ t. refl), λ f. ((λ t. refl), λ f. tt))))))
no_cause s r (events.Submit d) =
    ((λ t. refl), λ own. ((λ t. refl), λ built. ((λ t. refl), λ live. ((λ t. absurd (true≢false (sym t ∙ room (not-false _ own) (not-false _ live)))), λ f. tt))))
  where
    some_there : in_state is_live s d.q ≡ true → is_some (host_queue s d.q) ≡ true
    some_there live = grind arith

    room : record_is (is_of is_drafted d.request (numbers_of d.data_pages) (numbers_of d.chain_pages)) s d.q d.cid ≡ true → in_state is_live s d.q ≡ true → queue_full s d.q ≡ false
    room own live =
        let x = found (is_of is_drafted d.request (numbers_of d.data_pages) (numbers_of d.chain_pages)) s d.q d.cid own in
        not_full s r d.q (live_queue s d.q live) (some_there live)
        (drafted_room s d.q x.0 (ids_of s d.q d.cid x.0 x.1).0 (in_found (is_at d.q d.cid) s.host.records x.0 x.1) (drafted_not x.0.phase (pages_match is_drafted d.request d.data_pages d.chain_pages x.0 x.2).1) r.stood.grounds r.heads)
no_cause s r (events.Cancel d) = ((λ t. refl), λ f. tt)
no_cause s r (events.Ring q) = ((λ t. refl), λ f. tt)
no_cause s r (events.Reap q) = ((λ t. refl), λ f. tt)
no_cause s r (events.Collect q cid) = ((λ t. refl), λ f. ((λ t. refl), λ f. tt))
no_cause s r (events.Release f) = ((λ t. refl), λ f. tt)
no_cause s r (events.Abort q cid) =
    ((λ t. refl), λ there. ((λ t. refl), λ f. ((λ t. refl), λ f. ((λ t. refl), λ room. ((λ t. absurd (true≢false (sym t ∙ zero_room s r q (grind arith) room))), λ f. tt)))))
no_cause s r (events.DeleteSq q) = ((λ t. refl), λ there. ((λ t. refl), λ f. ((λ t. refl), λ room. ((λ t. absurd (true≢false (sym t ∙ zero_room s r q (grind arith) room))), λ f. tt))))
no_cause s r (events.DeleteCq q) = (
  (λ t. refl),
  λ there. (
    (λ t. refl),
    λ f. (
      (λ t. refl),
      λ room. (
        (λ t. absurd (true≢false (sym t ∙ zero_room s r q
            (queue_known has_cq s q (or_parts (q == 0) (not (in_state has_cq s q)) there).1) room))),
        λ f. tt,
      ),
    ),
  ),
)
no_cause s r (events.CreateCq q vector) = (
  (λ t. refl),
  λ there. (
    (λ t. refl),
    λ f. ((λ t. refl), λ f. ((λ t. refl), λ room. ((λ t. refl), λ f. ((λ t. absurd (true≢false (sym t ∙ zero_room s r q (named_there s q there) room))), λ f. tt)))),
  ),
)
no_cause s r (events.CreateSq q) =
    ((λ t. refl), λ there. ((λ t. refl), λ f. ((λ t. refl), λ room. ((λ t. refl), λ f. ((λ t. absurd (true≢false (sym t ∙ zero_room s r q (named_there s q there) room))), λ f. tt)))))
no_cause s r (events.Retire q) = ((λ t. refl), λ f. ((λ t. refl), λ f. tt))
no_cause s r (events.Forge q slot bytes) = ((λ t. refl), λ f. ((λ t. refl), λ f. tt))
no_cause s r events.Reset = tt
no_cause s r (events.Fetch q) = (
  (λ t. refl),
  λ rung. (
    (λ t. absurd (in_after (is_in s.memory (fetch_page s q)) (queue_page_in s r.stood.grounds q (fetch_page s q) (fetch_stays_in s q (linked s r) (rung_there s q rung)).1) t)),
    λ f. (
      (λ t. absurd (true≢false (sym (and_parts (conflicts s q) (completions_full s q) t).0 ∙ no_conflicts s r q))),
      λ f. ((λ t. absurd (true≢false (sym (and_parts (conflicts s q) (not (is_in s.memory (post_page s q))) t).0 ∙ no_conflicts s r q))), λ f. tt),
    ),
  ),
)
no_cause s r (events.Walk q cid) = ((λ t. refl), λ f. ((λ t. refl), λ f. tt))
no_cause s r (events.Complete q cid) = (
  (λ t. refl),
  λ job. (
    (λ t. refl),
    λ f. (
      (λ t. refl),
      λ f. (
        (λ t. absurd (true≢false (sym t ∙ room_for_completion s r q cid job))),
        λ f. (
          (λ t. absurd (in_after (is_in s.memory (post_page s q)) (queue_page_in s r.stood.grounds q (post_page s q)
              (post_stays_in s q (linked s r) ((linked s r).jobs_have_queues q cid (grind arith))).1) t)),
          λ f. tt,
        ),
      ),
    ),
  ),
)

-- Replies

same_full : (why : Refusal) (touched : List ℕ) → is_full (events.Refused why touched) ≡ full why
same_full why touched = grind arith

refused_not_full : (s : State) → Roomy s → (e : Event) (why : Refusal) (touched : List ℕ) → Refuses s e why touched → full why ≡ false
refused_not_full s r e refusal.Memory touched h = refl
refused_not_full s r e why touched h = rows_say (causes s e) (no_cause s r e) why h.0

pub reply_not_full : (s : State) → Roomy s → s.trusted ≡ true → (e : Event) (reply : Reply) → Permits s e reply → is_full reply ≡ false
reply_not_full s r t e (events.Refused why touched) h = same_full why touched ∙ refused_not_full s r e why touched (permitted _ s.trusted (not (IsController e)) t h)
reply_not_full s r t e reply h = refl

pub roomy_on : (s : State) (e : Event) (reply : Reply) → IsProper e → Accepts s e reply → s.trusted ≡ true → Roomy s → Roomy (a.after s e reply)
roomy_on s e reply pr ok t r = record { stood = stood_on s e reply pr ok t r.stood; heads = heads_event s e reply pr ok t r.stood r.heads }

record SoRoomy (done : List Made) (s : State) : Type 0 where
  pub replies : AllByRecursion (λ m. IsTrue (not (is_full m.reply))) done
  pub roomy : Roomy s

keeps_room : Keeps SoRoomy
keeps_room done m new step t u h = record {
  replies = all_append (λ m. IsTrue (not (is_full m.reply))) done (m ∷ []) h.replies (ap not (reply_not_full m.before h.roomy t m.event m.reply step.1), tt);
  roomy = each_proper_step Roomy roomy_on m.before m.event m.reply new step t u h.roomy;
}

pub runs_have_room : rings_are_never_full
runs_have_room image made end run =
    all-to (λ m. IsTrue (not (is_full m.reply))) made
    (run_along SoRoomy keeps_room image (λ pages queues n s opens. record {
      replies = tt;
      roomy = record { stood = stood_at_opening pages queues n s image opens; heads = heads_at_opening pages queues n s image opens };
    }) made end run).replies
