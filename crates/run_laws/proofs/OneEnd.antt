-- A command ends once at most.
use Rattle.machine_model.specs.After as a
use Rattle.machine_model.specs.Events as events
use Rattle.std.proofs.Common.{◌≡◌, inl, inr, ℕ, zero, suc, ◌-◌, ◌<◌, ◌≤◌, false, Some, List, [], ◌∷◌, ◌++◌, length, drop, slice_get, replicate, refl, ap, sym, arith, subst, ◌+◌, ◌==◌, Bool, true, not, ◌&&◌, Option, None, is_some, is_none, option_and_then, if◌then◌else◌, ◌∙◌, eq-eqb, ◌||◌, eqb-true, map}
use Rattle.std.proofs.lemmas.{Bool.{eqb-false, true≢false, and_parts, cases_Bool, Decides.nat_tests}, List.append_assoc}
use Rattle.std.specs.{List.{AllByRecursion, list_any}, Option.{option_map_or, option_map}}
use Rattle.queue_pair.{proofs.Rings.{distance_below, distance_grows, distance_is}, specs.Rings.{HostRing, next_tail, next_head, knowing, fresh_host_ring}}
use Rattle.queue_pair.specs.Slots.{next_slot, distance, is_full, moved, is_in_range}
use Rattle.machine_model.proofs.{Counting.{one, total, get_other}, HostLeaves.ids_of}
use Rattle.machine_model.proofs.Moves.{host_moves, queue_known, sends, half_from, creates_cq, creates_sq, IsHeard, completion_heard}
use Rattle.machine_model.proofs.{Owned.{all_reset, lost_quiet}, Sound.{reaped_submitted, named}}
use Rattle.machine_model.proofs.Steps.{Accepts, part_controller, permitted, managed_by, unrefused, first_fails, found}
use Rattle.machine_model.{proofs.TokensKept.{no_completions_at, no_unfetched}, specs.{After.change, Claims.OwnsFit, Events.{Event, Reply}, Image.Made}}
use Rattle.machine_model.specs.{Opening.{served_queue as opened, Opens, opening}, Positions.IsInRing, Proper.IsProper}
use Rattle.machine_model.specs.Refusals.{is_submitted, host_queue, served_queue, next_rung, job_at, front_completion, entry_of, queue_full, fetch_slot, in_service, is_reaped, is_held, record_is, seen_entry}
use Rattle.machine_model.specs.State.{HostQueue, ServedQueue, PostedCompletion, State, Record, is_at, record_at, pages_of, with_record}
use Rattle.machine_model.specs.Step.{HostPart, reaped, reaped_as, reaped_entry, submitted_at, fits_ring, IsController, Answers, Step, finished_from}
use Rattle.machine_model.specs.{Trusted.{TrustedRun, Steps}, Work.Work, declared.words.{HostState.TheVariants.{Live, Deleting}, Phase.Phase}}
use Rattle.machine_model.specs.declared.words.{Peer.TheVariants.{Modelled}, Phase.TheVariants.{Drafted, Submitted, Held, Collected}, Reaped.TheVariants.{Empty, Done, AdminDone, Rejected}}
use Rattle.machine_model.specs.declared.words.{Refusal.Refusal, RejectedFor.TheVariants.{WrongQueue, BadHead, UnknownId}, Work.TheVariants.{Io, Management}}
use Rattle.two_sides.proofs.Along.{along_proper, trusted_end, made_of, Carried, Unforged, unforged_next, unforged_front, unforged_back, unforged_run, Before, keeps, cut, each_proper_step, trusted_step_by, before_step}
use Rattle.two_sides.proofs.{ControllerMoves.{posts_completion, posted_completion, finished, cleared, fetch_by, complete_by}, Heads.{changed_at, head_at, no_conflict}}
use Rattle.two_sides.proofs.{JobLaws.not_zero as positive, NeverFull.{stood_on, stood_at_opening}, PlacesKept.in_hand}
use Rattle.two_sides.proofs.{Provided.{sent_found, all_of}, Served.{Stood, completions_at}, Standing.seen_trusted}
use Rattle.two_sides.proofs.TiedAll.{Grounds, admins_of, ring_in, pair_at}
use Rattle.admin_commands.specs.{Entries.{admin_entry, named_queue}, declared.{AdminKind.TheVariants.{Abort, DeleteSq, DeleteCq}, SqState.TheVariants.Stopping}}
use Rattle.entry_codec.specs.{Status.is_success, declared.{completion.ComEntry.ComEntry, hints.Hints.Hints, status.{Status.Status, TheConstants.Status.ABORTED_SQ_DELETION}}}
use Rattle.entry_codec.specs.declared.submission.SubEntry.{SubEntry}
use Rattle.io_commands.specs.{Drafts.DraftContents, Values.FinishedContents}
use Rattle.page_memory.specs.declared.page.Half.TheVariants.{Submission, Completion}
use Rattle.run_laws.proofs.Moves.{queues_walk, RecordsMove, records_event}
use Rattle.run_laws.specs.Ends.{completions_of, front, reaps_answer_the_front, nothing_conflicts, submits_by, submits, ends_by, ends_are_told_once, commands_are_collected_once, submitted_commands_end_once}
use Rattle.slot_table.proofs.Rows.{option_is}
use Rattle.page_memory.proofs.Lists.{found_is, all-found, some_is}

-- The heads that the completions of a queue tell never go back: each is as near to the tail as the one before it, the first as the head that the host knows, and
-- what is not fetched is nearer than all.

abbrev pub Falls : (n tail top : ℕ) → List PostedCompletion → (unfetched : ℕ) → Type 0
Falls n tail top [] u = u ≤ top
Falls n tail top (an ∷ ans) u = (an.sq_head < n) × (distance n an.sq_head tail ≤ top) × Falls n tail (distance n an.sq_head tail) ans u

abbrev pub FallsAt : ℕ → HostRing → ServedQueue → Type 0
FallsAt n ring at = Falls n ring.tail (distance n ring.known_head ring.tail) at.completions (length at.unfetched)

abbrev pub AllFall : ℕ → List HostQueue → List ServedQueue → Type 0
AllFall n hs qs = (q : ℕ) (queue : HostQueue) (at : ServedQueue) → slice_get hs q ≡ Some queue → slice_get qs q ≡ Some at → FallsAt n queue.ring at

-- Answers, as something changes

pub falls_more : (n tail top top' : ℕ) (ans : List PostedCompletion) (u : ℕ) → top ≤ top' → Falls n tail top ans u → Falls n tail top' ans u
falls_more n tail top top' [] u le h = omega (arith, le, h)
falls_more n tail top top' (an ∷ ans) u le h = (h.0, omega (arith, le, h.1), h.2)

pub falls_less : (n tail top : ℕ) (ans : List PostedCompletion) (u u' : ℕ) → u' ≤ u → Falls n tail top ans u → Falls n tail top ans u'
falls_less n tail top [] u u' le h = omega (arith, le, h)
falls_less n tail top (an ∷ ans) u u' le h = (h.0, h.1, falls_less n tail (distance n an.sq_head tail) ans u u' le h.2)

-- what is not fetched is nearest
pub falls_to : (n tail top : ℕ) (ans : List PostedCompletion) (u : ℕ) → Falls n tail top ans u → u ≤ top
falls_to n tail top [] u h = h
falls_to n tail top (an ∷ ans) u h = omega (arith, h.1, falls_to n tail (distance n an.sq_head tail) ans u h.2)

pub falls_posted : (n tail top : ℕ) (ans : List PostedCompletion) (u : ℕ) → tail < n → top < n - 1 → Falls n tail top ans u → Falls n (next_slot n tail) (suc top) ans (suc u)
falls_posted n tail top [] u t room h = omega (arith, h)
falls_posted n tail top (an ∷ ans) u t room h = grind (arith, falls_posted n tail (distance n an.sq_head tail) ans u, distance_grows)

pub falls_completed : (n tail top : ℕ) (ans : List PostedCompletion) (u : ℕ) (an : PostedCompletion) → an.sq_head < n → distance n an.sq_head tail ≡ u → Falls n tail top ans u → Falls n tail top (ans ++ an ∷ []) u
falls_completed n tail top [] u an below is h = (below, omega (arith, is, h), omega (arith, is))
falls_completed n tail top (x ∷ ans) u an below is h = (h.0, h.1, falls_completed n tail (distance n x.sq_head tail) ans u an below is h.2)

-- Queues, as one changes

pub fall_controller : (n k : ℕ) (g : ServedQueue → ServedQueue) (hs : List HostQueue) (qs : List ServedQueue)
    → ((queue : HostQueue) (at : ServedQueue) → slice_get hs k ≡ Some queue → slice_get qs k ≡ Some at → FallsAt n queue.ring at → FallsAt n queue.ring (g at))
    → AllFall n hs qs → AllFall n hs (change k g qs)
fall_controller n k g hs qs step h q queue at eh eq = grind (arith, changed_at k g qs q at eq)

-- the host's ring of a queue, and the controller's lists of it
pub fall_both : (n k : ℕ) (f : HostQueue → HostQueue) (g : ServedQueue → ServedQueue) (hs : List HostQueue) (qs : List ServedQueue)
    → ((queue : HostQueue) (at : ServedQueue) → slice_get hs k ≡ Some queue → slice_get qs k ≡ Some at → FallsAt n queue.ring at → FallsAt n (f queue).ring (g at))
    → AllFall n hs qs → AllFall n (change k f hs) (change k g qs)
fall_both n k f g hs qs step h q queue at eh eq = grind (arith, changed_at k f hs q queue eh, changed_at k g qs q at eq)

-- a queue of the host changes
pub fall_host_by : (n k : ℕ) (f : HostQueue → HostQueue) (hs : List HostQueue) (qs : List ServedQueue)
    → ((queue : HostQueue) (at : ServedQueue) → slice_get hs k ≡ Some queue → slice_get qs k ≡ Some at → FallsAt n queue.ring at → FallsAt n (f queue).ring at)
    → AllFall n hs qs → AllFall n (change k f hs) qs
fall_host_by n k f hs qs step h q queue at eh eq = grind (arith, changed_at k f hs q queue eh)

-- and its ring stays
pub fall_host : (n k : ℕ) (f : HostQueue → HostQueue) (hs : List HostQueue) (qs : List ServedQueue) → ((queue : HostQueue) → (f queue).ring ≡ queue.ring) → AllFall n hs qs → AllFall n (change k f hs) qs
fall_host n k f hs qs ring h = fall_host_by n k f hs qs (λ queue at eh eq falls. subst (λ (r : HostRing). FallsAt n r at) (sym (ring queue)) falls) h

-- What a queue's change keeps

pub change_twice : {A : Type 0} (k : ℕ) (f g : A → A) (xs : List A) → change k f (change k g xs) ≡ change k (λ x. f (g x)) xs
change_twice k f g [] = refl
change_twice zero f g (x ∷ xs) = refl
change_twice (suc k) f g (x ∷ xs) = ap (λ ys. x ∷ ys) (change_twice k f g xs)

pub longer : {A : Type 0} (xs : List A) (x : A) → length (xs ++ x ∷ []) ≡ suc (length xs)
longer [] x = refl
longer (y ∷ xs) x = ap suc (longer xs x)

pub shorter : {A : Type 0} (xs : List A) → length (drop 1 xs) ≤ length xs
shorter xs = grind arith

-- one more entry, where the ring has room
pub at_posted : (n : ℕ) (queue : HostQueue) (at : ServedQueue) → IsInRing n queue.ring → is_full n queue.ring.known_head queue.ring.tail ≡ false → FallsAt n queue.ring at
    → Falls n (next_slot n queue.ring.tail) (distance n queue.ring.known_head (next_slot n queue.ring.tail)) at.completions (suc (length at.unfetched))
at_posted n queue at ring room h = grind (arith, distance_below, eqb-false, distance_grows, posts_completion, falls_posted)

pub all_posted : (n q : ℕ) (hs : List HostQueue) (qs : List ServedQueue) (more : ServedQueue → ServedQueue) → ((at : ServedQueue) → (more at).completions ≡ at.completions) → ((at : ServedQueue) → length (more at).unfetched ≡ suc (length at.unfetched))
    → ((queue : HostQueue) → slice_get hs q ≡ Some queue → IsInRing n queue.ring) → ((queue : HostQueue) → slice_get hs q ≡ Some queue → is_full n queue.ring.known_head queue.ring.tail ≡ false)
    → AllFall n hs qs → AllFall n (change q (λ x. record x { ring = next_tail n x.ring }) hs) (change q more qs)
all_posted n q hs qs more same one rings room h =
    fall_both n q (λ x. record x { ring = next_tail n x.ring }) more hs qs
    (λ queue at eh eq falls.
    subst (λ (ans : List PostedCompletion). Falls n (next_slot n queue.ring.tail) (distance n queue.ring.known_head (next_slot n queue.ring.tail)) ans (length (more at).unfetched)) (sym (same at))
    (subst (Falls n (next_slot n queue.ring.tail) (distance n queue.ring.known_head (next_slot n queue.ring.tail)) at.completions) (sym (one at)) (at_posted n queue at (rings queue eh) (room queue eh) falls))) h

-- the queues of an opening
pub opened_lists : (k q : ℕ) (at : ServedQueue) → slice_get (replicate k opened) q ≡ Some at → at ≡ opened
opened_lists zero q at e = absurd cc
opened_lists (suc k) zero at e = cc
opened_lists (suc k) (suc q) at e = opened_lists k q at e

-- Every event keeps the heads that completions tell in order, so a reap answers the oldest completion.

abbrev pub Fall : State → Type 0
Fall s = AllFall s.entries s.host.queues s.controller.queues

-- Reaping

fall_consumed : (n q : ℕ) (hs : List HostQueue) (qs : List ServedQueue) → AllFall n hs qs → AllFall n (change q (λ x. record x { ring = next_head n x.ring }) hs) (change q (λ at. record at { completions = drop 1 at.completions }) qs)
fall_consumed n q hs qs h =
    fall_both n q (λ x. record x { ring = next_head n x.ring }) (λ at. record at { completions = drop 1 at.completions }) hs qs
    (λ queue at eh eq falls. fewer queue.ring.tail (distance n queue.ring.known_head queue.ring.tail) at.completions (length at.unfetched) falls) h
  where
    fewer : (tail top : ℕ) (ans : List PostedCompletion) (u : ℕ) → Falls n tail top ans u → Falls n tail top (drop 1 ans) u
    fewer tail top [] u h = h
    fewer tail top (x ∷ ans) u h = falls_more n tail (distance n x.sq_head tail) top ans u h.1 h.2

-- the first completion is taken, and the host knows its head
fall_heard : (n q : ℕ) (an : PostedCompletion) (hs : List HostQueue) (qs : List ServedQueue) → option_and_then (λ queue. front_completion queue.completions) (slice_get qs q) ≡ Some an → AllFall n hs qs
    → AllFall n (change q (λ x. record x { ring = knowing an.sq_head x.ring }) (change q (λ x. record x { ring = next_head n x.ring }) hs)) (change q (λ at. record at { completions = drop 1 at.completions }) qs)
fall_heard n q an hs qs first h =
    subst (λ (xs : List HostQueue). AllFall n xs (change q (λ at. record at { completions = drop 1 at.completions }) qs)) (sym (change_twice q (λ x. record x { ring = knowing an.sq_head x.ring }) (λ x. record x { ring = next_head n x.ring }) hs))
    (fall_both n q (λ x. record x { ring = knowing an.sq_head (next_head n x.ring) }) (λ at. record at { completions = drop 1 at.completions }) hs qs
    (λ queue at eh eq falls. behind queue.ring.tail (distance n queue.ring.known_head queue.ring.tail) at.completions (length at.unfetched)
    (sym (ap (option_and_then (λ (queue : ServedQueue). front_completion queue.completions)) eq) ∙ first) falls) h)
  where
    behind : (tail top : ℕ) (ans : List PostedCompletion) (u : ℕ) → front_completion ans ≡ Some an → Falls n tail top ans u → Falls n tail (distance n an.sq_head tail) (drop 1 ans) u
    behind tail top [] u e h = absurd cc
    behind tail top (x ∷ ans) u e h = let same : x ≡ an = cc in subst (λ (y : PostedCompletion). Falls n tail (distance n y.sq_head tail) ans u) same h.2

-- The controller

fall_off : (n k : ℕ) (hs : List HostQueue) (qs : List ServedQueue) → AllFall n hs qs → AllFall n hs (change k (λ at. record at { unfetched = drop 1 at.unfetched; rung = at.rung - 1 }) qs)
fall_off n k hs qs h =
    fall_controller n k (λ at. record at { unfetched = drop 1 at.unfetched; rung = at.rung - 1 }) hs qs
    (λ queue at eh eq falls. falls_less n queue.ring.tail (distance n queue.ring.known_head queue.ring.tail) at.completions (length at.unfetched) (length (drop 1 at.unfetched)) (shorter at.unfetched) falls) h

fall_completed : (q cid : ℕ) (st : Status) (dw0 : ℕ) (s : State) → ((queue : HostQueue) → host_queue s q ≡ Some queue → (queue.ring.known_head < s.entries) × (queue.ring.tail < s.entries)) → Fall s
    → AllFall s.entries s.host.queues (posts_completion q cid st dw0 s).controller.queues
fall_completed q cid st dw0 s rings h =
    fall_controller s.entries q (λ at. record at { completions = at.completions ++ posted_completion q cid st dw0 s ∷ [] }) s.host.queues s.controller.queues
    (λ queue at eh eq falls.
    let r = rings queue eh in
    let few = falls_to s.entries queue.ring.tail (distance s.entries queue.ring.known_head queue.ring.tail) at.completions (length at.unfetched) falls in
    let near = distance_below s.entries queue.ring.known_head queue.ring.tail r.0 r.1 in
    let slot : fetch_slot s q ≡ moved s.entries queue.ring.tail (s.entries - length at.unfetched) =
    ap (λ (o : Option HostQueue). option_map_or (λ queue. option_map_or (λ at. moved s.entries queue.ring.tail (s.entries - length at.unfetched)) (served_queue s q) 0) o 0) eh
    ∙ ap (λ (o : Option ServedQueue). option_map_or (λ at. moved s.entries queue.ring.tail (s.entries - length at.unfetched)) o 0) eq in
    let head = head_at s.entries queue.ring.tail (length at.unfetched) r.1 (omega (arith, few, near)) in
    falls_completed s.entries queue.ring.tail (distance s.entries queue.ring.known_head queue.ring.tail) at.completions (length at.unfetched) (posted_completion q cid st dw0 s)
    (subst (λ (k : ℕ). k < s.entries) (sym slot) head.0) (ap (λ (k : ℕ). distance s.entries k queue.ring.tail) slot ∙ head.1) falls) h

fall_fetch : (q : ℕ) (s : State) → Stood s → Fall s → AllFall s.entries s.host.queues (a.after_fetch q s).controller.queues
fall_fetch q s stood h =
    fetch_by (λ (t : State). AllFall s.entries s.host.queues t.controller.queues) s q h
    (λ x r con. absurd (true≢false (sym con ∙ ap (λ (o : Option SubEntry). option_map_or (λ e. is_some (job_at s q e.cid)) o false) r ∙ no_conflict s stood q x (in_hand s q x r))))
    (λ x r con z. managed_by (λ (t : State). AllFall s.entries s.host.queues t.controller.queues) x (a.taken_off 0 s)
    (record {
      refuses = λ st bad. off 0;
      aborts = λ is8 walks. off 0;
      is_late = λ is8. off 0;
      stops = λ is0 q0 runs. acts x (λ at. record at { state = Stopping }) (λ queue at falls. falls);
      drops = λ is4 q0 there gone. acts x a.dropped emptied;
      makes_completion = λ is5 q0 none. acts x a.completion_made emptied;
      makes_submission = λ is1 q0 gone there. acts x a.submission_made (λ queue at falls. omega arith);
    }))
    (λ x r con other. off q)
  where
    off : (k : ℕ) → AllFall s.entries s.host.queues (change k (λ at. record at { unfetched = drop 1 at.unfetched; rung = at.rung - 1 }) s.controller.queues)
    off k = fall_off s.entries k s.host.queues s.controller.queues h

    acts : (x : SubEntry) (f : ServedQueue → ServedQueue) → ((queue : HostQueue) (at : ServedQueue) → FallsAt s.entries queue.ring at → FallsAt s.entries queue.ring (f at))
        → AllFall s.entries s.host.queues (change (named_queue x) f (change 0 (λ at. record at { unfetched = drop 1 at.unfetched; rung = at.rung - 1 }) s.controller.queues))
    acts x f each = fall_controller s.entries (named_queue x) f s.host.queues (change 0 (λ at. record at { unfetched = drop 1 at.unfetched; rung = at.rung - 1 }) s.controller.queues) (λ queue at eh eq falls. each queue at falls) (off 0)

    -- without its completions
    emptied : (queue : HostQueue) (at : ServedQueue) → FallsAt s.entries queue.ring at → length at.unfetched ≤ distance s.entries queue.ring.known_head queue.ring.tail
    emptied queue at falls = falls_to s.entries queue.ring.tail (distance s.entries queue.ring.known_head queue.ring.tail) at.completions (length at.unfetched) falls

fall_complete : (q cid : ℕ) (s : State) → Grounds s → Fall s → AllFall s.entries s.host.queues (a.after_complete q cid s).controller.queues
fall_complete q cid s g h =
    let rings : (queue : HostQueue) → host_queue s q ≡ Some queue → (queue.ring.known_head < s.entries) × (queue.ring.tail < s.entries) =
    λ queue e. let r = ring_in s g q queue e in (r.known_head, r.tail) in
    complete_by (λ (t : State). AllFall s.entries s.host.queues t.controller.queues) s q cid h
    (λ j at c. fall_completed q cid (a.final_status s j) j.dw0 (a.on_served_queue (named_queue j.entry) cleared (finished q cid j s)) rings
    (fall_controller s.entries (named_queue j.entry) cleared s.host.queues s.controller.queues
    (λ queue at eh eq falls. falls_less s.entries queue.ring.tail (distance s.entries queue.ring.known_head queue.ring.tail) at.completions (length at.unfetched) 0 (omega arith) falls) h))
    (λ j at c. fall_completed q cid (a.final_status s j) j.dw0 (finished q cid j s) rings h)

-- A reset leaves no completion and no entry

reset_falls : (qs : List ServedQueue) (q : ℕ) (at : ServedQueue) (n : ℕ) (ring : HostRing) → slice_get (a.reset_served_queues qs) q ≡ Some at → FallsAt n ring at
reset_falls qs q at n ring e = rw (none_left, (sym (ap (λ (o : Option ServedQueue). option_map_or (λ at. at.unfetched) o []) e) ∙ no_unfetched qs q)) (omega arith)
  where
    none_left : at.completions ≡ []
    none_left = sym (ap (λ (o : Option ServedQueue). option_map_or (λ at. at.completions) o []) e) ∙ no_completions_at qs q

-- Every event

fall_host_event : (s : State) (e : Event) (reply : Reply) → Accepts s e reply → IsController e ≡ false → s.trusted ≡ true → Grounds s → Fall s → Fall (a.after s e reply)
fall_host_event s e reply ok c t g h =
    host_moves (λ (e : Event) (reply : Reply) (t : State). Fall t) s e reply ok c
    (record {
      reserves = λ q request d none is. h;
      submits = λ d entry r none built its live. posts d.q entry s.host.queues (λ queue e. e) (unrefused s (events.Submit d) none).1.1.1.0 h;
      cancels = λ d r its. h;
      rings = λ q none. fall_controller s.entries q (λ at. record at { rung = length at.unfetched }) s.host.queues s.controller.queues (λ queue at eh eq falls. falls) h;
      rests = λ q is. h;
      rejects = λ q why is. fall_consumed s.entries q s.host.queues s.controller.queues h;
      tells = λ q cid st what e r request told heard w. hears q cid st e r heard;
      hears = λ q cid st what e r adm told heard w quiet unmade. hears q cid st e r heard;
      notes = λ q cid st what e r k told heard w. ended q cid st e r k (λ queue. record queue { state = if is_success st then Deleting true else Live }) heard (λ x. refl);
      frees = λ q cid st what e r k queue told heard w at alone good. ended q cid st e r k a.gone heard (λ x. refl);
      makes_cq = λ q cid st what e r k n base vector told heard w good. ended q cid st e r k a.half_made heard (λ x. refl);
      unmakes_cq = λ q cid st what e r k n base vector queue told heard w at bad. ended q cid st e r k a.gone heard (λ x. refl);
      makes_sq = λ q cid st what e r k n base told heard w good. ended q cid st e r k a.live heard (λ x. refl);
      unmakes_sq = λ q cid st what e r k n base queue told heard w at bad. ended q cid st e r k a.unmade_sq heard (λ x. refl);
      collects = λ q cid r f at held is. h;
      releases = λ f r its. h;
      aborts = λ q cid id none new. posts 0 (admin_entry (Abort q cid) id) s.host.queues (λ queue e. e) (unrefused s (events.Abort q cid) none).1.1.1.1.0 h;
      asks = λ q id queue none new live.
          fall_host s.entries q a.deleting (sends (DeleteSq q) id s).host.queues (sends (DeleteSq q) id s).controller.queues (λ x. refl)
          (posts 0 (admin_entry (DeleteSq q) id) s.host.queues (λ queue e. e) (unrefused s (events.DeleteSq q) none).1.1.1.0 h);
      drops = λ q id none new. posts 0 (admin_entry (DeleteCq q) id) s.host.queues (λ queue e. e) (unrefused s (events.DeleteCq q) none).1.1.1.0 h;
      creates_cqs = λ q vector id first queue none new granted.
          let with_half = a.making_cq (half_from Completion first s) in
          posts 0 (admin_entry (creates_cq q vector first s) id) (change q with_half s.host.queues) (unchanged q with_half granted.other) (unrefused s (events.CreateCq q vector) none).1.1.1.1.1.0
          (fall_host_by s.entries q with_half s.host.queues s.controller.queues (λ x at ex ea falls. fresh x at (served q queue x granted.there ex (ap in_service granted.state)) q ex ea) h);
      creates_sqs = λ q id first queue none new granted.
          let with_half = a.making_sq (half_from Submission first s) in
          posts 0 (admin_entry (creates_sq q first s) id) (change q with_half s.host.queues) (unchanged q with_half granted.other) (unrefused s (events.CreateSq q) none).1.1.1.1.0
          (fall_host_by s.entries q with_half s.host.queues s.controller.queues (λ x at ex ea falls. fresh x at (served q queue x granted.there ex (ap in_service granted.state)) q ex ea) h);
      retires = λ q queue none at deleted. fall_host s.entries q a.retired s.host.queues s.controller.queues (λ x. refl) h;
      forges = λ q slot bytes queue none at. h;
      resets = λ q queue at eh eq. reset_falls s.controller.queues q at s.entries queue.ring eq;
    })
  where
    -- one more entry, where the ring has room
    posts : (q : ℕ) (entry : SubEntry) (hs : List HostQueue) → ((queue : HostQueue) → slice_get hs q ≡ Some queue → host_queue s q ≡ Some queue) → queue_full s q ≡ false → AllFall s.entries hs s.controller.queues
        → AllFall s.entries (change q (λ x. record x { ring = next_tail s.entries x.ring }) hs) (change q (λ at. record at { unfetched = at.unfetched ++ entry ∷ [] }) s.controller.queues)
    posts q entry hs same room all =
        all_posted s.entries q hs s.controller.queues (λ at. record at { unfetched = at.unfetched ++ entry ∷ [] }) (λ at. refl) (λ at. longer at.unfetched entry)
        (λ queue e. ring_in s g q queue (same queue e))
        (λ queue e. sym (ap (λ (o : Option HostQueue). option_map_or (λ queue. is_full s.entries queue.ring.known_head queue.ring.tail) o true) (same queue e)) ∙ room) all

    hears : (q cid : ℕ) (st : Status) (e : ComEntry) (r : Record) → IsHeard s q cid st e r → AllFall s.entries (a.heard q e s).host.queues (a.heard q e s).controller.queues
    hears q cid st e r heard =
        let x = completion_heard s q cid st e r t heard in
        subst (λ (y : ComEntry). AllFall s.entries (a.heard q y s).host.queues (a.heard q y s).controller.queues) (sym x.is) (fall_heard s.entries q x.completion s.host.queues s.controller.queues x.first h)

    ended : (q cid : ℕ) (st : Status) (e : ComEntry) (r : Record) (k : ℕ) (f : HostQueue → HostQueue) → IsHeard s q cid st e r → ((x : HostQueue) → (f x).ring ≡ x.ring)
        → AllFall s.entries (change k f (a.heard q e s).host.queues) (a.heard q e s).controller.queues
    ended q cid st e r k f heard same = fall_host s.entries k f (a.heard q e s).host.queues (a.heard q e s).controller.queues same (hears q cid st e r heard)

    -- queue 0 is none that gets a half
    unchanged : (q : ℕ) (f : HostQueue → HostQueue) → (q == 0) ≡ false → (queue : HostQueue) → slice_get (change q f s.host.queues) 0 ≡ Some queue → host_queue s 0 ≡ Some queue
    unchanged q f other queue e = sym (get_other q f s.host.queues 0 (eqb-false q 0 other)) ∙ e

    served : (q : ℕ) (queue x : HostQueue) → host_queue s q ≡ Some queue → host_queue s q ≡ Some x → in_service queue.state ≡ false → in_service x.state ≡ false
    served q queue x there ex out = let same : queue ≡ x = cc (there, ex) in subst (λ (y : HostQueue). in_service y.state ≡ false) same out

    -- nothing is in the rings of a queue out of service
    fresh : (x : HostQueue) (at : ServedQueue) → in_service x.state ≡ false → (q : ℕ) → host_queue s q ≡ Some x → slice_get s.controller.queues q ≡ Some at → FallsAt s.entries fresh_host_ring at
    fresh x at out q ex ea =
        let pair = pair_at s g q x ex in
        let same : pair.0 ≡ at = cc (pair.1, ea) in
        subst (FallsAt s.entries fresh_host_ring) same
        (rw (pair.2.completions out, pair.2.unfetched out) (omega arith))

fall_event : (s : State) (e : Event) (reply : Reply) → Accepts s e reply → s.trusted ≡ true → Stood s → Fall s → Fall (a.after s e reply)
fall_event s (events.Fetch q) (events.Fetched c touched) ok t stood h =
    subst (λ (part : HostPart). AllFall part.entries part.host.queues (a.after s (events.Fetch q) (events.Fetched c touched)).controller.queues) (sym (part_controller s (events.Fetch q) (events.Fetched c touched) refl)) (fall_fetch q s stood h)
fall_event s (events.Walk q cid) (events.Walked o touched) ok t stood h = grind (arith, part_controller, queues_walk)
fall_event s (events.Complete q cid) (events.Completed touched) ok t stood h =
    subst (λ (part : HostPart). AllFall part.entries part.host.queues (a.after s (events.Complete q cid) (events.Completed touched)).controller.queues) (sym (part_controller s (events.Complete q cid) (events.Completed touched) refl))
    (fall_complete q cid s stood.grounds h)
fall_event s (events.Fetch q) reply ok t stood h = absurd ok.1
fall_event s (events.Walk q cid) reply ok t stood h = absurd ok.1
fall_event s (events.Complete q cid) reply ok t stood h = absurd ok.1
fall_event s e reply ok t stood h = fall_host_event s e reply ok refl t stood.grounds h

-- In each trusted run

pub record Fronted (s : State) : Type 0 where
  pub stood : Stood s
  pub fall : Fall s

pub fronted_on : (s : State) (e : Event) (reply : Reply) → IsProper e → Accepts s e reply → s.trusted ≡ true → Fronted s → Fronted (a.after s e reply)
fronted_on s e reply proper ok t f = record { stood = stood_on s e reply proper ok t f.stood; fall = fall_event s e reply ok t f.stood f.fall }

pub fronted_at_opening : (pages queues n s : ℕ) (image : List ℕ) → Opens pages queues n s → Fronted (opening pages queues n s image)
fronted_at_opening pages queues n s image opens = record {
  stood = stood_at_opening pages queues n s image opens;
  fall = λ q queue at eh eq. subst (FallsAt n queue.ring) (sym (opened_lists (queues + 1) q at eq)) (omega arith);
}

pub runs_are_fronted : (image : List ℕ) (made : List Made) (s : State) → TrustedRun image made s → Fronted s
runs_are_fronted image made s run = along_proper Fronted fronted_on fronted_at_opening image made s run

pub runs_have_no_conflicts : nothing_conflicts
runs_have_no_conflicts image made s q run = elim (option_is (next_rung s q)) [
  | inl n ↦ rw n refl
  | inr (e, n) ↦ rw n (no_conflict s (runs_are_fronted image made s run).stood q e (in_hand s q e n))
]

-- a head between the known head and the tail is in range
near_tail : (n known head tail : ℕ) → known < n → head < n → tail < n → distance n head tail ≤ distance n known tail → distance n known head ≤ distance n known tail
near_tail n known head tail k h t le = grind (arith, distance_is n head tail, distance_is n known tail, distance_is n known head)

in_range : (n known head tail : ℕ) → head < n → distance n known head ≤ distance n known tail → is_in_range n known tail head ≡ true
in_range n known head tail h le = grind (arith, nat_tests)

-- the first completion is that of a submitted command
completed_record : (s : State) → Stood s → (q : ℕ) (at : ServedQueue) (an : PostedCompletion) (rest : List PostedCompletion) → served_queue s q ≡ Some at → at.completions ≡ an ∷ rest
    → (r : Record) × (record_at s.host q an.cid ≡ Some r) × (is_submitted r.phase ≡ true)
completed_record s stood q at an rest e is = grind (arith, completions_at, posts_completion, total, eq-eqb, sent_found)

pub front_reaped : (s : State) → Fronted s → s.trusted ≡ true → (q : ℕ) → is_none (host_queue s q) ≡ false → reaped s q ≡ front q (completions_of s q)
front_reaped s f t q there =
    ap (λ (o : Option ComEntry). option_map_or (reaped_entry s q) o Empty) (seen_trusted s q t) ∙ elim (option_is (served_queue s q)) [
      | inl eq ↦ rw eq refl
      | inr (at, eq) ↦ rw eq (first at eq at.completions refl)
    ]
  where
    fits : (queue : HostQueue) (at : ServedQueue) (an : PostedCompletion) (rest : List PostedCompletion) → host_queue s q ≡ Some queue → served_queue s q ≡ Some at → at.completions ≡ an ∷ rest → fits_ring s q (entry_of q an) ≡ true
    fits queue at an rest eh eq is =
        let falls = subst (λ (xs : List PostedCompletion). Falls s.entries queue.ring.tail (distance s.entries queue.ring.known_head queue.ring.tail) xs (length at.unfetched)) is (f.fall q queue at eh eq) in
        let r = ring_in s f.stood.grounds q queue eh in
        ap (λ (o : Option HostQueue). option_map_or (λ queue. is_in_range s.entries queue.ring.known_head queue.ring.tail an.sq_head) o false) eh
        ∙ in_range s.entries queue.ring.known_head an.sq_head queue.ring.tail falls.0 (near_tail s.entries queue.ring.known_head an.sq_head queue.ring.tail r.known_head falls.0 r.tail falls.1)

    fits_there : (o : Option HostQueue) → host_queue s q ≡ o → is_none o ≡ false → (at : ServedQueue) (an : PostedCompletion) (rest : List PostedCompletion) → served_queue s q ≡ Some at → at.completions ≡ an ∷ rest → fits_ring s q (entry_of q an) ≡ true
    fits_there None eh some at an rest eq is = absurd (true≢false some)
    fits_there (Some queue) eh some at an rest eq is = fits queue at an rest eh eq is

    submitted : (an : PostedCompletion) (r : Record) → record_at s.host q an.cid ≡ Some r → is_submitted r.phase ≡ true → submitted_at s q an.cid ≡ Some r
    submitted an r e sub = ap (λ (o : Option Record). option_map_or (λ r. if is_submitted r.phase then Some r else None) o None) e ∙ ap (λ (b : Bool). if b then Some r else None) sub

    entry : (at : ServedQueue) (an : PostedCompletion) (rest : List PostedCompletion) → served_queue s q ≡ Some at → at.completions ≡ an ∷ rest
        → reaped_entry s q (entry_of q an) ≡ (if q == 0 then AdminDone an.cid an.status an.dw0 else Done an.cid an.status)
    entry at an rest eq is =
        let r = completed_record s f.stood q at an rest eq is in
        ap (λ (b : Bool). if not b then Rejected WrongQueue else if not (fits_ring s q (entry_of q an)) then Rejected BadHead else option_map_or (λ r. reaped_as q (entry_of q an)) (submitted_at s q an.cid) (Rejected UnknownId)) (eq-eqb q q refl)
        ∙ ap (λ (b : Bool). if not b then Rejected BadHead else option_map_or (λ r. reaped_as q (entry_of q an)) (submitted_at s q an.cid) (Rejected UnknownId)) (fits_there (host_queue s q) refl there at an rest eq is)
        ∙ ap (λ (o : Option Record). option_map_or (λ r. reaped_as q (entry_of q an)) o (Rejected UnknownId)) (submitted an r.0 r.1 r.2)

    first : (at : ServedQueue) → served_queue s q ≡ Some at → (ans : List PostedCompletion) → at.completions ≡ ans → option_map_or (reaped_entry s q) (option_map (entry_of q) (front_completion ans)) Empty ≡ front q ans
    first at eq [] is = refl
    first at eq (an ∷ rest) is = entry at an rest eq is

pub reaps_answer : reaps_answer_the_front
reaps_answer image made s new q what run step =
    let ok = permitted _ s.trusted true (trusted_end image made s run) step.1 in
    let there = queue_known is_reaped s q (unrefused s (events.Reap q) ok.0).0 in
    ok.1 ∙ front_reaped s (runs_are_fronted image made s run) (trusted_end image made s run) q there

-- A command that has ended is not submitted or held again before it is submitted anew.

-- what is no phase of a command before it is submitted, or after it was collected, and is one while it is submitted
pub record IsLater (test : Phase → Bool) : Type 0 where
  pub drafted : test Drafted ≡ false
  pub submitted : test Submitted ≡ true
  pub collected : test Collected ≡ false

-- no record of a command is in such a phase
abbrev pub NotIn : (Phase → Bool) → ℕ → ℕ → Record → Type 0
NotIn test q cid r = is_at q cid r ≡ true → test r.phase ≡ false

pub not_with : (test : Phase → Bool) (q cid : ℕ) (f : Record → Record) → ((r : Record) → test (f r).phase ≡ false) → (rs : List Record) → AllByRecursion (NotIn test q cid) (with_record q cid f rs)
not_with test q cid f none [] = tt
not_with test q cid f none (r ∷ rs) = (one (is_at q cid r) refl, not_with test q cid f none rs)
  where
    one : (b : Bool) → is_at q cid r ≡ b → NotIn test q cid (if b then f r else r)
    one true is at = none r
    one false is at = absurd (true≢false (sym at ∙ is))

submit_answers : (s : State) (d : DraftContents) (reply : Reply) → Answers s (events.Submit d) reply → submits_by d.q d.cid (events.Submit d) reply ≡ true
submit_answers s d reply answers = grind arith

submit_by : (s : State) (d : DraftContents) (reply : Reply) → Accepts s (events.Submit d) reply → submits_by d.q d.cid (events.Submit d) reply ≡ true
submit_by s d reply ok = submit_answers s d reply ok.1

pub submit_at : (s : State) (e : Event) (d : DraftContents) (reply : Reply) (q cid : ℕ) → Accepts s e reply → e ≡ events.Submit d → d.q ≡ q → d.cid ≡ cid → submits_by q cid e reply ≡ true
submit_at s e d reply q cid ok is dq dc = grind (arith, submit_by)

sent_in : (test : Phase → Bool) → IsLater test → (ph : Phase) → is_submitted ph ≡ true → test ph ≡ true
sent_in test l ph e = grind arith

pub phases_turn : (test : Phase → Bool) → IsLater test → (q cid : ℕ) → (q == 0) ≡ false → (s : State) (e : Event) (reply : Reply) → Accepts s e reply → submits_by q cid e reply ≡ false
    → RecordsMove (NotIn test q cid) (NotIn test q cid) s e
phases_turn test l q cid other s e reply ok far = record {
  stays = λ r within away p is. p is;
  reserves = λ d is. l.drafted;
  sends = λ adm id is. absurd (true≢false (sym (eq-eqb q 0 (sym (eqb-true 0 q (and_parts (0 == q) (id == cid) is).0))) ∙ other));
  submits = λ d entry r e' built at of p is.
      let mine = and_parts (r.q == q) (r.cid == cid) is in
      let ids = ids_of s d.q d.cid r at in
      absurd (true≢false (sym (submit_at s e d reply q cid ok e' (sym ids.0 ∙ eqb-true r.q q mine.0) (sym ids.1 ∙ eqb-true r.cid cid mine.1)) ∙ far));
  reaps = λ k c st entry request r e' seen n status at w p is.
      let sub = reaped_submitted s k c n in
      absurd (true≢false (sym (sent_in test l r.phase (subst (λ (x : Record). is_submitted x.phase ≡ true) (some_is (sym sub.1 ∙ at)) sub.2)) ∙ p is));
  loses = λ r within sub far p is. absurd (true≢false (sym (sent_in test l r.phase sub) ∙ p is));
  collects = λ r p is. l.collected;
}

pub none_parts : (f : Made → Bool) (xs : List Made) (m : Made) → list_any f (xs ++ m ∷ []) ≡ false → (list_any f xs ≡ false) × (f m ≡ false)
none_parts f [] m h = (refl, (grind arith))
none_parts f (x ∷ xs) m h = grind (arith, none_parts f xs m)

-- along a run that does not submit it
pub record Past (test : Phase → Bool) (q cid : ℕ) (done : List Made) (s : State) : Type 0 where
  pub stood : Stood s
  pub records : list_any (submits q cid) done ≡ false → AllByRecursion (NotIn test q cid) s.host.records

pub past_carried : (test : Phase → Bool) → IsLater test → (q cid : ℕ) → (q == 0) ≡ false → Carried (Past test q cid)
past_carried test l q cid other = record {
  refused = λ done s e why touched h. record { stood = h.stood; records = λ none. h.records (none_parts (submits q cid) done (made_of s e (events.Refused why touched)) none).0 };
  taken = λ done s e reply proper ok t h. record {
    stood = stood_on s e reply proper ok t h.stood;
    records = λ none.
        let parts = none_parts (submits q cid) done (made_of s e reply) none in
        records_event (NotIn test q cid) (NotIn test q cid) s e reply (phases_turn test l q cid other s e reply ok parts.1) ok h.stood.grounds (h.records parts.0);
  };
}

-- Between two reaps that end a command, between two collects of it, and between two steps that end it while it is submitted, it was submitted anew.

abbrev refusing : Reply → Bool
refusing (events.Refused why touched) = true
refusing reply = false

-- A run at one of its steps

pub record At (first : Made) (rest : List Made) (end : State) : Type 0 where
  pub fronted : Fronted first.before
  pub trusted : first.before.trusted ≡ true
  pub mid : State
  pub step : Step first.before first.event first.reply mid
  pub unforged : Unforged mid rest
  pub steps : Steps mid rest end
  pub fronted_mid : Fronted mid

pub at_step : (image : List ℕ) (earlier : List Made) (first : Made) (between later : List Made) (second : Made) (end : State) → TrustedRun image (earlier ++ first ∷ between ++ second ∷ later) end → At first (between ++ second ∷ later) end
at_step image earlier first between later second end run =
    let steps = subst (λ (ms : List Made). Steps (opening run.pages run.queues run.entries run.segment image) ms end) (append_assoc earlier (first ∷ between) (second ∷ later)) run.steps in
    let two = cut earlier (first ∷ between ++ second ∷ later) (opening run.pages run.queues run.entries run.segment image) end steps in
    let all = subst (λ (ms : List Made). Unforged (opening run.pages run.queues run.entries run.segment image) ms) (append_assoc earlier (first ∷ between) (second ∷ later))
    (unforged_run image (earlier ++ first ∷ between ++ second ∷ later) end run) in
    let now = unforged_back earlier (first ∷ between ++ second ∷ later) (opening run.pages run.queues run.entries run.segment image) two.0 two.1 all in
    let next = unforged_next first (between ++ second ∷ later) two.0 two.2.1 two.2.2 now in
    let front = unforged_front earlier (first ∷ between ++ second ∷ later) (opening run.pages run.queues run.entries run.segment image) all in
    let before : TrustedRun image earlier two.0 = record { pages = run.pages; queues = run.queues; entries = run.entries; segment = run.segment; opens = run.opens; is_image = run.is_image; steps = two.1; unforged = ap not front.none } in
    let is = two.2.0 in
    record {
      fronted = subst Fronted (sym is) (runs_are_fronted image earlier two.0 before);
      trusted = ap (λ (s : State). s.trusted) is ∙ now.trusted;
      mid = two.2.1;
      step = subst (λ (s : State). Step s first.event first.reply two.2.1) (sym is) two.2.2;
      unforged = next;
      steps = two.2.3;
      fronted_mid = each_proper_step Fronted fronted_on two.0 first.event first.reply two.2.1 two.2.2 now.trusted next.trusted (runs_are_fronted image earlier two.0 before);
    }

-- A command that is past a phase, and a second step that finds it in that phase

pub past_before : (test : Phase → Bool) → IsLater test → (q cid : ℕ) → (q == 0) ≡ false → (between later : List Made) (second : Made) (mid end : State) → Steps mid (between ++ second ∷ later) end → Unforged mid (between ++ second ∷ later) → Stood mid
    → AllByRecursion (NotIn test q cid) mid.host.records → Before (Past test q cid) between second
past_before test l q cid other between later second mid end steps u stood all =
    before_step (Past test q cid) (keeps (Past test q cid) (past_carried test l q cid other)) [] between later second mid end steps u (record { stood = stood; records = λ none. all })

-- so it was submitted anew
submitted_anew : (test : Phase → Bool) → IsLater test → (q cid : ℕ) → (q == 0) ≡ false → (first second : Made) (between later : List Made) (end : State) → (at : At first (between ++ second ∷ later) end)
    → AllByRecursion (NotIn test q cid) at.mid.host.records → ((next : State) → Step second.before second.event second.reply next → second.before.trusted ≡ true → next.trusted ≡ true → (r : Record) × (record_at second.before.host q cid ≡ Some r) × (test r.phase ≡ true))
    → list_any (submits q cid) between ≡ true
submitted_anew test l q cid other first second between later end at all finds = elim (cases_Bool (list_any (submits q cid) between)) [
  | inl e ↦ e
  | inr e ↦
      let b = past_before test l q cid other between later second at.mid end at.steps at.unforged at.fronted_mid.stood all in
      let r = finds b.next b.step b.trusted b.trusted_next in
      let none = all-found (NotIn test q cid) (is_at q cid) second.before.host.records r.0 r.1 (b.holds.records e) (found_is (is_at q cid) second.before.host.records r.0 r.1) in
      absurd (true≢false (sym r.2 ∙ none))
]

-- Reaping

pub reap_leaves : (s : State) (q cid : ℕ) (st : Status) → Stood s → (q == 0) ≡ false → named (reaped s q) ≡ Some cid → AllByRecursion (NotIn is_submitted q cid) (a.after_reap q (Done cid st) s).host.records
reap_leaves s q cid st stood other n = elim (option_is (record_at s.host q cid)) [
  | inl at ↦ absurd (cc (sym at ∙ (reaped_submitted s q cid n).1))
  | inr (r, at) ↦
      let owns = all-found (λ r. OwnsFit Modelled r.q r.work (pages_of r)) (is_at q cid) s.host.records r at (admins_of s stood.grounds) in
      elim (option_is (seen_entry s q)) [
        | inl none ↦ absurd (cc (sym (ap (λ (o : Option ComEntry). named (option_map_or (reaped_entry s q) o Empty)) none) ∙ n))
        | inr (e, seen) ↦ rw (at, seen) (of_work r at r.work refl owns e.hints (a.heard q e s))
      ]
]
  where
    of_work : (r : Record) → record_at s.host q cid ≡ Some r → (w : Work) → r.work ≡ w → OwnsFit Modelled r.q w (pages_of r) → (hints : Hints) (t : State)
        → AllByRecursion (NotIn is_submitted q cid) (a.after_work w q cid st hints t).host.records
    of_work r at (Io request) is fit hints t = not_with is_submitted q cid (a.held st hints) (λ x. refl) t.host.records
    of_work r at (Management adm) is fit hints t = absurd (true≢false (sym (eq-eqb q 0 (sym (ids_of s q cid r at).0 ∙ fit.0)) ∙ other))

not_refused : {A : Type 0} (why : Refusal) (touched : List ℕ) (reply : Reply) → events.Refused why touched ≡ reply → (refusing reply ≡ false) → A
not_refused why touched reply e h = absurd (true≢false (ap refusing e ∙ h))

reaps_leave : (first : Made) (mid : State) (q cid : ℕ) (st : Status) → Step first.before first.event first.reply mid → first.before.trusted ≡ true → mid.trusted ≡ true → Stood first.before → (q == 0) ≡ false
    → first.event ≡ events.Reap q → first.reply ≡ events.Reaps (Done cid st) → AllByRecursion (NotIn is_submitted q cid) mid.host.records
reaps_leave first mid q cid st step t t' stood other is_event is_reply = grind (arith, trusted_step_by, not_refused, reap_leaves, named)

pub submitted_later : IsLater is_submitted
submitted_later = record { drafted = refl; submitted = refl; collected = refl }

pub runs_tell_once : ends_are_told_once
runs_tell_once image earlier first between second later end q cid st st' run io is_event is_reply is_event' is_reply' =
    let at = at_step image earlier first between later second end run in
    submitted_anew is_submitted submitted_later q cid (positive q io) first second between later end at
    (reaps_leave first at.mid q cid st at.step at.trusted at.unforged.trusted at.fronted.stood (positive q io) is_event is_reply)
    (λ next step t u.
    let step' = subst (λ (r : Reply). Step second.before (events.Reap q) r next) is_reply' (subst (λ (e : Event). Step second.before e second.reply next) is_event' step) in
    let ok = permitted _ second.before.trusted true t step'.1 in
    reaped_submitted second.before q cid (ap named (sym ok.1)))

-- Ending: a reap, a retirement or a reset

-- after it the command is no longer submitted
retire_leaves : (s : State) (q cid : ℕ) → AllByRecursion (NotIn is_submitted q cid) (a.after_retire q s).host.records
retire_leaves s q cid = subst (AllByRecursion (NotIn is_submitted q cid)) (sym (grind arith)) (lost s.host.records)
  where
    each : (r : Record) (b c : Bool) → (r.q == q) ≡ b → is_submitted r.phase ≡ c → NotIn is_submitted q cid (if b && c then a.aborted r else r)
    each r true true its sub at = refl
    each r true false its sub at = sub
    each r false c its sub at = absurd (true≢false (sym (and_parts (r.q == q) (r.cid == cid) at).0 ∙ its))

    lost : (rs : List Record) → AllByRecursion (NotIn is_submitted q cid) (map (a.lost q) rs)
    lost [] = tt
    lost (r ∷ rs) = (each r (r.q == q) (is_submitted r.phase) refl refl, lost rs)

reset_leaves : (q cid : ℕ) (rs : List Record) → AllByRecursion (NotIn is_submitted q cid) (a.reset_records rs)
reset_leaves q cid rs = all_reset (λ r. Unit {0}) (NotIn is_submitted q cid) (λ r io any at. lost_quiet r) rs (all_of (λ r. Unit {0}) rs (λ r within. tt))

end_leaves : (s : State) (e : Event) (reply : Reply) (q cid : ℕ) → Accepts s e reply → Stood s → (q == 0) ≡ false → ends_by q cid s e reply ≡ true → AllByRecursion (NotIn is_submitted q cid) (a.after s e reply).host.records
end_leaves s (events.Reap k) (events.Reaps (Done c st)) q cid ok stood other is = grind (arith, eqb-true, reap_leaves, named)
end_leaves s (events.Retire k) events.Accepted q cid ok stood other is =
    subst (λ (n : ℕ). AllByRecursion (NotIn is_submitted n cid) (a.after_retire k s).host.records) (eqb-true k q (and_parts (k == q) (record_is (λ r. is_submitted r.phase) s q cid) is).0) (retire_leaves s k cid)
end_leaves s events.Reset events.Accepted q cid ok stood other is = reset_leaves q cid s.host.records
end_leaves s e reply q cid ok stood other is = absurd (true≢false (sym is))

-- and before it, it was submitted
end_finds : (s : State) (e : Event) (reply : Reply) (q cid : ℕ) → Accepts s e reply → ends_by q cid s e reply ≡ true → (r : Record) × (record_at s.host q cid ≡ Some r) × (is_submitted r.phase ≡ true)
end_finds s (events.Reap k) (events.Reaps (Done c st)) q cid ok is = grind (arith, reaped_submitted, named, eqb-true)
end_finds s (events.Retire k) events.Accepted q cid ok is = found (λ r. is_submitted r.phase) s q cid (and_parts (k == q) (record_is (λ r. is_submitted r.phase) s q cid) is).1
end_finds s events.Reset events.Accepted q cid ok is = found (λ r. is_submitted r.phase) s q cid is
end_finds s e reply q cid ok is = absurd (true≢false (sym is))

refusals_end_none : (s : State) (e : Event) (why : Refusal) (touched : List ℕ) (q cid : ℕ) → ends_by q cid s e (events.Refused why touched) ≡ false
refusals_end_none s e why touched q cid = grind arith

pub runs_end_once : submitted_commands_end_once
runs_end_once image earlier first between second later end q cid run io ends ends' =
    let at = at_step image earlier first between later second end run in
    submitted_anew is_submitted submitted_later q cid (positive q io) first second between later end at
    (trusted_step_by (λ (e : Event) (reply : Reply) (new : State). ends_by q cid first.before e reply ≡ true → AllByRecursion (NotIn is_submitted q cid) new.host.records) first.before
    (λ e why touched is. absurd (true≢false (sym is ∙ refusals_end_none first.before e why touched q cid)))
    (λ e reply proper ok is. end_leaves first.before e reply q cid ok at.fronted.stood (positive q io) is)
    first.event first.reply at.mid at.step at.trusted at.unforged.trusted ends)
    (λ next step t u.
    trusted_step_by (λ (e : Event) (reply : Reply) (new : State). ends_by q cid second.before e reply ≡ true → (r : Record) × (record_at second.before.host q cid ≡ Some r) × (is_submitted r.phase ≡ true)) second.before
    (λ e why touched is. absurd (true≢false (sym is ∙ refusals_end_none second.before e why touched q cid)))
    (λ e reply proper ok is. end_finds second.before e reply q cid ok is)
    second.event second.reply next step t u ends')

-- Collecting

abbrev lives : Phase → Bool
lives ph = is_submitted ph || is_held ph

lives_later : IsLater lives
lives_later = record { drafted = refl; submitted = refl; collected = refl }

collect_leaves : (s : State) (q cid : ℕ) (f : FinishedContents) → option_and_then (finished_from s) (record_at s.host q cid) ≡ Some f → AllByRecursion (NotIn lives q cid) (a.after_collect q cid s).host.records
collect_leaves s q cid f h = elim (option_is (record_at s.host q cid)) [
  | inl e ↦ rw e (absurd (cc ((rw e at h))))
  | inr (r, e) ↦ rw e (not_with lives q cid a.collected (λ x. refl) s.host.records)
]

collects_leave : (first : Made) (mid : State) (q cid : ℕ) (f : FinishedContents) → Step first.before first.event first.reply mid → first.before.trusted ≡ true → mid.trusted ≡ true
    → first.event ≡ events.Collect q cid → first.reply ≡ events.Collects f → AllByRecursion (NotIn lives q cid) mid.host.records
collects_leave first mid q cid f step t t' is_event is_reply = grind (arith, trusted_step_by, not_refused, collect_leaves)

-- what a collect finds
collect_finds : (s next : State) (q cid : ℕ) (f : FinishedContents) → Step s (events.Collect q cid) (events.Collects f) next → s.trusted ≡ true → (r : Record) × (record_at s.host q cid ≡ Some r) × (lives r.phase ≡ true)
collect_finds s next q cid f step t = grind (arith, permitted, found, first_fails)

-- a command that is collected is of an I/O queue
collect_io : (s next : State) (q cid : ℕ) (f : FinishedContents) → Stood s → Step s (events.Collect q cid) (events.Collects f) next → s.trusted ≡ true → (q == 0) ≡ false
collect_io s next q cid f stood step t = grind (arith, permitted, collect_finds, all-found, ids_of)

pub runs_collect_once : commands_are_collected_once
runs_collect_once image earlier first between second later end q cid f f' run is_event is_reply is_event' is_reply' =
    let at = at_step image earlier first between later second end run in
    let step = subst (λ (r : Reply). Step first.before (events.Collect q cid) r at.mid) is_reply (subst (λ (e : Event). Step first.before e first.reply at.mid) is_event at.step) in
    submitted_anew lives lives_later q cid (collect_io first.before at.mid q cid f at.fronted.stood step at.trusted) first second between later end at
    (collects_leave first at.mid q cid f at.step at.trusted at.unforged.trusted is_event is_reply)
    (λ next step t u. collect_finds second.before next q cid f' (subst (λ (r : Reply). Step second.before (events.Collect q cid) r next) is_reply' (subst (λ (e : Event). Step second.before e second.reply next) is_event' step)) t)
