-- Which pages a step leaves.
use Rattle.machine_model.specs.Events as events
use Rattle.machine_model.specs.declared.words.Refusal.TheVariants as refusal
use Rattle.machine_model.specs.After as a
use Rattle.std.proofs.Common.{◌≡◌, ℕ, zero, suc, ◌-◌, ◌*◌, ◌/◌, ◌<◌, ◌==◌, Bool, true, false, not, ◌&&◌, ◌||◌, Option, Some, None, List, [], ◌∷◌, ◌++◌, length, flat_map, slice_get, slice_index, is_some, is_none, if◌then◌else◌, refl, ap, sym, ◌∙◌, arith, subst, nat_lt, option_and_then, inl, inr, ◌+◌, ◌≤◌, slice_set, nat_le}
use Rattle.std.proofs.lemmas.Bool.{true≢false, not-false, eq-eqb, or_right, eqb-false, or_parts, cases_Bool, and_parts, Decides.nat_tests, or_left}
use Rattle.std.specs.{List.list_all, Option.option_map_or}
use Rattle.machine_model.proofs.Counting.{held_once, times-append, get_other, run_times, zeroed_numbers}
use Rattle.machine_model.proofs.Kept.{live_has_sq, reaped_has_cq, service_is_reaped}
use Rattle.machine_model.proofs.Moves.{host_moves, posts, posted_is, sends, sent_record, half_from, creates_cq, creates_sq, grants_cq, grants_sq}
use Rattle.machine_model.{proofs.{Owned.{Holds, in_queue, in_record}, Steps.{first_fails, permitted, managed_by, Accepts, unrefused}}, specs.Agreeing.on_queue}
use Rattle.machine_model.specs.{Events.{Event, Reply}, Linked.{absent, IsLinked}, Memory.{is_in, with_pages, without_pages, zeroed_pages}, Positions.IsInRing}
use Rattle.machine_model.specs.Refusals.{host_queue, served_queue, next_rung, slot_page, fetch_slot, post_slot, fetch_page, post_page, conflicts, job_at, completions_full, job_is, waits, is_submitted, is_drafted, is_collected, is_live, has_cq, in_service, is_reaped, slot_offset, in_state, is_job}
use Rattle.machine_model.specs.State.{State, HostQueue, ServedQueue, pages_of, Host, Record, Job, record_at, with_record}
use Rattle.machine_model.specs.Step.{Step, Refuses, IsController, touched_by_refusal, touched_by_fetch, times}
use Rattle.machine_model.specs.{Touch.{allowed, pages_at_queue, pages_at_queues, pages_of_queue, own_pages, stays_allowed, stays_own}, Weights.{one, total}}
use Rattle.machine_model.specs.declared.words.{HostState.HostState, Refusal.Refusal}
use Rattle.page_ledger.specs.Owners.{is_among}
use Rattle.admin_commands.specs.{Entries.{admin_entry, named_queue}, Verdicts.is_absent, declared.AdminKind.AdminKind}
use Rattle.admin_commands.specs.declared.AdminKind.TheVariants.{Abort, DeleteSq, DeleteCq}
use Rattle.controller_walk.specs.Units.{first_passing}
use Rattle.queue_pair.{proofs.Rings.moved_below, specs.{Members.change, Memory.half_pages, Slots.moved}}
use Rattle.page_memory.specs.{Pages.{Pages, page_at, with_page_bytes, with_bytes}, declared.page.Half.TheVariants.{Submission, Completion}}
use Rattle.io_commands.specs.Values.{numbers_of}
use Rattle.two_sides.proofs.{ControllerMoves.{posts_completion, completes_is, finished, cleared, fetch_by, complete_by}, Provided.{In, in_at, in_found}}
use Rattle.two_sides.proofs.TiedAll.{Grounds, pair_at, ring_in, zero_lives}
use Rattle.entry_codec.specs.{Completion.completion_bytes, Submission.submission_bytes, declared.status.Status.Status}
use Rattle.entry_codec.specs.declared.{status.TheConstants.Status.COMMAND_ID_CONFLICT, submission.SubEntry.SubEntry}
use Rattle.entry_codec.specs.declared.hints.TheConstants.Hints.{NONE}
use Rattle.slot_table.proofs.Rows.{option_is}
use Rattle.page_memory.proofs.Lists.{found_is}
use Rattle.machine_model.proofs.Sound.{small}
use Rattle.host_core.proofs.PageOwners.{with-other}

-- What a fetch and a completion touch.

abbrev pub is_walk : Event → Bool
is_walk (events.Walk q cid) = true
is_walk e = false

-- Numbers of lists

pub holds_left : (p : ℕ) (xs ys : List ℕ) → is_among xs p ≡ true → is_among (xs ++ ys) p ≡ true
holds_left p [] ys h = absurd (true≢false (sym h))
holds_left p (x ∷ xs) ys h = by_page (x == p) h (holds_left p xs ys)
  where
    by_page : (b : Bool) → (b || is_among xs p) ≡ true → (is_among xs p ≡ true → is_among (xs ++ ys) p ≡ true) → (b || is_among (xs ++ ys) p) ≡ true
    by_page true h ih = refl
    by_page false h ih = ih h

pub holds_right : (p : ℕ) (xs ys : List ℕ) → is_among ys p ≡ true → is_among (xs ++ ys) p ≡ true
holds_right p [] ys h = h
holds_right p (x ∷ xs) ys h = or_right (x == p) (is_among (xs ++ ys) p) (holds_right p xs ys h)

pub holds_index : (xs : List ℕ) (k : ℕ) → k < length xs → is_among xs (slice_index xs k) ≡ true
holds_index [] k l = absurd (omega arith)
holds_index (x ∷ xs) zero l = or_left (x == x) (is_among xs x) (eq-eqb x x refl)
holds_index (x ∷ xs) (suc k) l = or_right (x == slice_index xs k) (is_among xs (slice_index xs k)) (holds_index xs k (omega arith))

-- the pages of the queue at an index
at_queues : (p k : ℕ) (queues : List HostQueue) (ats : List ServedQueue) (queue : HostQueue) (at : ServedQueue) → slice_get queues k ≡ Some queue → slice_get ats k ≡ Some at
    → is_among (pages_at_queue queue at) p ≡ true → is_among (pages_at_queues queues ats) p ≡ true
at_queues p zero (x ∷ queues) (y ∷ ats) queue at e e' h =
    let same : x ≡ queue = cc in
    let same' : y ≡ at = cc in
    holds_left p (pages_at_queue x y) (pages_at_queues queues ats) (rw (same, same') h)
at_queues p (suc k) (x ∷ queues) (y ∷ ats) queue at e e' h =
    holds_right p (pages_at_queue x y) (pages_at_queues queues ats) (at_queues p k queues ats queue at e e' h)
at_queues p k x ats queue at e e' h = absurd cc

-- a slot of a ring lies on a page of a whole half
pub entry_inside : (n k : ℕ) → k < n → k * 64 / 4096 < half_pages n Submission
entry_inside n k l = omega arith

pub completion_inside : (n k : ℕ) → k < n → k * 16 / 4096 < half_pages n Completion
completion_inside n k l = omega arith

fetch_slot_below : (s : State) (q : ℕ) → IsLinked s → fetch_slot s q < s.entries
fetch_slot_below s q linked = by_queues (host_queue s q) (served_queue s q) (linked.inside q)
  where
    by_queues : (o : Option HostQueue) (d : Option ServedQueue) → ((queue : HostQueue) → o ≡ Some queue → IsInRing s.entries queue.ring)
        → option_map_or (λ queue. option_map_or (λ at. moved s.entries queue.ring.tail (s.entries - length at.unfetched)) d 0) o 0 < s.entries
    by_queues None d inside = linked.entries
    by_queues (Some queue) None inside = linked.entries
    by_queues (Some queue) (Some at) inside = moved_below s.entries queue.ring.tail (s.entries - length at.unfetched) (inside queue refl).tail

post_slot_below : (s : State) (q : ℕ) → IsLinked s → post_slot s q < s.entries
post_slot_below s q linked = by_queues (host_queue s q) (served_queue s q) (linked.inside q)
  where
    by_queues : (o : Option HostQueue) (d : Option ServedQueue) → ((queue : HostQueue) → o ≡ Some queue → IsInRing s.entries queue.ring)
        → option_map_or (λ queue. option_map_or (λ at. moved s.entries queue.ring.head (length at.completions)) d 0) o 0 < s.entries
    by_queues None d inside = linked.entries
    by_queues (Some queue) None inside = linked.entries
    by_queues (Some queue) (Some at) inside = moved_below s.entries queue.ring.head (length at.completions) (inside queue refl).head

-- a page is allowed, and its queue's
abbrev pub StaysIn : State → ℕ → ℕ → Type 0
StaysIn s q p = (is_among (allowed s) p ≡ true) × (is_among (pages_of_queue s q) p ≡ true)

in_controller : (s : State) (q : ℕ) → absent s q ≡ false → (at : ServedQueue) × (served_queue s q ≡ Some at) × (is_absent at.state ≡ false)
in_controller s q there = elim (option_is (served_queue s q)) [ inl e ↦ let h = rw e at there in absurd (true≢false h) | inr (at, e) ↦ let h = rw e at there in (at, e, h) ]

of_half : (s : State) (q p : ℕ) (queue : HostQueue) (at : ServedQueue) → host_queue s q ≡ Some queue → served_queue s q ≡ Some at
    → is_among (pages_at_queue queue at) p ≡ true → is_among (queue.sq_pages ++ queue.cq_pages) p ≡ true → StaysIn s q p
of_half s q p queue at e e' h own = (
  holds_left p (pages_at_queues s.host.queues s.controller.queues) (flat_map (λ r. if is_some (job_at s r.q r.cid) then pages_of r else []) s.host.records)
      (at_queues p q s.host.queues s.controller.queues queue at e e' h),
  ap (λ (o : Option HostQueue). is_among (option_map_or (λ queue. queue.sq_pages ++ queue.cq_pages) o []) p) e ∙ own,
)

pub fetch_stays_in : (s : State) (q : ℕ) → IsLinked s → absent s q ≡ false → StaysIn s q (fetch_page s q)
fetch_stays_in s q linked there = by_queue (host_queue s q) refl
  where
    by_queue : (o : Option HostQueue) → host_queue s q ≡ o → StaysIn s q (option_map_or (λ queue. slot_page queue.sq_pages 64 (fetch_slot s q)) o 0)
    by_queue None e = let known : is_some (host_queue s q) ≡ true = linked.known q there in absurd (true≢false (sym (rw e at known)))
    by_queue (Some queue) e =
        let at = in_controller s q there in
        let p : ℕ = slot_page queue.sq_pages 64 (fetch_slot s q) in
        let inside : fetch_slot s q * 64 / 4096 < length queue.sq_pages =
        subst (λ (n : ℕ). fetch_slot s q * 64 / 4096 < n) (sym (linked.submission_whole q queue e there)) (entry_inside s.entries (fetch_slot s q) (fetch_slot_below s q linked)) in
        let held : is_among queue.sq_pages p ≡ true = holds_index queue.sq_pages (fetch_slot s q * 64 / 4096) inside in
        let half : is_among (if is_absent at.0.state then [] else queue.sq_pages) p ≡ true = rw at.2 held in
        of_half s q p queue at.0 e at.1
        (holds_left p (if is_absent at.0.state then [] else queue.sq_pages) (if at.0.cq_there then queue.cq_pages else []) half)
        (holds_left p queue.sq_pages queue.cq_pages held)

pub post_stays_in : (s : State) (q : ℕ) → IsLinked s → absent s q ≡ false → StaysIn s q (post_page s q)
post_stays_in s q linked there = by_queue (host_queue s q) refl
  where
    by_queue : (o : Option HostQueue) → host_queue s q ≡ o → StaysIn s q (option_map_or (λ queue. slot_page queue.cq_pages 16 (post_slot s q)) o 0)
    by_queue None e = let known : is_some (host_queue s q) ≡ true = linked.known q there in absurd (true≢false (sym (rw e at known)))
    by_queue (Some queue) e =
        let at = in_controller s q there in
        let p : ℕ = slot_page queue.cq_pages 16 (post_slot s q) in
        let cq : option_map_or (λ (at : ServedQueue). at.cq_there) (served_queue s q) false ≡ true = linked.completion_stays q there in
        let cq' : at.0.cq_there ≡ true = sym (ap (λ (o : Option ServedQueue). option_map_or (λ (at : ServedQueue). at.cq_there) o false) at.1) ∙ cq in
        let inside : post_slot s q * 16 / 4096 < length queue.cq_pages =
        subst (λ (n : ℕ). post_slot s q * 16 / 4096 < n) (sym (linked.completion_whole q queue e (linked.completion_stays q there))) (completion_inside s.entries (post_slot s q) (post_slot_below s q linked)) in
        let held : is_among queue.cq_pages p ≡ true = holds_index queue.cq_pages (post_slot s q * 16 / 4096) inside in
        let half : is_among (if at.0.cq_there then queue.cq_pages else []) p ≡ true = rw cq' held in
        of_half s q p queue at.0 e at.1
        (holds_right p (if is_absent at.0.state then [] else queue.sq_pages) (if at.0.cq_there then queue.cq_pages else []) half)
        (holds_right p queue.sq_pages queue.cq_pages held)

-- a queue with an announced entry is not absent
pub rung_there : (s : State) (q : ℕ) → is_none (next_rung s q) ≡ false → absent s q ≡ false
rung_there s q h = grind arith

first_other : {A : Type 0} (c : Bool) (x y : A) (rest : List (Bool × A)) → first_passing ((c, x) ∷ rest) ≡ Some y → (x ≡ y → ⊥) → c ≡ false
first_other c x y rest h far = grind arith

abbrev after_idle : State → ℕ → List (Bool × Refusal)
after_idle s q =
    (not (is_in s.memory (fetch_page s q)), refusal.SlotOut)
    ∷ (conflicts s q && completions_full s q, refusal.Full)
    ∷ (conflicts s q && not (is_in s.memory (post_page s q)), refusal.SlotOut)
    ∷ []

touched_refused : (s : State) (e : Event) (why : Refusal) (touched : List ℕ) → Refuses s e why touched → touched ≡ touched_by_refusal s e why
touched_refused s e why touched h = grind arith

-- what is touched stays in a list
abbrev Within : List ℕ → List ℕ → Bool
Within pages touched = list_all (is_among pages) touched

within_one : (pages : List ℕ) (p : ℕ) → is_among pages p ≡ true → Within pages (p ∷ []) ≡ true
within_one pages p h = rw h refl

within_two : (pages : List ℕ) (p p' : ℕ) → is_among pages p ≡ true → is_among pages p' ≡ true → Within pages (p ∷ p' ∷ []) ≡ true
within_two pages p p' h h' = rw (h, h') refl

abbrev BothWithin : State → List ℕ → List ℕ → Type 0
BothWithin s own touched = (Within (allowed s) touched && Within own touched) ≡ true

both_within : (s : State) (own touched : List ℕ) → Within (allowed s) touched ≡ true → Within own touched ≡ true → BothWithin s own touched
both_within s own touched a b = rw (a, b) refl

one_stays : (s : State) (q p : ℕ) → StaysIn s q p → BothWithin s (pages_of_queue s q) (p ∷ [])
one_stays s q p h = both_within s (pages_of_queue s q) (p ∷ []) (within_one (allowed s) p h.0) (within_one (pages_of_queue s q) p h.1)

two_stay : (s : State) (q p p' : ℕ) → StaysIn s q p → StaysIn s q p' → BothWithin s (pages_of_queue s q) (p ∷ p' ∷ [])
two_stay s q p p' h h' = both_within s (pages_of_queue s q) (p ∷ p' ∷ []) (within_two (allowed s) p p' h.0 h'.0) (within_two (pages_of_queue s q) p p' h.1 h'.1)

refused_stays : (s : State) (e : Event) (why : Refusal) → IsLinked s → (touched : List ℕ) → Refuses s e why touched → BothWithin s (own_pages s e) (touched_by_refusal s e why)
refused_stays s (events.Fetch q) refusal.Full linked touched h =
    one_stays s q (fetch_page s q) (fetch_stays_in s q linked (rung_there s q (first_other (is_none (next_rung s q)) refusal.Idle refusal.Full (after_idle s q) h.0 (λ e. absurd cc))))
refused_stays s (events.Fetch q) refusal.SlotOut linked touched h =
    by_presence (is_in s.memory (fetch_page s q)) (fetch_stays_in s q linked (rung_there s q (first_other (is_none (next_rung s q)) refusal.Idle refusal.SlotOut (after_idle s q) h.0 (λ e. absurd cc))))
  where
    by_presence : (b : Bool) → StaysIn s q (fetch_page s q) → BothWithin s (pages_of_queue s q) (if b then fetch_page s q ∷ [] else [])
    by_presence true h = one_stays s q (fetch_page s q) h
    by_presence false h = refl
refused_stays s (events.Fetch q) refusal.Memory linked touched h =
    one_stays s q (fetch_page s q) (fetch_stays_in s q linked (rung_there s q (first_fails (is_none (next_rung s q)) refusal.Idle (after_idle s q) h.1)))
refused_stays s e why linked touched h = refl

fetched_stays : (s : State) (q : ℕ) → IsLinked s → absent s q ≡ false → BothWithin s (pages_of_queue s q) (touched_by_fetch s q)
fetched_stays s q linked there = by_conflict (conflicts s q)
  where
    by_conflict : (b : Bool) → BothWithin s (pages_of_queue s q) (if b then fetch_page s q ∷ post_page s q ∷ [] else fetch_page s q ∷ [])
    by_conflict true = two_stay s q (fetch_page s q) (post_page s q) (fetch_stays_in s q linked there) (post_stays_in s q linked there)
    by_conflict false = one_stays s q (fetch_page s q) (fetch_stays_in s q linked there)

abbrev after_no_job : State → ℕ → ℕ → List (Bool × Refusal)
after_no_job s q cid =
    (job_is (λ j. is_none j.verdict) s q cid, refusal.Walking)
    ∷ (job_is (waits s) s q cid, refusal.Waits)
    ∷ (completions_full s q, refusal.Full)
    ∷ (not (is_in s.memory (post_page s q)), refusal.SlotOut)
    ∷ []

-- A fetch and a completion, accepted or refused, touch only pages that are allowed, and of their queue
pub stays : (old : State) (e : Event) (reply : Reply) (new : State) → Step old e reply new → old.trusted ≡ true → IsLinked old → is_walk e ≡ false
    → (stays_allowed old reply && stays_own old e reply) ≡ true
stays old e (events.Refused why touched) new step trusted linked w =
    let refuses = permitted _ old.trusted (not (IsController e)) trusted step.1 in
    subst (BothWithin old (own_pages old e)) (sym (touched_refused old e why touched refuses)) (refused_stays old e why linked touched refuses)
stays old (events.Fetch q) (events.Fetched cid touched) new step trusted linked w =
    let accepts = permitted _ old.trusted false trusted step.1 in
    subst (BothWithin old (pages_of_queue old q)) (sym accepts.1.1)
    (fetched_stays old q linked (rung_there old q (first_fails (is_none (next_rung old q)) refusal.Idle (after_idle old q) accepts.0)))
stays old (events.Complete q cid) (events.Completed touched) new step trusted linked w =
    let accepts = permitted _ old.trusted false trusted step.1 in
    let job : is_none (job_at old q cid) ≡ false = first_fails (is_none (job_at old q cid)) refusal.NoJob (after_no_job old q cid) accepts.0 in
    subst (BothWithin old (pages_of_queue old q)) (sym accepts.1) (one_stays old q (post_page old q) (post_stays_in old q linked (linked.jobs_have_queues q cid (not-false _ job))))
stays old (events.Walk q cid) (events.Walked outcome touched) new step trusted linked w = absurd (true≢false w)
stays old e (events.Fetched cid touched) new step trusted linked w = absurd (permitted _ old.trusted _ trusted step.1).1
stays old e (events.Walked outcome touched) new step trusted linked w = absurd (permitted _ old.trusted _ trusted step.1).1
stays old e (events.Completed touched) new step trusted linked w = absurd (permitted _ old.trusted _ trusted step.1).1
stays old e reply new step trusted linked w = refl

-- No step writes a page of a submitted command, except that a walk moves data of its own command.

-- Pages set

pub set_elsewhere : (m : Pages) (k p : ℕ) (x : Option (List ℕ)) → (k ≡ p → ⊥) → page_at (slice_set m k x) p ≡ page_at m p
set_elsewhere (y ∷ m) zero zero x e = absurd (e refl)
set_elsewhere (y ∷ m) (suc k) (suc p) x e = set_elsewhere m k p x (λ h. e (ap suc h))
set_elsewhere y k p x e = refl

pub bytes_elsewhere : (m : Pages) (k p at : ℕ) (new : List ℕ) → (k ≡ p → ⊥) → page_at (with_page_bytes m k at new) p ≡ page_at m p
bytes_elsewhere m k p at new e = set_elsewhere m k p (option_and_then (λ page. Some (with_bytes page at new)) (page_at m k)) e

pub without_elsewhere : (ps : List ℕ) (m : Pages) (p : ℕ) → is_among ps p ≡ false → page_at (without_pages ps m) p ≡ page_at m p
without_elsewhere [] m p h = refl
without_elsewhere (k ∷ ps) m p h =
    let both = or_parts (k == p) (is_among ps p) h in
    without_elsewhere ps (slice_set m k None) p both.1 ∙ set_elsewhere m k p None (eqb-false k p both.0)

-- The owner of a page

-- how often a submitted command has a page
abbrev pub sent_page : ℕ → Record → ℕ
sent_page p r = if is_submitted r.phase then in_record p r else 0

pub sent_less : (p : ℕ) (rs : List Record) → total (sent_page p) rs ≤ total (in_record p) rs
sent_less p [] = omega arith
sent_less p (r ∷ rs) = grind (arith, sent_less p rs)

-- a page is in one place
pub owned_once : (count p : ℕ) (h : Host) → Holds count h → times p h.free + (total (in_queue p) h.queues + total (in_record p) h.records) ≤ 1
owned_once count p h holds = omega (arith, holds.owner p, small (nat_lt p count))

-- so a free page, a queue's and a command's that is not submitted are no submitted command's
pub not_free : (count p : ℕ) (h : Host) → Holds count h → 0 < total (sent_page p) h.records → times p h.free ≡ 0
not_free count p h holds some = omega (arith, owned_once count p h holds, some, sent_less p h.records)

pub not_others : (count p : ℕ) (h : Host) (r : Record) → Holds count h → In r h.records → is_submitted r.phase ≡ false → 0 < total (sent_page p) h.records → in_record p r ≡ 0
not_others count p h r holds within far some =
    -- a record and the submitted ones count apart
    let apart : Record → ℕ = λ x. if is_submitted x.phase then 0 else in_record p x in
    let split : (rs : List Record) → In r rs → total (sent_page p) rs + in_record p r ≤ total (in_record p) rs = λ rs within.
    let own : in_record p r ≤ total (λ x. if is_submitted x.phase then 0 else in_record p x) rs =
    subst (λ (b : Bool). (if b then 0 else in_record p r) ≤ total (λ x. if is_submitted x.phase then 0 else in_record p x) rs) far (within (λ x. if is_submitted x.phase then 0 else in_record p x)) in
    omega (arith, own, both rs) in
    omega (arith, owned_once count p h holds, some, split h.records within)
  where
    both : (rs : List Record) → total (sent_page p) rs + total (λ x. if is_submitted x.phase then 0 else in_record p x) rs ≡ total (in_record p) rs
    both [] = refl
    both (x ∷ rs) = by_phase (is_submitted x.phase) (both rs)
      where
        by_phase : (b : Bool) → total (sent_page p) rs + total (λ x. if is_submitted x.phase then 0 else in_record p x) rs ≡ total (in_record p) rs
            → (if b then in_record p x else 0) + total (sent_page p) rs + ((if b then 0 else in_record p x) + total (λ x. if is_submitted x.phase then 0 else in_record p x) rs) ≡ in_record p x + total (in_record p) rs
        by_phase b ih = grind arith

-- a page that does not occur in a list is not in it
pub among_counts : (p : ℕ) (xs : List ℕ) → times p xs ≡ 0 → is_among xs p ≡ false
among_counts p xs none = elim (cases_Bool (is_among xs p)) [ inl e ↦ absurd (omega (arith, none, held_once p xs e)) | inr e ↦ e ]

-- a slot's page is one of its half's
pub index_counts : (xs : List ℕ) (k p : ℕ) → k < length xs → times p xs ≡ 0 → slice_index xs k ≡ p → ⊥
index_counts xs k p l none same = true≢false (sym (ap (is_among xs) (sym same) ∙ holds_index xs k l) ∙ among_counts p xs none)

-- No step but a walk writes a page of a submitted command.

abbrev Same : Pages → State → ℕ → Type 0
Same m s p = page_at m p ≡ page_at s.memory p

-- a page that is no free one, no queue's, and no drafted or collected command's
pub record IsSubmittedPage (s : State) (p : ℕ) : Type 0 where
  pub free : times p s.host.free ≡ 0
  pub queues : (q : ℕ) (queue : HostQueue) → host_queue s q ≡ Some queue → in_queue p queue ≡ 0
  pub others : (r : Record) → In r s.host.records → (is_drafted r.phase || is_collected r.phase) ≡ true → in_record p r ≡ 0

-- Writing a slot

-- what is known of the queue whose slot is written: its half is whole, the page is none of it, and the position is in the ring
abbrev pub PostsElsewhere : State → ℕ → ℕ → Type 0
PostsElsewhere s q p = (queue : HostQueue) → host_queue s q ≡ Some queue → (times p queue.sq_pages ≡ 0) × (length queue.sq_pages ≡ half_pages s.entries Submission) × (queue.ring.tail < s.entries)

abbrev CompletesElsewhere : State → ℕ → ℕ → Type 0
CompletesElsewhere s q p = (queue : HostQueue) → host_queue s q ≡ Some queue → (times p queue.cq_pages ≡ 0) × (length queue.cq_pages ≡ half_pages s.entries Completion) × (queue.ring.head < s.entries)

pub posted_elsewhere : (q : ℕ) (entry : SubEntry) (s : State) (p : ℕ) → PostsElsewhere s q p → Same (a.posted q entry s).memory s p
posted_elsewhere q entry s p known = elim (option_is (host_queue s q)) [
  | inl none ↦ rw none refl
  | inr (queue, e) ↦ let k = known queue e in
      rw e (bytes_elsewhere s.memory (slot_page queue.sq_pages 64 queue.ring.tail) p (slot_offset 64 queue.ring.tail) (submission_bytes entry)
      (index_counts queue.sq_pages (queue.ring.tail * 64 / 4096) p (rw k.1 (entry_inside s.entries queue.ring.tail k.2)) k.0))
]

pub posts_elsewhere : (q : ℕ) (entry : SubEntry) (s : State) (p : ℕ) → PostsElsewhere s q p → Same (posts q entry s).memory s p
posts_elsewhere q entry s p known = ap (λ (t : State). page_at t.memory p) (posted_is q entry s) ∙ posted_elsewhere q entry s p known

post_below : (s : State) (q : ℕ) (queue : HostQueue) → host_queue s q ≡ Some queue → queue.ring.head < s.entries → post_slot s q < s.entries
post_below s q queue e l = rw e (elim (option_is (served_queue s q)) [ inl none ↦ rw none (omega (arith, l)) | inr (at, d) ↦ rw d (moved_below s.entries queue.ring.head (length at.completions) l) ])

completed_elsewhere : (q cid : ℕ) (st : Status) (dw0 : ℕ) (s : State) (p : ℕ) → CompletesElsewhere s q p → Same (a.with_posted_completion q cid st dw0 s).memory s p
completed_elsewhere q cid st dw0 s p known = by_queue (host_queue s q) refl
  where
    by_queue : (o : Option HostQueue) → host_queue s q ≡ o
        → Same (option_map_or (λ queue. a.on_memory (λ m. with_page_bytes m (slot_page queue.cq_pages 16 (post_slot s q)) (slot_offset 16 (post_slot s q))
        (completion_bytes (record { dw0 = dw0; sqhd = fetch_slot s q; sqid = q; cid = cid; phase = a.post_phase s q queue; status = st; hints = NONE }))) s) o s).memory s p
    by_queue None e = refl
    by_queue (Some queue) e =
        let k = known queue e in
        bytes_elsewhere s.memory (slot_page queue.cq_pages 16 (post_slot s q)) p (slot_offset 16 (post_slot s q)) _
        (index_counts queue.cq_pages (post_slot s q * 16 / 4096) p (subst (λ (n : ℕ). post_slot s q * 16 / 4096 < n) (sym k.1) (completion_inside s.entries (post_slot s q) (post_below s q queue e k.2))) k.0)

completes_elsewhere : (q cid : ℕ) (st : Status) (dw0 : ℕ) (s : State) (p : ℕ) → CompletesElsewhere s q p → Same (posts_completion q cid st dw0 s).memory s p
completes_elsewhere q cid st dw0 s p known = ap (λ (t : State). page_at t.memory p) (completes_is q cid st dw0 s) ∙ completed_elsewhere q cid st dw0 s p known

-- What is known of a queue

pub posts_live : (s : State) → Grounds s → (q p : ℕ) → ((queue : HostQueue) → host_queue s q ≡ Some queue → is_live queue.state ≡ true) → IsSubmittedPage s p → PostsElsewhere s q p
posts_live s g q p live some queue e =
    (omega (arith, some.queues q queue e), (pair_at s g q queue e).2.sub (live_has_sq queue.state (live queue e)), (ring_in s g q queue e).tail)

completes_there : (s : State) → Grounds s → (q p : ℕ) → ((queue : HostQueue) → host_queue s q ≡ Some queue → has_cq queue.state ≡ true) → IsSubmittedPage s p → CompletesElsewhere s q p
completes_there s g q p there some queue e =
    (omega (arith, some.queues q queue e), (pair_at s g q queue e).2.comp (there queue e), (ring_in s g q queue e).head)

-- a queue in service has its completion half
served_there : (st : HostState) → in_service st ≡ true → has_cq st ≡ true
served_there st h = reaped_has_cq st (service_is_reaped st h)

-- so is the queue of a job
completed_there : (s : State) → Grounds s → (q cid : ℕ) (j : Job) → job_at s q cid ≡ Some j → (queue : HostQueue) → host_queue s q ≡ Some queue → has_cq queue.state ≡ true
completed_there s g q cid j at queue there =
    let its = and_parts (j.q == q) (j.entry.cid == cid) (found_is (is_job q cid) s.controller.jobs j at) in
    let served = g.fit.service q (omega (arith, in_found (is_job q cid) s.controller.jobs j at (on_queue q), ap one its.0)) in
    served_there queue.state (not-false (in_service queue.state) (sym (ap (λ (o : Option HostQueue). option_map_or (λ h. not (in_service h.state)) o false) there) ∙ served))

-- Memory that stays

kept_managed : (e : SubEntry) (s : State) → (a.managed e s).memory ≡ s.memory
kept_managed e s =
    managed_by (λ t. t.memory ≡ s.memory) e s
    (record {
      refuses = λ st bad. refl;
      aborts = λ is8 walks. refl;
      is_late = λ is8. refl;
      stops = λ is0 q0 runs. refl;
      drops = λ is4 q0 there gone. refl;
      makes_completion = λ is5 q0 gone. refl;
      makes_submission = λ is1 q0 gone there. refl;
    })

-- Each event

-- free pages are others
free_elsewhere : (s : State) (pages : List ℕ) (p : ℕ) → ((p : ℕ) → times p pages ≡ (if is_among pages p && is_among s.host.free p then 1 else 0)) → IsSubmittedPage s p → is_among pages p ≡ false
free_elsewhere s pages p are some = among_counts p pages (are p ∙ rw (among_counts p s.host.free some.free) (grind arith))

-- the pages of a drafted or collected record
others_elsewhere : (s : State) (q cid p : ℕ) (r : Record) → record_at s.host q cid ≡ Some r → (is_drafted r.phase || is_collected r.phase) ≡ true → IsSubmittedPage s p → is_among (pages_of r) p ≡ false
others_elsewhere s q cid p r e away some = among_counts p (pages_of r) (some.others r (in_found _ s.host.records r e) away)

pub live_queue : (s : State) (q : ℕ) → in_state is_live s q ≡ true → (queue : HostQueue) → host_queue s q ≡ Some queue → is_live queue.state ≡ true
live_queue s q h queue e = sym (ap (λ (o : Option HostQueue). option_map_or (λ queue. is_live queue.state) o false) e) ∙ h

fetch_elsewhere : (q p : ℕ) (s : State) → Grounds s → IsSubmittedPage s p → Same (a.after_fetch q s).memory s p
fetch_elsewhere q p s g some =
    -- an entry that is fetched is one of a queue in service
    fetch_by (λ (t : State). Same t.memory s p) s q refl (λ e n c. completes_elsewhere q e.cid COMMAND_ID_CONFLICT 0 (a.taken_off q s) p (completes_there s g q p (λ queue at. grind arith) some))
    (λ e n c z. ap (λ (x : Pages). page_at x p) (kept_managed e (a.taken_off 0 s))) (λ e n c other. refl)

complete_elsewhere : (q cid p : ℕ) (s : State) → Grounds s → IsSubmittedPage s p → Same (a.after_complete q cid s).memory s p
complete_elsewhere q cid p s g some =
    let known : (j : Job) → job_at s q cid ≡ Some j → CompletesElsewhere s q p = λ j at. completes_there s g q p (completed_there s g q cid j at) some in
    complete_by (λ (t : State). Same t.memory s p) s q cid refl (λ j at c. completes_elsewhere q cid (a.final_status s j) j.dw0 (a.on_served_queue (named_queue j.entry) cleared (finished q cid j s)) p (known j at))
    (λ j at c. completes_elsewhere q cid (a.final_status s j) j.dw0 (finished q cid j s) p (known j at))

-- a page that nobody else has is as it was, whatever happens but a walk, and the collecting of its command
pub untouched_kept : (s : State) (e : Event) (reply : Reply) → Accepts s e reply → is_walk e ≡ false → Grounds s → (p : ℕ) → IsSubmittedPage s p
    → ((q cid : ℕ) (r : Record) → e ≡ events.Collect q cid → record_at s.host q cid ≡ Some r → is_among (pages_of r) p ≡ false) → page_at (a.after s e reply).memory p ≡ page_at s.memory p
untouched_kept s (events.Fetch q) (events.Fetched c touched) ok w g p some away = fetch_elsewhere q p s g some
untouched_kept s (events.Complete q cid) (events.Completed touched) ok w g p some away = complete_elsewhere q cid p s g some
untouched_kept s (events.Fetch q) reply ok w g p some away = absurd ok.1
untouched_kept s (events.Walk q cid) reply ok w g p some away = absurd (true≢false w)
untouched_kept s (events.Complete q cid) reply ok w g p some away = absurd ok.1
untouched_kept s e reply ok w g p some away =
    let below : (n slot : ℕ) → nat_le n slot ≡ false → slot < n = λ n slot h. grind (arith, nat_tests) in
    let ended : (q cid : ℕ) (r : Record) (pages : List (ℕ × List ℕ)) → record_at s.host q cid ≡ Some r → (is_drafted r.phase || is_collected r.phase) ≡ true → numbers_of pages ≡ pages_of r → Same (with_pages pages s.memory) s p = λ q cid r pages at away same.
    with-other pages s.memory p (ap (λ (xs : List ℕ). is_among xs p) same ∙ others_elsewhere s q cid p r at away some) in
    let sent : (adm : AdminKind) (id : ℕ) (s : State) → PostsElsewhere s 0 p → Same (sends adm id s).memory s p = λ adm id s known.
    posts_elsewhere 0 (admin_entry adm id) (a.on_records (λ records. records ++ sent_record adm id ∷ []) s) p known in
    -- a half that another queue gets leaves queue 0 as it is, and is made of free pages
    let posts_beside : (q : ℕ) (f : HostQueue → HostQueue) → (q == 0) ≡ false → (queue : HostQueue) → slice_get (change q f s.host.queues) 0 ≡ Some queue
    → (times p queue.sq_pages ≡ 0) × (length queue.sq_pages ≡ half_pages s.entries Submission) × (queue.ring.tail < s.entries) = λ q f other queue at.
    posts_live s g 0 p (zero_lives s g) some queue (sym (get_other q f s.host.queues 0 (eqb-false q 0 other)) ∙ at) in
    host_moves (λ (e : Event) (reply : Reply) (t : State). ((q cid : ℕ) (r : Record) → e ≡ events.Collect q cid → record_at s.host q cid ≡ Some r → is_among (pages_of r) p ≡ false) → Same t.memory s p) s e reply ok refl
    (record {
      reserves = λ q request d none is away.
          without_elsewhere (numbers_of d.data_pages ++ numbers_of d.chain_pages) s.memory p (free_elsewhere s (numbers_of d.data_pages ++ numbers_of d.chain_pages) p is.free some);
      submits = λ d entry r none built its live away.
          posts_elsewhere d.q entry (a.on_records (with_record d.q d.cid a.submitted) (a.on_memory (with_pages (d.data_pages ++ d.chain_pages)) s)) p (posts_live s g d.q p (live_queue s d.q live) some)
          ∙ ended d.q d.cid r (d.data_pages ++ d.chain_pages) its.found its.away its.pages;
      cancels = λ d r its away. ended d.q d.cid r (d.data_pages ++ d.chain_pages) its.found its.away its.pages;
      rings = λ q none away. refl;
      rests = λ q is away. refl;
      rejects = λ q why is away. refl;
      tells = λ q cid st what e r request t heard w away. refl;
      hears = λ q cid st what e r adm t heard w quiet unmade away. refl;
      notes = λ q cid st what e r k t heard w away. refl;
      frees = λ q cid st what e r k queue t heard w at retired good away. refl;
      makes_cq = λ q cid st what e r k n base vector t heard w good away. refl;
      unmakes_cq = λ q cid st what e r k n base vector queue t heard w at bad away. refl;
      makes_sq = λ q cid st what e r k n base t heard w good away. refl;
      unmakes_sq = λ q cid st what e r k n base queue t heard w at bad away. refl;
      collects = λ q cid r f at held is away. without_elsewhere (pages_of r) s.memory p (away q cid r refl at);
      releases = λ f r its away. ended f.q f.cid r (f.data_pages ++ f.chain_pages) its.found its.away its.pages;
      aborts = λ q cid id none new away. sent (Abort q cid) id s (posts_live s g 0 p (zero_lives s g) some);
      asks = λ q id queue none new live away. sent (DeleteSq q) id s (posts_live s g 0 p (zero_lives s g) some);
      drops = λ q id none new away. sent (DeleteCq q) id s (posts_live s g 0 p (zero_lives s g) some);
      creates_cqs = λ q vector id first queue none new granted away.
          sent (creates_cq q vector first s) id (grants_cq q first s) (posts_beside q (a.making_cq (half_from Completion first s)) granted.other)
          ∙ granted_elsewhere (half_from Completion first s) (run_times s.host.free (half_pages s.entries Completion) first granted.run);
      creates_sqs = λ q id first queue none new granted away.
          sent (creates_sq q first s) id (grants_sq q first s) (posts_beside q (a.making_sq (half_from Submission first s)) granted.other)
          ∙ granted_elsewhere (half_from Submission first s) (run_times s.host.free (half_pages s.entries Submission) first granted.run);
      retires = λ q queue none at deleted away. refl;
      forges = λ q slot bytes queue none at away.
          let fails = unrefused s (events.Forge q slot bytes) none in
          let k = completes_there s g q p (λ x ex. reaped_has_cq x.state (sym (ap (λ (o : Option HostQueue). option_map_or (λ queue. is_reaped queue.state) o false) ex) ∙ not-false _ fails.0)) some queue at in
          bytes_elsewhere s.memory (slot_page queue.cq_pages 16 slot) p (slot_offset 16 slot) bytes
          (index_counts queue.cq_pages (slot * 16 / 4096) p (subst (λ (n : ℕ). slot * 16 / 4096 < n) (sym k.1) (completion_inside s.entries slot (below s.entries slot fails.1.0))) k.0);
      resets = λ away.
          with-other (zeroed_pages (a.admin_pages s.host.queues)) s.memory p
          (ap (λ (ps : List ℕ). is_among ps p) (zeroed_numbers (a.admin_pages s.host.queues)) ∙ admin_elsewhere s.host.queues (λ queue e. some.queues 0 queue e));
    }) away
  where
    admin_elsewhere : (hs : List HostQueue) → ((queue : HostQueue) → slice_get hs 0 ≡ Some queue → in_queue p queue ≡ 0) → is_among (a.admin_pages hs) p ≡ false
    admin_elsewhere [] none = refl
    admin_elsewhere (x ∷ hs) none = among_counts p (a.halves_of x) (omega (arith, none x refl, times-append p x.sq_pages x.cq_pages))

    granted_elsewhere : (pages : List ℕ) → ((p : ℕ) → times p pages ≡ (if is_among pages p && is_among s.host.free p then 1 else 0)) → Same (with_pages (zeroed_pages pages) s.memory) s p
    granted_elsewhere pages are = with-other (zeroed_pages pages) s.memory p (ap (λ (ps : List ℕ). is_among ps p) (zeroed_numbers pages) ∙ free_elsewhere s pages p are some)

pub untouched : (s : State) (e : Event) (reply : Reply) → Accepts s e reply → is_walk e ≡ false → Grounds s → (p : ℕ) → 0 < total (sent_page p) s.host.records
    → page_at (a.after s e reply).memory p ≡ page_at s.memory p
untouched s e reply ok w g p some =
    -- so is a page of a submitted command
    untouched_kept s e reply ok w g p (record {
      free = not_free _ p s.host g.stands.0 some;
      queues = λ q queue e. omega (arith, owned_once _ p s.host g.stands.0, some, sent_less p s.host.records, in_at s.host.queues q queue e (in_queue p));
      others = λ r within away. not_others _ p s.host r g.stands.0 within (grind arith) some;
    })
    (λ q cid r is at. among_counts p (pages_of r) (not_others _ p s.host r g.stands.0 (in_found _ s.host.records r at) (grind arith) some))
