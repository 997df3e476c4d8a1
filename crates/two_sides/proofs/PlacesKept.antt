-- Places are kept from step to step.
use Rattle.machine_model.specs.After as a
use Rattle.machine_model.specs.Events as events
use Rattle.machine_model.specs.declared.words.Reaped.TheVariants as outcome
use Rattle.std.proofs.Common.{◌≡◌, ℕ, zero, ◌+◌, ◌-◌, ◌≤◌, ◌==◌, nat_lt, Bool, true, false, not, ◌&&◌, Option, Some, None, List, [], ◌∷◌, ◌++◌, map, filter, find, drop, slice_get, is_none, option_and_then, if◌then◌else◌, refl, ap, sym, ◌∙◌, arith, subst, eqb-true, inl, inr, suc, length, is_some, option_map, eq-eqb}
use Rattle.std.{proofs.lemmas.Bool.{true≢false, and_parts, eqb-false, cases_Bool}, specs.Option.option_map_or}
use Rattle.machine_model.proofs.{Counting.{total-append, total-map, total-filter, total_with, total_without}, HostLeaves.ids_of}
use Rattle.machine_model.proofs.Kept.{asked_serves, submissions_awaited}
use Rattle.machine_model.proofs.Moves.{seen_trusted, named, ReapTells, heard_of, completion_heard, host_moves, posts, sends, sent_record, drafted_record, heard_without, IsHeard, making_sq_is, half_from, grants_cq, grants_sq, creates_cq, creates_sq}
use Rattle.machine_model.proofs.{Owned.{awaited_at, was_awaited, awaited_is}, Sound.{still_live, asked_note}}
use Rattle.machine_model.proofs.{Steps.{managed_by, Accepts, part_controller, unrefused}, TokensKept.reset_places}
use Rattle.machine_model.specs.Agreeing.{CommandsStandOnce as Places, is_out_of_service_at as past_at, completions_at, unfetched_count, job_weight, is_absent_at as gone_at, is_known_deleted as is_over, on_queue}
use Rattle.machine_model.specs.{Events.{Event, Reply}, Memory.with_pages, Proper.IsProper}
use Rattle.machine_model.specs.Refusals.{served_queue, next_rung, job_at, front_completion, is_job, is_submitted, is_drafted, is_held, host_queue, refusal_of, seen_entry, entry_of, in_service, is_making_sq, creates_sq_of}
use Rattle.machine_model.specs.Standing.{unfetched_at}
use Rattle.machine_model.specs.State.{State, Controller, HostQueue, ServedQueue, Record, Job, PostedCompletion, record_at, with_record, without_record}
use Rattle.machine_model.specs.{Step.{HostPart, IsController, reaped}, Weights.{total, sent}, declared.words.HostState.TheVariants.{Live, Deleting}}
use Rattle.machine_model.specs.declared.words.{Phase.{Phase, TheVariants.Held}, Reaped.Reaped, Work.TheVariants.Management}
use Rattle.admin_commands.specs.{Entries.{named_queue, named_command, admin_entry}, Verdicts.is_live as is_running, declared.AdminKind.AdminKind}
use Rattle.admin_commands.specs.declared.{AdminKind.TheVariants.{Abort, DeleteSq, DeleteCq, CreateSq}, SqState.TheVariants.{Absent, Stopping}}
use Rattle.entry_codec.specs.{Status.is_success, declared.{completion.ComEntry.ComEntry, status.Status.Status}}
use Rattle.entry_codec.specs.declared.{status.TheConstants.Status.{COMMAND_ID_CONFLICT, ABORT_REQUESTED, ABORTED_SQ_DELETION}, submission.SubEntry.SubEntry}
use Rattle.io_commands.{proofs.Building.carries_entry, specs.{Drafts.{DraftContents, draft_entry, draft_first, entry_of as draft_entry_of}, Jobs.{io_fault, bytes_after_check}, Values.numbers_of}}
use Rattle.io_commands.specs.declared.request.Kind.{Kind, TheVariants.{Read, Write, Compare, WriteZeroes, Verify, Flush, Deallocate, Admin}}
use Rattle.sgl_descriptor.specs.Spelling.{spelling}
use Rattle.queue_pair.specs.{Members.change, Rings.{HostRing, next_tail, next_head, knowing}}
use Rattle.two_sides.proofs.ControllerMoves.{posts_completion, posted_completion, unit_done, finished, cleared, fetch_by, walk_by, complete_by}
use Rattle.two_sides.proofs.{Standing.{list_same, more_at, less_at, past_same, past_other, past_here}, Tied.{stopped_q, deleted_is_gone}}
use Rattle.two_sides.proofs.TiedAll.{Grounds, pair_at}
use Rattle.page_memory.specs.declared.page.Half.TheVariants.{Submission, Completion}
use Rattle.slot_table.proofs.Rows.{option_is}

-- Each event keeps the entries of a queue's commands in as many places as it has submitted commands.

-- Weights

abbrev entries_weigh : (ℕ → ℕ) → SubEntry → ℕ
entries_weigh w e = w e.cid

abbrev completions_weigh : (ℕ → ℕ) → PostedCompletion → ℕ
completions_weigh w an = w an.cid

-- where the queue counts, what is there counts more or less
count_more : (b : Bool) (n n' extra : ℕ) → n' ≤ n + extra → (if b then 0 else n') ≤ (if b then 0 else n) + extra
count_more b n n' extra h = grind arith

count_less : (b : Bool) (n n' less : ℕ) → (b ≡ true → less ≡ 0) → n' + less ≤ n → (if b then 0 else n') + less ≤ (if b then 0 else n)
count_less b n n' less none h = grind arith

-- Changes of the controller's part: what one queue's places count afterwards, for each of the host's states

abbrev load : ℕ → (ℕ → ℕ) → List HostQueue → List ServedQueue → List Job → ℕ
load q w hs qs js = unfetched_count q w hs qs + (total (job_weight q w) js + total (completions_weigh w) (completions_at qs q))

-- nothing comes to a place
abbrev pub Lessens : List HostQueue → List ServedQueue → List Job → List ServedQueue → List Job → Type 0
Lessens hs qs js qs' js' = (q : ℕ) (w : ℕ → ℕ) → load q w hs qs' js' ≤ load q w hs qs js

pub places_less : (hs : List HostQueue) (rs : List Record) (qs qs' : List ServedQueue) (js js' : List Job) → Lessens hs qs js qs' js' → Places hs rs qs js → Places hs rs qs' js'
places_less hs rs qs qs' js js' less h q w = omega (arith, less q w, h q w)

-- a queue's state changes, and what it has stays
pub lessens_state : (hs : List HostQueue) (qs : List ServedQueue) (js : List Job) (k : ℕ) (f : ServedQueue → ServedQueue) → ((at : ServedQueue) → (f at).unfetched ≡ at.unfetched) → ((at : ServedQueue) → (f at).completions ≡ at.completions)
    → Lessens hs qs js (change k f qs) js
lessens_state hs qs js k f un an q w =
    let u : unfetched_count q w hs (change k f qs) ≡ unfetched_count q w hs qs = ap (λ (xs : List SubEntry). if past_at hs q then 0 else total (entries_weigh w) xs) (list_same (λ at. at.unfetched) k f qs q un) in
    omega (arith, u, ap (total (completions_weigh w)) (list_same (λ at. at.completions) k f qs q an))

-- its entries or completions go
lessens_less : (hs : List HostQueue) (qs : List ServedQueue) (js : List Job) (k : ℕ) (f : ServedQueue → ServedQueue)
    → ((w : ℕ → ℕ) (at : ServedQueue) → total (entries_weigh w) (f at).unfetched ≤ total (entries_weigh w) at.unfetched) → ((w : ℕ → ℕ) (at : ServedQueue) → total (completions_weigh w) (f at).completions ≤ total (completions_weigh w) at.completions)
    → Lessens hs qs js (change k f qs) js
lessens_less hs qs js k f un an q w =
    let u = more_at (λ at. at.unfetched) (entries_weigh w) k f 0 qs q (λ at. omega (arith, un w at)) in
    let v = more_at (λ at. at.completions) (completions_weigh w) k f 0 qs q (λ at. omega (arith, an w at)) in
    let none : (if k == q then zero else zero) ≡ zero = grind arith in
    omega (arith, count_more (past_at hs q) (total (entries_weigh w) (unfetched_at qs q)) (total (entries_weigh w) (unfetched_at (change k f qs) q)) 0 (omega (arith, u, none)), v, none)

lessens_cleared : (hs : List HostQueue) (qs : List ServedQueue) (js : List Job) (k : ℕ) → Lessens hs qs js (change k (λ at. record at { state = Absent; unfetched = []; rung = 0 }) qs) js
lessens_cleared hs qs js k = lessens_less hs qs js k (λ at. record at { state = Absent; unfetched = []; rung = 0 }) (λ w at. omega arith) (λ w at. omega arith)

-- its oldest completion goes
dropped : {B : Type 0} (w : B → ℕ) (xs : List B) → total w (drop 1 xs) ≤ total w xs
dropped w e = grind arith

dropped_head : {B : Type 0} (w : B → ℕ) (first : List B → Option B) (xs : List B) (x : B) → (xs ≡ x ∷ drop 1 xs) → total w (drop 1 xs) + w x ≡ total w xs
dropped_head w first xs x e = sym (ap (total w) e ∙ (omega arith))

head_of : (xs : List PostedCompletion) (an : PostedCompletion) → front_completion xs ≡ Some an → xs ≡ an ∷ drop 1 xs
head_of xs an h = grind arith

pub lessens_jobs : (hs : List HostQueue) (qs : List ServedQueue) (js : List Job) (f : Job → Job) → ((j : Job) → (f j).q ≡ j.q) → ((j : Job) → (f j).entry ≡ j.entry) → Lessens hs qs js qs (map f js)
-- jobs that keep their queue and entry
lessens_jobs hs qs js f sq se q w = omega (arith, total-map (job_weight q w) f (λ j. rw (sq j, se j) refl) js)

pub lessens_both : (hs : List HostQueue) (qs qs' qs'' : List ServedQueue) (js js' js'' : List Job) → Lessens hs qs js qs' js' → Lessens hs qs' js' qs'' js'' → Lessens hs qs js qs'' js''
lessens_both hs qs qs' qs'' js js' js'' a b q w = omega (arith, a q w, b q w)

pub on_job_q : (q cid : ℕ) (f : Job → Job) → ((j : Job) → (f j).q ≡ j.q) → (j : Job) → (if (j.q == q) && (j.entry.cid == cid) then f j else j).q ≡ j.q
on_job_q q cid f same j = (elim ((j.q == q) && (j.entry.cid == cid)) as (λ b. (if b then f j else j).q ≡ j.q) [ true ↦ same j | false ↦ refl ])

pub on_job_entry : (q cid : ℕ) (f : Job → Job) → ((j : Job) → (f j).entry ≡ j.entry) → (j : Job) → (if (j.q == q) && (j.entry.cid == cid) then f j else j).entry ≡ j.entry
on_job_entry q cid f same j = (elim ((j.q == q) && (j.entry.cid == cid)) as (λ b. (if b then f j else j).entry ≡ j.entry) [ true ↦ same j | false ↦ refl ])

pub stopped_entry : (q : ℕ) (j : Job) → (a.stopped q j).entry ≡ j.entry
stopped_entry q j = (elim ((j.q == q) && is_none j.verdict) as (λ b. (if b then record j { verdict = Some ABORTED_SQ_DELETION } else j).entry ≡ j.entry) [ true ↦ refl | false ↦ refl ])

-- Fetching

-- the entry in hand
pub record InHand (s : State) (q : ℕ) (e : SubEntry) : Type 0 where
  pub queue : ServedQueue
  pub at : slice_get s.controller.queues q ≡ Some queue
  pub first : slice_get queue.unfetched 0 ≡ Some e
  pub runs : is_running queue.state ≡ true

pub in_hand : (s : State) (q : ℕ) (e : SubEntry) → next_rung s q ≡ Some e → InHand s q e
in_hand s q e h = elim (option_is (served_queue s q)) [
  | inl o ↦ let h = rw o at h in absurd cc
  | inr (queue, o) ↦ let h = rw o at h in at queue (nat_lt 0 queue.rung) (is_running queue.state) o refl h
]
  where
    at : (queue : ServedQueue) (b r : Bool) → served_queue s q ≡ Some queue → is_running queue.state ≡ r → (if r && b then slice_get queue.unfetched 0 else None) ≡ Some e → InHand s q e
    at queue true true o r h = record { queue = queue; at = o; first = h; runs = r }
    at queue false true o r h = absurd cc
    at queue b false o r h = absurd cc

pub first_is : (xs : List SubEntry) (e : SubEntry) → slice_get xs 0 ≡ Some e → xs ≡ e ∷ drop 1 xs
first_is xs e h = grind arith

taken_off_load : (hs : List HostQueue) (s : State) (q : ℕ) (e : SubEntry) → InHand s q e → past_at hs q ≡ false → (k : ℕ) (w : ℕ → ℕ)
    → load k w hs (change q (λ at. record at { unfetched = drop 1 at.unfetched; rung = at.rung - 1 }) s.controller.queues) s.controller.jobs + (if q == k then w e.cid else 0) ≤ load k w hs s.controller.queues s.controller.jobs
taken_off_load hs s q e hand past k w =
    let none : (b : Bool) → (q == k) ≡ b → past_at hs k ≡ true → (if b then w e.cid else 0) ≡ 0 = λ b z p. grind arith in
    let f : ServedQueue → ServedQueue = λ at. record at { unfetched = drop 1 at.unfetched; rung = at.rung - 1 } in
    let qs = s.controller.queues in
    let u = less_at (λ at. at.unfetched) (entries_weigh w) q f (w e.cid) qs k hand.queue hand.at (omega (arith, dropped_head (entries_weigh w) (λ xs. None) hand.queue.unfetched e (first_is hand.queue.unfetched e hand.first))) in
    let v : total (completions_weigh w) (completions_at (change q f qs) k) ≡ total (completions_weigh w) (completions_at qs k) = ap (total (completions_weigh w)) (list_same (λ at. at.completions) q f qs k (λ at. refl)) in
    omega (arith, v, count_less (past_at hs k) (total (entries_weigh w) (unfetched_at qs k)) (total (entries_weigh w) (unfetched_at (change q f qs) k)) (if q == k then w e.cid else 0) (none (q == k) refl) u)

-- one more completion
completed_load : (hs : List HostQueue) (qs : List ServedQueue) (js : List Job) (q : ℕ) (an : PostedCompletion) (k : ℕ) (w : ℕ → ℕ)
    → load k w hs (change q (λ at. record at { completions = at.completions ++ an ∷ [] }) qs) js ≤ load k w hs qs js + (if q == k then w an.cid else 0)
completed_load hs qs js q an k w =
    let f : ServedQueue → ServedQueue = λ at. record at { completions = at.completions ++ an ∷ [] } in
    let u : unfetched_count k w hs (change q f qs) ≡ unfetched_count k w hs qs = ap (λ (xs : List SubEntry). if past_at hs k then 0 else total (entries_weigh w) xs) (list_same (λ at. at.unfetched) q f qs k (λ at. refl)) in
    let v = more_at (λ at. at.completions) (completions_weigh w) q f (w an.cid) qs k (λ at. omega (arith, total-append (completions_weigh w) at.completions (an ∷ []))) in
    omega (arith, u, v)

-- one more job
job_load : (hs : List HostQueue) (qs : List ServedQueue) (js : List Job) (j : Job) (k : ℕ) (w : ℕ → ℕ)
    → load k w hs qs (js ++ j ∷ []) ≡ load k w hs qs js + (if j.q == k then w j.entry.cid else 0)
job_load hs qs js j k w = omega (arith, total-append (job_weight k w) js (j ∷ []))

-- what a fetch leaves of the controller's part lessens what is there, the entry in hand among it
abbrev Fetches : List HostQueue → State → ℕ → SubEntry → Controller → Type 0
Fetches hs s q e d = (k : ℕ) (w : ℕ → ℕ) → load k w hs d.queues d.jobs ≤ load k w hs (a.taken_off q s).controller.queues s.controller.jobs + (if q == k then w e.cid else 0)

fetches_decided : (hs : List HostQueue) (s t : State) (q : ℕ) (e : SubEntry) (st : Status) (dw0 : ℕ) → q ≡ 0 → Lessens hs (a.taken_off q s).controller.queues s.controller.jobs t.controller.queues t.controller.jobs → Fetches hs s q e (a.decided e st dw0 t).controller
fetches_decided hs s t q e st dw0 zero' less k w =
    omega (arith, less k w, job_load hs t.controller.queues t.controller.jobs (a.new_job 0 e (Some st) dw0 []) k w, ap (λ (n : ℕ). if n == k then w e.cid else 0) zero')

fetches_managed : (hs : List HostQueue) (s : State) (e : SubEntry) → Fetches hs s 0 e (a.managed e (a.taken_off 0 s)).controller
fetches_managed hs s e =
    let s0 : State = a.taken_off 0 s in
    let qs : List ServedQueue = (a.taken_off 0 s).controller.queues in
    let nothing : Lessens hs (a.taken_off 0 s).controller.queues s.controller.jobs (a.taken_off 0 s).controller.queues s.controller.jobs = λ k w. omega arith in
    managed_by (λ (t : State). Fetches hs s 0 e t.controller) e s0
    (record {
      refuses = λ st bad. decided s0 nothing st 0;
      aborts = λ is8 walks. decided (a.on_job (named_queue e) (named_command e) (λ j. record j { verdict = Some ABORT_REQUESTED; waiting_abort = Some e.cid }) s0)
          (lessens_jobs hs qs s.controller.jobs (λ j. if (j.q == named_queue e) && (j.entry.cid == named_command e) then record j { verdict = Some ABORT_REQUESTED; waiting_abort = Some e.cid } else j)
          (on_job_q (named_queue e) (named_command e) (λ j. record j { verdict = Some ABORT_REQUESTED; waiting_abort = Some e.cid }) (λ j. refl))
          (on_job_entry (named_queue e) (named_command e) (λ j. record j { verdict = Some ABORT_REQUESTED; waiting_abort = Some e.cid }) (λ j. refl))) _ 0;
      is_late = λ is8. decided s0 nothing _ 1;
      stops = λ is0 q0 runs. decided (a.on_controller (λ d. record d { jobs = map (a.stopped (named_queue e)) d.jobs }) (a.on_served_queue (named_queue e) (λ at. record at { state = Stopping }) s0))
          (lessens_both hs qs (change (named_queue e) (λ at. record at { state = Stopping }) qs) (change (named_queue e) (λ at. record at { state = Stopping }) qs) s.controller.jobs s.controller.jobs (map (a.stopped (named_queue e)) s.controller.jobs)
          (lessens_state hs qs s.controller.jobs (named_queue e) (λ at. record at { state = Stopping }) (λ at. refl) (λ at. refl))
          (lessens_jobs hs (change (named_queue e) (λ at. record at { state = Stopping }) qs) s.controller.jobs (a.stopped (named_queue e)) (stopped_q (named_queue e)) (stopped_entry (named_queue e)))) _ 0;
      drops = λ is4 q0 there gone. decided (a.on_served_queue (named_queue e) a.dropped s0) (lessens_less hs qs s.controller.jobs (named_queue e) a.dropped (λ w at. omega arith) (λ w at. omega arith)) _ 0;
      makes_completion = λ is5 q0 gone.
          decided (a.on_served_queue (named_queue e) a.completion_made s0) (lessens_less hs qs s.controller.jobs (named_queue e) a.completion_made (λ w at. omega arith) (λ w at. omega arith)) _ 0;
      makes_submission = λ is1 q0 gone there.
          decided (a.on_served_queue (named_queue e) a.submission_made s0) (lessens_less hs qs s.controller.jobs (named_queue e) a.submission_made (λ w at. omega arith) (λ w at. omega arith)) _ 0;
    })
  where
    decided : (t : State) → Lessens hs (a.taken_off 0 s).controller.queues s.controller.jobs t.controller.queues t.controller.jobs → (st : Status) (dw0 : ℕ) → Fetches hs s 0 e (a.decided e st dw0 t).controller
    decided t less st dw0 = fetches_decided hs s t 0 e st dw0 refl less

pub lessens_fetch : (hs : List HostQueue) (s : State) (q : ℕ) → ((e : SubEntry) → InHand s q e → past_at hs q ≡ false) → Lessens hs s.controller.queues s.controller.jobs (a.after_fetch q s).controller.queues (a.after_fetch q s).controller.jobs
lessens_fetch hs s q past k w =
    let off : (e : SubEntry) → next_rung s q ≡ Some e
    → load k w hs (change q (λ at. record at { unfetched = drop 1 at.unfetched; rung = at.rung - 1 }) s.controller.queues) s.controller.jobs + (if q == k then w e.cid else 0) ≤ load k w hs s.controller.queues s.controller.jobs = λ e n.
    taken_off_load hs s q e (in_hand s q e n) (past e (in_hand s q e n)) k w in
    fetch_by (λ (t : State). load k w hs t.controller.queues t.controller.jobs ≤ load k w hs s.controller.queues s.controller.jobs) s q (omega arith)
    (λ e n c. omega (arith, off e n, completed_load hs (a.taken_off q s).controller.queues s.controller.jobs q (posted_completion q e.cid COMMAND_ID_CONFLICT 0 (a.taken_off q s)) k w))
    (λ e n c z. let off' = subst (λ (n : ℕ). load k w hs (change n (λ at. record at { unfetched = drop 1 at.unfetched; rung = at.rung - 1 }) s.controller.queues) s.controller.jobs + (if n == k then w e.cid else 0) ≤ load k w hs s.controller.queues s.controller.jobs) z (off e n) in
    omega (arith, off', fetches_managed hs s e k w))
    (λ e n c other. let t = a.taken_off q s in
    omega (arith, off e n, job_load hs t.controller.queues t.controller.jobs (a.new_job q e (io_fault (a.image_blocks t) e) 0 (bytes_after_check t.controller.image e (io_fault (a.image_blocks t) e))) k w))

pub lessens_walk : (hs : List HostQueue) (q cid : ℕ) (s : State) → Lessens hs s.controller.queues s.controller.jobs (a.after_walk q cid s).controller.queues (a.after_walk q cid s).controller.jobs
lessens_walk hs q cid s =
    walk_by (λ (t : State). Lessens hs s.controller.queues s.controller.jobs t.controller.queues t.controller.jobs) s q cid (λ k w. omega arith)
    (λ j act at u. lessens_jobs hs s.controller.queues s.controller.jobs (λ k. if (k.q == q) && (k.entry.cid == cid) then unit_done s j act k else k) (on_job_q q cid (unit_done s j act) (λ k. refl)) (on_job_entry q cid (unit_done s j act) (λ k. refl)))

-- Completing

-- one job less
job_less : (k : ℕ) (w : ℕ → ℕ) (q cid : ℕ) (js : List Job) (j : Job) → find (is_job q cid) js ≡ Some j
    → total (job_weight k w) (filter (λ x. not (is_job q cid x)) js) + (if q == k then w cid else 0) ≤ total (job_weight k w) js
job_less k w q cid [] j e = absurd cc
job_less k w q cid (x ∷ js) j e = by_match (is_job q cid x) refl e (job_less k w q cid js j)
  where
    by_match : (b : Bool) → is_job q cid x ≡ b → (if b then Some x else find (is_job q cid) js) ≡ Some j
        → (find (is_job q cid) js ≡ Some j → total (job_weight k w) (filter (λ x. not (is_job q cid x)) js) + (if q == k then w cid else 0) ≤ total (job_weight k w) js)
        → total (job_weight k w) (if not b then x ∷ filter (λ x. not (is_job q cid x)) js else filter (λ x. not (is_job q cid x)) js) + (if q == k then w cid else 0) ≤ job_weight k w x + total (job_weight k w) js
    by_match true t e ih =
        let at = and_parts (x.q == q) (x.entry.cid == cid) t in
        let mine : job_weight k w x ≡ (if q == k then w cid else 0) = rw (eqb-true x.q q at.0, eqb-true x.entry.cid cid at.1) refl in
        omega (arith, mine, total-filter (job_weight k w) (λ x. not (is_job q cid x)) js)
    by_match false t e ih = omega (arith, ih e)

pub lessens_complete : (hs : List HostQueue) (q cid : ℕ) (s : State) → Lessens hs s.controller.queues s.controller.jobs (a.after_complete q cid s).controller.queues (a.after_complete q cid s).controller.jobs
lessens_complete hs q cid s k w =
    complete_by (λ (t : State). load k w hs t.controller.queues t.controller.jobs ≤ load k w hs s.controller.queues s.controller.jobs) s q cid (omega arith)
    (λ j at c. completed (a.on_served_queue (named_queue j.entry) cleared (finished q cid j s)) j at (lessens_cleared hs s.controller.queues (finished q cid j s).controller.jobs (named_queue j.entry) k w))
    (λ j at c. completed (finished q cid j s) j at (omega arith))
  where
    completed : (t : State) (j : Job) → job_at s q cid ≡ Some j → load k w hs t.controller.queues t.controller.jobs ≤ load k w hs s.controller.queues (filter (λ x. not (is_job q cid x)) s.controller.jobs)
        → load k w hs (posts_completion q cid (a.final_status s j) j.dw0 t).controller.queues (posts_completion q cid (a.final_status s j) j.dw0 t).controller.jobs ≤ load k w hs s.controller.queues s.controller.jobs
    completed t j at less = omega (arith, completed_load hs t.controller.queues t.controller.jobs q (posted_completion q cid (a.final_status s j) j.dw0 t) k w, less, job_less k w q cid s.controller.jobs j at)

-- What the host does

-- an entry after the others of a queue
pub posted_load : (hs : List HostQueue) (qs : List ServedQueue) (js : List Job) (q : ℕ) (entry : SubEntry) (k : ℕ) (w : ℕ → ℕ)
    → load k w hs (change q (λ at. record at { unfetched = at.unfetched ++ entry ∷ [] }) qs) js ≤ load k w hs qs js + (if q == k then w entry.cid else 0)
posted_load hs qs js q entry k w =
    let f : ServedQueue → ServedQueue = λ at. record at { unfetched = at.unfetched ++ entry ∷ [] } in
    let u = more_at (λ at. at.unfetched) (entries_weigh w) q f (w entry.cid) qs k (λ at. omega (arith, total-append (entries_weigh w) at.unfetched (entry ∷ []))) in
    let v : total (completions_weigh w) (completions_at (change q f qs) k) ≡ total (completions_weigh w) (completions_at qs k) = ap (total (completions_weigh w)) (list_same (λ at. at.completions) q f qs k (λ at. refl)) in
    omega (arith, v, count_more (past_at hs k) (total (entries_weigh w) (unfetched_at qs k)) (total (entries_weigh w) (unfetched_at (change q f qs) k)) (if q == k then w entry.cid else 0) u)

-- the oldest completion of a queue goes
pub reaped_load : (hs : List HostQueue) (qs : List ServedQueue) (js : List Job) (q : ℕ) (k : ℕ) (w : ℕ → ℕ) → load k w hs (change q (λ at. record at { completions = drop 1 at.completions }) qs) js ≤ load k w hs qs js
reaped_load hs qs js q k w =
    let f : ServedQueue → ServedQueue = λ at. record at { completions = drop 1 at.completions } in
    let u : unfetched_count k w hs (change q f qs) ≡ unfetched_count k w hs qs = ap (λ (xs : List SubEntry). if past_at hs k then 0 else total (entries_weigh w) xs) (list_same (λ at. at.unfetched) q f qs k (λ at. refl)) in
    let v = more_at (λ at. at.completions) (completions_weigh w) q f 0 qs k (λ at. omega (arith, dropped (completions_weigh w) at.completions)) in
    omega (arith, u, v, let nothing : (if (q == k) then 0 else 0) ≡ zero = grind arith in nothing)

-- and it was this one
pub heard_load : (hs : List HostQueue) (qs : List ServedQueue) (js : List Job) (q : ℕ) (an : PostedCompletion) → option_and_then (λ (queue : ServedQueue). front_completion queue.completions) (slice_get qs q) ≡ Some an → (k : ℕ) (w : ℕ → ℕ)
    → load k w hs (change q (λ at. record at { completions = drop 1 at.completions }) qs) js + (if q == k then w an.cid else 0) ≤ load k w hs qs js
heard_load hs qs js q an h k w = elim (option_is (slice_get qs q)) [
  | inl e ↦ let h = rw e at h in absurd cc
  | inr (queue, e) ↦
      let h = rw e at h in
      let u : unfetched_count k w hs (change q (λ at. record at { completions = drop 1 at.completions }) qs) ≡ unfetched_count k w hs qs =
      ap (λ (xs : List SubEntry). if past_at hs k then 0 else total (entries_weigh w) xs) (list_same (λ at. at.unfetched) q (λ at. record at { completions = drop 1 at.completions }) qs k (λ at. refl)) in
      let v = less_at (λ at. at.completions) (completions_weigh w) q (λ at. record at { completions = drop 1 at.completions }) (w an.cid) qs k queue e (omega (arith, dropped_head (completions_weigh w) front_completion queue.completions an (head_of queue.completions an h))) in
      omega (arith, u, v)
]

-- Queues of the host that are no more retired than before
pub retired_count : (b b' : Bool) (n : ℕ) → (b ≡ true → b' ≡ true) → (if b' then 0 else n) ≤ (if b then 0 else n)
retired_count b b' n h = grind arith

pub places_hosts : (hs hs' : List HostQueue) (rs : List Record) (qs : List ServedQueue) (js : List Job) → ((q : ℕ) → past_at hs q ≡ true → past_at hs' q ≡ true) → Places hs rs qs js → Places hs' rs qs js
places_hosts hs hs' rs qs js past h q w = omega (arith, h q w, retired_count (past_at hs q) (past_at hs' q) (total (entries_weigh w) (unfetched_at qs q)) (past q))

-- Every event keeps an entry of a submitted command in one place at most.

abbrev pub PlacesIn : State → Type 0
PlacesIn s = Places s.host.queues s.host.records s.controller.queues s.controller.jobs

-- What a record counts

pub sent_not : (q : ℕ) (w : ℕ → ℕ) (r : Record) → is_submitted r.phase ≡ false → sent q w r ≡ 0
sent_not q w r far = rw far (grind arith)

pub sent_is : (q cid k : ℕ) (w : ℕ → ℕ) (r : Record) → r.q ≡ q → r.cid ≡ cid → is_submitted r.phase ≡ true → sent k w r ≡ (if q == k then w cid else 0)
sent_is q cid k w r rq rc sub = rw (rq, rc, sub) (grind arith)

-- Host events

-- an entry is posted, and a submitted command comes with it
places_posted : (q : ℕ) (entry : SubEntry) (s : State) (rs : List Record) → ((k : ℕ) (w : ℕ → ℕ) → total (sent k w) rs + (if q == k then w entry.cid else 0) ≤ total (sent k w) s.host.records)
    → Places s.host.queues rs s.controller.queues s.controller.jobs → PlacesIn (posts q entry s)
places_posted q entry s rs more h =
    places_hosts s.host.queues (change q (λ x. record x { ring = next_tail s.entries x.ring }) s.host.queues) s.host.records (change q (λ at. record at { unfetched = at.unfetched ++ entry ∷ [] }) s.controller.queues) s.controller.jobs
    (λ k p. (past_same q (λ x. record x { ring = next_tail s.entries x.ring }) s.host.queues k (λ x e. refl)) ∙ p)
    (λ k w. omega (arith, posted_load s.host.queues s.controller.queues s.controller.jobs q entry k w, h k w, more k w))

places_sent : (adm : AdminKind) (id : ℕ) (s : State) → PlacesIn s → PlacesIn (sends adm id s)
places_sent adm id s h =
    places_posted 0 (admin_entry adm id) (a.on_records (λ records. records ++ sent_record adm id ∷ []) s) s.host.records
    (λ k w.
    let mine : sent k w (sent_record adm id) ≡ (if 0 == k then w id else 0) = sent_is 0 id k w (sent_record adm id) refl refl refl in
    let same : (if 0 == k then w (admin_entry adm id).cid else 0) ≡ (if 0 == k then w id else 0) = ap (λ (c : ℕ). if 0 == k then w c else 0) (grind arith) in
    omega (arith, total-append (sent k w) s.host.records (sent_record adm id ∷ []), mine, same)) h

pub drafted_not : (ph : Phase) → is_drafted ph ≡ true → is_submitted ph ≡ false
drafted_not ph e = grind arith

pub held_not : (ph : Phase) → is_held ph ≡ true → is_submitted ph ≡ false
held_not ph e = grind arith

-- Reaping

-- the completion that is reaped
pub reaped_completion : (s : State) (q cid : ℕ) → s.trusted ≡ true → named (reaped s q) ≡ Some cid
    → (an : PostedCompletion) × (option_and_then (λ queue. front_completion queue.completions) (served_queue s q) ≡ Some an) × (an.cid ≡ cid) × (seen_entry s q ≡ Some (entry_of q an))
reaped_completion s q cid t h = by_outcome (reaped s q) refl h
  where
    of : (st : Status) (what : Reaped) → ReapTells s q cid st what → (an : PostedCompletion) × (option_and_then (λ queue. front_completion queue.completions) (served_queue s q) ≡ Some an) × (an.cid ≡ cid) × (seen_entry s q ≡ Some (entry_of q an))
    of st what tells = let x = heard_of s q cid st what tells in let an = completion_heard s q cid st x.0 x.1 t x.2 in (an.completion, an.first, an.its_id, x.2.seen ∙ ap Some an.is)

    by_outcome : (what : Reaped) → reaped s q ≡ what → named what ≡ Some cid → (an : PostedCompletion) × (option_and_then (λ queue. front_completion queue.completions) (served_queue s q) ≡ Some an) × (an.cid ≡ cid) × (seen_entry s q ≡ Some (entry_of q an))
    by_outcome (outcome.Done c st) is n = of st (outcome.Done c st) (record { is = sym is; names = n; status = refl })
    by_outcome (outcome.AdminDone c st dw0) is n = of st (outcome.AdminDone c st dw0) (record { is = sym is; names = n; status = refl })
    by_outcome x is n = absurd cc

consumed_past : (q : ℕ) (g : HostRing → HostRing) (hs : List HostQueue) (k : ℕ) → past_at hs k ≡ true → past_at (change q (λ x. record x { ring = g x.ring }) hs) k ≡ true
consumed_past q g hs k p = past_same q (λ x. record x { ring = g x.ring }) hs k (λ x e. refl) ∙ p

-- a queue of the host goes out of service, or stays so
out_past : (k : ℕ) (f : HostQueue → HostQueue) (hs : List HostQueue) (n : ℕ) → ((x : HostQueue) → in_service (f x).state ≡ false) → past_at hs n ≡ true → past_at (change k f hs) n ≡ true
out_past zero f (x ∷ hs) zero out p = ap not (out x)
out_past (suc k) f (x ∷ hs) (suc n) out p = out_past k f hs n out p
out_past k f x n out p = p

places_out : (k : ℕ) (f : HostQueue → HostQueue) (s : State) → ((x : HostQueue) → in_service (f x).state ≡ false) → PlacesIn s → Places (change k f s.host.queues) s.host.records s.controller.queues s.controller.jobs
places_out k f s out h = places_hosts s.host.queues (change k f s.host.queues) s.host.records s.controller.queues s.controller.jobs (λ n p. out_past k f s.host.queues n out p) h

-- one comes into service that has no entry
places_opens : (k : ℕ) (f : HostQueue → HostQueue) (s : State) → unfetched_at s.controller.queues k ≡ [] → PlacesIn s → Places (change k f s.host.queues) s.host.records s.controller.queues s.controller.jobs
places_opens k f s none h q w =
    let nothing : (b : Bool) (xs : List SubEntry) → xs ≡ [] → (if b then 0 else total (λ (e : SubEntry). w e.cid) xs) ≡ 0 = λ b xs e. grind arith in
    elim (cases_Bool (k == q)) [
      | inl is ↦ omega (arith, h q w, nothing (past_at (change k f s.host.queues) q) (unfetched_at s.controller.queues q) (subst (λ (z : ℕ). unfetched_at s.controller.queues z ≡ []) (eqb-true k q is) none))
      | inr is ↦ omega (arith, h q w, ap (λ (b : Bool). if b then 0 else total (λ (e : SubEntry). w e.cid) (unfetched_at s.controller.queues q)) (past_other k f s.host.queues q (eqb-false k q is)))
    ]

-- the completion is gone, and so is the submitted command
places_heard : (q cid : ℕ) (st : Status) (e : ComEntry) (r : Record) (s : State) (rs : List Record) → s.trusted ≡ true → IsHeard s q cid st e r
    → ((k : ℕ) (w : ℕ → ℕ) → total (sent k w) s.host.records ≤ total (sent k w) rs + sent k w r) → PlacesIn s
    → Places (a.heard q e s).host.queues rs (change q (λ at. record at { completions = drop 1 at.completions }) s.controller.queues) s.controller.jobs
places_heard q cid st e r s rs t heard fewer h =
    let an = completion_heard s q cid st e r t heard in
    let ids = ids_of s q cid r heard.found in
    let hs1 = change q (λ x. record x { ring = next_head s.entries x.ring }) s.host.queues in
    places_hosts hs1 (change q (λ x. record x { ring = knowing e.sqhd x.ring }) hs1) rs (change q (λ at. record at { completions = drop 1 at.completions }) s.controller.queues) s.controller.jobs (consumed_past q (knowing e.sqhd) hs1)
    (places_hosts s.host.queues hs1 rs (change q (λ at. record at { completions = drop 1 at.completions }) s.controller.queues) s.controller.jobs (consumed_past q (next_head s.entries) s.host.queues)
    (λ k w. omega (
      arith,
      heard_load s.host.queues s.controller.queues s.controller.jobs q an.completion an.first k w,
      ap (λ (c : ℕ). if q == k then w c else 0) an.its_id,
      h k w,
      fewer k w,
      sent_is q cid k w r ids.0 ids.1 heard.submitted,
    )))

places_rejected : (q : ℕ) (s : State) → PlacesIn s → PlacesIn (a.consumed q s)
places_rejected q s h =
    places_hosts s.host.queues (change q (λ x. record x { ring = next_head s.entries x.ring }) s.host.queues) s.host.records (change q (λ at. record at { completions = drop 1 at.completions }) s.controller.queues) s.controller.jobs
    (consumed_past q (next_head s.entries) s.host.queues)
    (λ k w. omega (arith, reaped_load s.host.queues s.controller.queues s.controller.jobs q k w, h k w))

-- Retiring

no_jobs : (q : ℕ) (w : ℕ → ℕ) (js : List Job) → total (on_queue q) js ≡ 0 → total (job_weight q w) js ≡ 0
no_jobs q w [] none = refl
no_jobs q w (j ∷ js) none = grind (arith, no_jobs q w js)

places_retire : (q : ℕ) (queue : HostQueue) (s : State) → s.trusted ≡ true → refusal_of s (events.Retire q) ≡ None → host_queue s q ≡ Some queue → queue.state ≡ Deleting true → Grounds s → PlacesIn s
    → Places (change q a.retired s.host.queues) (map (a.lost q) s.host.records) s.controller.queues s.controller.jobs
places_retire q queue s t none e deleted g h = λ k w. elim (cases_Bool (q == k)) [
  | inl same ↦
      let here' : q ≡ k = eqb-true q k same in
      let past : past_at (change q a.retired s.host.queues) k ≡ true = subst (λ (n : ℕ). past_at (change q a.retired s.host.queues) n ≡ true) here' (past_here q a.retired s.host.queues (λ x. refl) queue e) in
      let none_un : unfetched_count k w (change q a.retired s.host.queues) s.controller.queues ≡ 0 = ap (λ (b : Bool). if b then 0 else total (λ (e : SubEntry). w e.cid) (unfetched_at s.controller.queues k)) past in
      let none_jobs : total (job_weight k w) s.controller.jobs ≡ 0 = no_jobs k w s.controller.jobs (subst (λ (n : ℕ). total (on_queue n) s.controller.jobs ≡ 0) here' jobless) in
      omega (arith, none_un, none_jobs, ap (total (λ (an : PostedCompletion). w an.cid)) (subst (λ (n : ℕ). completions_at s.controller.queues n ≡ []) here' no_completions))
  | inr far ↦
      let past : past_at (change q a.retired s.host.queues) k ≡ past_at s.host.queues k = past_other q a.retired s.host.queues k (eqb-false q k far) in
      omega (arith, ap (λ (b : Bool). if b then 0 else total (λ (e : SubEntry). w e.cid) (unfetched_at s.controller.queues k)) past, h k w, same_sent k w far)
]
  where
    no_completions : completions_at s.controller.queues q ≡ []
    no_completions = at (served_queue s q) (subst (λ (o : Option ComEntry). is_some o ≡ false) (seen_trusted s q t) (unrefused s (events.Retire q) none).1.0)
      where
        empty : (xs : List PostedCompletion) → is_some (option_map (entry_of q) (front_completion xs)) ≡ false → xs ≡ []
        empty [] e = refl
        empty (x ∷ xs) e = absurd (true≢false e)

        at : (o : Option ServedQueue) → is_some (option_map (entry_of q) (option_and_then (λ queue. front_completion queue.completions) o)) ≡ false → option_map_or (λ at. at.completions) o [] ≡ []
        at None e = refl
        at (Some queue) e = empty queue.completions e

    -- no job of the queue is left
    jobless : total (on_queue q) s.controller.jobs ≡ 0
    jobless = count (total (on_queue q) s.controller.jobs) refl (deleted_is_gone s g.fit q queue e (ap is_over deleted))
      where
        count : (n : ℕ) → total (on_queue q) s.controller.jobs ≡ n → gone_at s.controller.queues q ≡ true → n ≡ 0
        count zero e gone = refl
        count (suc n) e gone = absurd (true≢false (sym gone ∙ g.fit.jobs q (omega (arith, e))))

    same_sent : (k : ℕ) (w : ℕ → ℕ) → (q == k) ≡ false → total (sent k w) (map (a.lost q) s.host.records) ≡ total (sent k w) s.host.records
    same_sent k w far = total-map (sent k w) (a.lost q) (λ r. each r ((r.q == q) && is_submitted r.phase) refl) s.host.records
      where
        each : (r : Record) (b : Bool) → ((r.q == q) && is_submitted r.phase) ≡ b → sent k w (if b then a.aborted r else r) ≡ sent k w r
        each r true e =
            let elsewhere : (r.q == k) ≡ false = ap (λ (n : ℕ). n == k) (eqb-true r.q q (and_parts (r.q == q) (is_submitted r.phase) e).0) ∙ far in
            sent_not k w (a.aborted r) refl ∙ sym (ap (λ (b : Bool). if b && is_submitted r.phase then w r.cid else 0) elsewhere)
        each r false e = refl

-- Every event

pub running_not_past : (s : State) → Grounds s → (q : ℕ) (e : SubEntry) → InHand s q e → past_at s.host.queues q ≡ false
running_not_past s g q e hand = elim (option_is (slice_get s.host.queues q)) [
  | inl o ↦ rw o refl
  | inr (queue, o) ↦ rw o (ap not (serves queue o (in_service queue.state) refl))
]
  where
    has : (un : List SubEntry) → slice_get un 0 ≡ Some e → un ≡ [] → ⊥
    has un first none = let no : ◌≡◌ {A = Option SubEntry} None (Some e) = sym (ap (λ (xs : List SubEntry). slice_get xs 0) none) ∙ first in absurd cc

    serves : (queue : HostQueue) → slice_get s.host.queues q ≡ Some queue → (b : Bool) → in_service queue.state ≡ b → in_service queue.state ≡ true
    serves queue o true is = is
    serves queue o false is =
        let pair = pair_at s g q queue o in
        let same : pair.0 ≡ hand.queue = cc (pair.1, hand.at) in
        absurd (has hand.queue.unfetched hand.first (ap (λ (d : ServedQueue). d.unfetched) (sym same) ∙ pair.2.unfetched is))

by_controller : (s : State) (e : Event) (reply : Reply) → IsController e ≡ true → Lessens s.host.queues s.controller.queues s.controller.jobs (a.after s e reply).controller.queues (a.after s e reply).controller.jobs → PlacesIn s → PlacesIn (a.after s e reply)
by_controller s e reply c less h =
    subst (λ (part : HostPart). Places part.host.queues part.host.records (a.after s e reply).controller.queues (a.after s e reply).controller.jobs) (sym (part_controller s e reply c))
    (places_less s.host.queues s.host.records s.controller.queues (a.after s e reply).controller.queues s.controller.jobs (a.after s e reply).controller.jobs less h)

-- a draft's entry has its identifier
pub entry_cid : (d : DraftContents) → (draft_entry d).cid ≡ d.cid
entry_cid d = by_kind d.request.kind
  where
    by_kind : (kind : Kind) → (draft_entry_of kind d.cid d.request (spelling (draft_first d)) (numbers_of d.data_pages)).cid ≡ d.cid
    by_kind Read = refl
    by_kind Write = refl
    by_kind Compare = refl
    by_kind WriteZeroes = refl
    by_kind Verify = refl
    by_kind Flush = refl
    by_kind Deallocate = refl
    by_kind (Admin command) = refl

places_host : (s : State) (e : Event) (reply : Reply) → IsProper e → Accepts s e reply → IsController e ≡ false → s.trusted ≡ true → Grounds s → PlacesIn s → PlacesIn (a.after s e reply)
places_host s e reply pr ok c t g h =
    let same_places : (rs : List Record) → ((k : ℕ) (w : ℕ → ℕ) → total (sent k w) s.host.records ≤ total (sent k w) rs) → Places s.host.queues rs s.controller.queues s.controller.jobs = λ rs more.
    (λ q w. omega (arith, h q w, more q w)) in
    let ended : (q cid : ℕ) (r : Record) → record_at s.host q cid ≡ Some r → is_submitted r.phase ≡ false → Places s.host.queues (without_record q cid s.host.records) s.controller.queues s.controller.jobs = λ q cid r at quiet.
    same_places (without_record q cid s.host.records) (λ k w. omega (arith, total_without (sent k w) q cid s.host.records r at (g.stands.0.once q cid), sent_not k w r quiet)) in
    let without : (q cid : ℕ) (st : Status) (e : ComEntry) (r : Record) → IsHeard s q cid st e r → PlacesIn (heard_without q cid e s) = λ q cid st e r heard.
    places_heard q cid st e r s (without_record q cid s.host.records) t heard (λ k v. omega (arith, total_without (sent k v) q cid s.host.records r heard.found (g.stands.0.once q cid))) h in
    host_moves (λ (e : Event) (reply : Reply) (t : State). IsProper e → PlacesIn t) s e reply ok c
    (record {
      reserves = λ q request d none is pr. same_places (s.host.records ++ drafted_record d ∷ []) (λ k w. omega (arith, total-append (sent k w) s.host.records (drafted_record d ∷ [])));
      submits = λ d entry r none built its live pr.
          let ids = ids_of s d.q d.cid r its.found in
          places_posted d.q entry (a.on_records (with_record d.q d.cid a.submitted) (a.on_memory (with_pages (d.data_pages ++ d.chain_pages)) s)) s.host.records
          (λ k w. omega (
            arith,
            total_with (sent k w) d.q d.cid a.submitted s.host.records r its.found (g.stands.0.once d.q d.cid),
            sent_not k w r its.quiet,
            sent_is d.q d.cid k w (a.submitted r) ids.0 ids.1 refl,
            ap (λ (c : ℕ). if d.q == k then w c else 0) (ap (λ (x : SubEntry). x.cid) (carries_entry d entry pr.draft built) ∙ entry_cid d),
          )) h;
      cancels = λ d r its pr. ended d.q d.cid r its.found its.quiet;
      rings = λ q none pr.
          places_less s.host.queues s.host.records s.controller.queues (change q (λ at. record at { rung = length at.unfetched }) s.controller.queues) s.controller.jobs s.controller.jobs
          (lessens_state s.host.queues s.controller.queues s.controller.jobs q (λ at. record at { rung = length at.unfetched }) (λ at. refl) (λ at. refl)) h;
      rests = λ q is pr. h;
      rejects = λ q why is pr. places_rejected q s h;
      tells = λ q cid st what e r request told heard w pr.
          places_heard q cid st e r s (with_record q cid (a.held st e.hints) s.host.records) t heard
          (λ k v. omega (arith, total_with (sent k v) q cid (a.held st e.hints) s.host.records r heard.found (g.stands.0.once q cid), sent_not k v (a.held st e.hints r) refl)) h;
      hears = λ q cid st what e r adm told heard w quiet unmade pr. without q cid st e r heard;
      notes = λ q cid st what e r k told heard w pr.
          let hs = (a.heard q e s).host.queues in
          places_hosts hs (change k (λ queue. record queue { state = if is_success st then Deleting true else Live }) hs) (without_record q cid s.host.records) (a.heard q e s).controller.queues s.controller.jobs
          (λ n p. past_same k (λ queue. record queue { state = if is_success st then Deleting true else Live }) hs n
          (λ x ex. (grind arith) ∙ sym (asked_serves x.state (asked_note s q cid st e r k g.stands.0 g.fit.asked heard w x ex))) ∙ p) (without q cid st e r heard);
      frees = λ q cid st what e r k queue told heard w at retired good pr. places_out k a.gone (heard_without q cid e s) (λ x. refl) (without q cid st e r heard);
      makes_cq = λ q cid st what e r k n base vector told heard w good pr. places_out k a.half_made (heard_without q cid e s) (λ x. refl) (without q cid st e r heard);
      unmakes_cq = λ q cid st what e r k n base vector queue told heard w at bad pr. places_out k a.gone (heard_without q cid e s) (λ x. refl) (without q cid st e r heard);
      makes_sq = λ q cid st what e r k n base told heard w good pr. places_opens k a.live (heard_without q cid e s) (unstarted q cid st e r k n base heard w) (without q cid st e r heard);
      unmakes_sq = λ q cid st what e r k n base queue told heard w at bad pr. places_out k a.unmade_sq (heard_without q cid e s) (λ x. refl) (without q cid st e r heard);
      collects = λ q cid r f at held is pr.
          same_places (with_record q cid a.collected s.host.records)
          (λ k w. omega (arith, total_with (sent k w) q cid a.collected s.host.records r at (g.stands.0.once q cid), sent_not k w r (held_not r.phase held), sent_not k w (a.collected r) refl));
      releases = λ f r its pr. ended f.q f.cid r its.found its.quiet;
      aborts = λ q cid id none new pr. places_sent (Abort q cid) id s h;
      asks = λ q id queue none new live pr.
          let u = sends (DeleteSq q) id s in
          places_hosts u.host.queues (change q a.deleting u.host.queues) u.host.records u.controller.queues u.controller.jobs
          (λ k p. past_same q a.deleting u.host.queues k (λ x e. sym (ap in_service (still_live s q 0 (next_tail s.entries) queue x live e))) ∙ p) (places_sent (DeleteSq q) id s h);
      drops = λ q id none new pr. places_sent (DeleteCq q) id s h;
      creates_cqs = λ q vector id first queue none new granted pr. places_sent (creates_cq q vector first s) id (grants_cq q first s) (places_out q (a.making_cq (half_from Completion first s)) s (λ x. refl) h);
      creates_sqs = λ q id first queue none new granted pr. places_sent (creates_sq q first s) id (grants_sq q first s) (places_out q (a.making_sq (half_from Submission first s)) s (λ x. refl) h);
      retires = λ q queue none at deleted pr. places_retire q queue s t none at deleted g h;
      forges = λ q slot bytes queue none at pr. h;
      resets = λ pr. reset_places (a.reset_queues s.host.queues) (a.reset_records s.host.records) s.controller.queues;
    }) pr
  where
    -- a queue that is being made has no entry
    unstarted : (q cid : ℕ) (st : Status) (e : ComEntry) (r : Record) (k n base : ℕ) → IsHeard s q cid st e r → r.work ≡ Management (CreateSq k n base) → unfetched_at (a.heard q e s).controller.queues k ≡ []
    unstarted q cid st e r k n base heard w = list_same (λ (at : ServedQueue). at.unfetched) q (λ at. record at { completions = drop 1 at.completions }) s.controller.queues k (λ at. refl) ∙ elim (option_is (slice_get s.host.queues k)) [
      | inl o ↦ absurd (true≢false (sym (ap (λ (o : Option HostQueue). option_map_or (λ h. is_making_sq h.state) o false) (sym o) ∙ making)))
      | inr (x, o) ↦
          let pair = pair_at s g k x o in
          ap (λ (o : Option ServedQueue). option_map_or (λ at. at.unfetched) o []) pair.1 ∙ pair.2.unfetched (ap in_service (making_sq_is x.state (awaited_is is_making_sq s.host.queues k x making o)))
    ]
      where
        making : awaited_at is_making_sq s.host.queues k ≡ true
        making = was_awaited creates_sq_of is_making_sq s.host.records s.host.queues k q cid r heard.found (ap (creates_sq_of k) w ∙ eq-eqb k k refl) (g.stands.0.once q cid) (submissions_awaited s.host g.stands.0.creations)

pub places_event : (s : State) (e : Event) (reply : Reply) → IsProper e → Accepts s e reply → s.trusted ≡ true → Grounds s → PlacesIn s → PlacesIn (a.after s e reply)
places_event s (events.Fetch q) (events.Fetched c touched) pr ok t g h =
    by_controller s (events.Fetch q) (events.Fetched c touched) refl (lessens_fetch s.host.queues s q (λ e hand. running_not_past s g q e hand)) h
places_event s (events.Walk q cid) (events.Walked o touched) pr ok t g h = by_controller s (events.Walk q cid) (events.Walked o touched) refl (lessens_walk s.host.queues q cid s) h
places_event s (events.Complete q cid) (events.Completed touched) pr ok t g h = by_controller s (events.Complete q cid) (events.Completed touched) refl (lessens_complete s.host.queues q cid s) h
places_event s (events.Fetch q) reply pr ok t g h = absurd ok.1
places_event s (events.Walk q cid) reply pr ok t g h = absurd ok.1
places_event s (events.Complete q cid) reply pr ok t g h = absurd ok.1
places_event s e reply pr ok t g h = places_host s e reply pr ok refl t g h
