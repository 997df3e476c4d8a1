-- A queue has one admin command under way at most.
use Rattle.machine_model.specs.After as a
use Rattle.machine_model.specs.Events as events
use Rattle.std.proofs.Common.{◌≡◌, inl, inr, ℕ, zero, suc, ◌+◌, ◌-◌, ◌%◌, ◌<◌, ◌≤◌, ◌==◌, Bool, true, false, not, ◌&&◌, Option, Some, None, List, [], ◌∷◌, ◌++◌, filter, find, length, map, drop, slice_get, is_some, is_none, if◌then◌else◌, refl, ap, sym, ◌∙◌, arith, subst, eqb-true, eq-eqb}
use Rattle.std.{proofs.lemmas.Bool.{true≢false, and_parts, cases_Bool}, specs.{List.AllByRecursion, Option.option_map_or}}
use Rattle.admin_commands.specs.{Entries.{named_queue, named_command, admin_entry}, Verdicts.is_absent, declared.AdminKind.AdminKind}
use Rattle.admin_commands.specs.declared.{AdminKind.TheVariants.{Abort, DeleteSq, DeleteCq, CreateCq, CreateSq}, SqState.TheVariants.Stopping}
use Rattle.entry_codec.specs.{Status.is_success, declared.{admin_opcode.TheConstants.{ABORT, DELETE_IO_SQ, DELETE_IO_CQ, CREATE_IO_SQ}, completion.ComEntry.ComEntry}}
use Rattle.entry_codec.specs.declared.status.{Status.Status, TheConstants.Status.{SUCCESS, COMMAND_ID_CONFLICT, ABORT_REQUESTED, ABORTED_SQ_DELETION}}
use Rattle.entry_codec.specs.declared.submission.SubEntry.{SubEntry}
use Rattle.io_commands.specs.Jobs.{io_fault, bytes_after_check}
use Rattle.machine_model.proofs.{Counting.{total-append, total-filter, total_without}, Kept.{making_cq_as_heard, ring_after}}
use Rattle.machine_model.proofs.Moves.{asked_is, host_moves, sends, sent_record, drafted_record, half_from, creates_cq as creates_cq_moves, creates_sq as creates_sq_moves, IsHeard, completion_heard}
use Rattle.machine_model.proofs.{Owned.{Awaited, awaited_at, awaits, was_awaited, HoldsPart, at_same, no_waiting, no_admin_completions}, Sound.unused}
use Rattle.machine_model.proofs.Steps.{managed_by, absent_state, unrefused, Accepts}
use Rattle.machine_model.proofs.Tokens.{find_filter, total_gone, Named, Fewer, named, total_below, total_none, total_map_all, kind_found, failing, succeeding, failed, succeeded, find_more, find_new, find_map, fewer_kept, knows_back}
use Rattle.machine_model.proofs.TokensKept.{TokensHeld, Fetched, fetched, tokens_fewer, tokens_controller, tokens_plain, tokens_drop, tokens_completion, tokens_submission, controller_same, controller_other, reset_tokens}
use Rattle.machine_model.specs.Agreeing.{is_known_deleted, knows_deleted_at, is_live_at, waiting, admin_completions, AdminCommandsStand as Placed, Knows, JobKnown, is_absent_at as gone_at, entry_is, job_is, completion_is, is_kind, succeeds, unmade, completed_well, done_well, deletes_sq, deletes_cq, creates_cq, creates_sq, creates_cq as makes_cq, creates_sq as makes_sq}
use Rattle.machine_model.specs.Events.{Event, Reply}
use Rattle.machine_model.specs.Refusals.{is_asked, is_live, is_making_sq, deletes_sq_of, creates_sq_of, job_at, next_rung, refusal_of, is_job, is_gone, is_submitted, has_cq_alone}
use Rattle.machine_model.specs.State.{State, HostQueue, ServedQueue, Controller, Record, Job, PostedCompletion, is_at, without_record, with_record}
use Rattle.machine_model.specs.{Step.{host_part, IsController}, Weights.{one, total, here}, Work.Work, declared.words.HostState.HostState}
use Rattle.machine_model.specs.declared.words.{HostState.TheVariants.{Live, Deleting}, Peer.TheVariants.{Modelled}, Phase.TheVariants.Held, Work.TheVariants.Management}
use Rattle.queue_pair.specs.{Members.change, Rings.{next_tail, next_head, knowing}}
use Rattle.two_sides.proofs.{ControllerMoves.{posted_completion, unit_done, finished, cleared, clears, fetch_by, walk_by, complete_by}, Provided.only_found}
use Rattle.two_sides.proofs.Standing.{clears_io, admin_completions_more, some_zero, some_still, queue_there, waiting_same, admin_completions_same, waiting_other, admin_completions_other, runs_there, taken_entry, verdict_there, final_admin, PlacedIn, far_suc as ne_zero, Stands, admin_zero, io_other, admin_completions_rest}
use Rattle.two_sides.proofs.Tied.{below, Alike, alike_ring, alike_then, tokens_alike, sends_more, Turns, tokens_sends, turns, turns_not, Hears, hears_first, MovesOn, tokens_hears, moves_on, moves_not}
use Rattle.page_memory.specs.declared.page.Half.TheVariants.{Submission, Completion}
use Rattle.slot_table.proofs.Rows.{option_is}
use Rattle.page_memory.proofs.Lists.{found_is, all-found, all-all}
use Rattle.controller_core.proofs.Lists.{length-change}

-- Every event of the controller keeps the tokens of what is deleted and made.

all_each : {A : Type 0} (P : A → Type 0) → ((x : A) → P x) → (xs : List A) → AllByRecursion P xs
all_each P f [] = tt
all_each P f (x ∷ xs) = (f x, all_each P f xs)

-- Jobs whose admin commands are as they were

fewer_jobs : (rs : List Record) (un : List SubEntry) (js : List Job) (ans : List PostedCompletion) (f : Job → Job)
    → AllByRecursion (λ j. ((f j).q ≡ j.q) × ((f j).entry ≡ j.entry) × ((j.q ≡ 0) → succeeds (f j) ≡ succeeds j)) js → Fewer rs un js ans rs un (map f js) ans
fewer_jobs rs un js ans f same = record {
  unmade = λ test. omega (arith, total_map_all (failing test rs) f js (all-all _ _ (one_job test not) js same));
  completed = λ test. omega arith;
  done = λ test. omega (arith, total_map_all (succeeding test rs) f js (all-all _ _ (one_job test (λ b. b)) js same));
}
  where
    one_job : (test : AdminKind → Bool) (g : Bool → Bool) (j : Job) → ((f j).q ≡ j.q) × ((f j).entry ≡ j.entry) × ((j.q ≡ 0) → succeeds (f j) ≡ succeeds j)
        → one (((f j).q == 0) && is_kind test rs (f j).entry.cid && g (succeeds (f j))) ≡ one ((j.q == 0) && is_kind test rs j.entry.cid && g (succeeds j))
    one_job test g j h = rw (h.0, h.1) (elim (cases_Bool (j.q == 0)) [ inl e ↦ rw (h.2 (eqb-true j.q 0 e)) | inr e ↦ rw e ])

-- an entry is completed at once, without success
fewer_conflict : (rs : List Record) (e : SubEntry) (un : List SubEntry) (js : List Job) (ans : List PostedCompletion) (an : PostedCompletion) → an.cid ≡ e.cid → is_success an.status ≡ false → Fewer rs (e ∷ un) js ans rs un js (ans ++ an ∷ [])
fewer_conflict rs e un js ans an same bad =
    let wins : (test : AdminKind → Bool) → succeeded test rs an ≡ 0 = λ test. grind (arith, bad) in
    record {
      unmade = λ test. let fails : failed test rs an ≤ one (is_kind test rs e.cid) = rw same (grind arith) in omega (arith, total-append (failed test rs) ans (an ∷ []), fails);
      completed = λ test. omega (arith, total-append (succeeded test rs) ans (an ∷ []), wins test);
      done = λ test. omega (arith, total-append (succeeded test rs) ans (an ∷ []), wins test);
    }

-- What is known where a controller's event begins

pub record Knowing (rs : List Record) (hs : List HostQueue) (ds : List ServedQueue) (un : List SubEntry) (js : List Job) (ans : List PostedCompletion) : Type 0 where
  pub placed : Placed rs un js ans
  pub once : (q c : ℕ) → total (here q c) rs < 2
  pub few : length hs ≤ 65536
  pub long : length ds ≡ length hs
  pub asked : Awaited deletes_sq_of is_asked rs hs
  pub making : Awaited creates_sq_of is_making_sq rs hs

-- Fetching

abbrev Same : (Job → Job) → Job → Type 0
Same f j = ((f j).q ≡ j.q) × ((f j).entry ≡ j.entry) × ((j.q ≡ 0) → succeeds (f j) ≡ succeeds j)

-- where a test passes, one that changes neither its queue nor its entry
same_where : (f : Job → Job) (test : Job → Bool) (j : Job) → (test j ≡ true → Same f j) → Same (λ j. if test j then f j else j) j
same_where f test j same = elim (cases_Bool (test j)) [ inl e ↦ rw e (same e) | inr e ↦ rw e (refl, refl, λ z. refl) ]

marks_same : (s : State) (q cid : ℕ) (f : Job → Job) → ((j : Job) → (f j).q ≡ j.q) → ((j : Job) → (f j).entry ≡ j.entry) → ((j : Job) → succeeds (f j) ≡ false)
    → a.walks s q cid ≡ true → total (job_is cid) s.controller.jobs < 2 → AllByRecursion (Same (λ j. if is_job q cid j then f j else j)) s.controller.jobs
marks_same s q cid f fq fe fs walks few =
    let walking : (j : Job) × (job_at s q cid ≡ Some j) × (succeeds j ≡ false) = elim (option_is (job_at s q cid)) [
      | inl none ↦ absurd (true≢false (sym (rw none at walks)))
      | inr (j, e) ↦ (j, e, elim (option_is j.verdict) [ inl none ↦ rw none | inr (st, some) ↦ absurd (true≢false (sym (rw (e, some) at walks))) ])
    ] in
    let mark : (j : Job) → (is_job q cid j ≡ true → (j.q ≡ 0) → succeeds j ≡ false) → Same (λ j. if is_job q cid j then f j else j) j = λ j quiet.
    same_where f (is_job q cid) j (λ e. (fq j, fe j, λ z. fs j ∙ sym (quiet e z))) in
    elim (cases_Bool (q == 0)) [
      | inl z ↦
          let (j, e, none) = walking in
          all-all (λ x. is_job 0 cid x ≡ true → x ≡ j) _ (λ x only. mark x (λ is at. ap succeeds (only (rw (eqb-true q 0 z) at is)) ∙ none)) s.controller.jobs
          (only_found (is_job 0 cid) s.controller.jobs j (subst (λ (n : ℕ). find (is_job n cid) s.controller.jobs ≡ Some j) (eqb-true q 0 z) e) few)
      | inr z ↦ all_each _ (λ x. mark x (λ is at. absurd (true≢false (sym (eq-eqb q 0 (sym (eqb-true x.q q (and_parts (x.q == q) (x.entry.cid == cid) is).0) ∙ at)) ∙ z)))) s.controller.jobs
    ]

stops_same : (q : ℕ) → (q == 0) ≡ false → (js : List Job) → AllByRecursion (Same (a.stopped q)) js
stops_same q other js = all_each _ (λ j. same_where (λ j. record j { verdict = Some ABORTED_SQ_DELETION }) (λ j. (j.q == q) && is_none j.verdict) j
    (λ e. (refl, refl, λ z. absurd (true≢false (sym (eq-eqb q 0 (sym (eqb-true j.q q (and_parts (j.q == q) (is_none j.verdict) e).0) ∙ z)) ∙ other))))) js

-- the tokens with an entry in hand
abbrev InHand : List Record → List HostQueue → SubEntry → Controller → Type 0
InHand rs hs e d = TokensHeld rs hs d.queues (e ∷ waiting d.queues) d.jobs (admin_completions d.queues)

abbrev pub TokensP : List Record → List HostQueue → Controller → Type 0
TokensP rs hs d = TokensHeld rs hs d.queues (waiting d.queues) d.jobs (admin_completions d.queues)

tokens_managed : (rs : List Record) (hs : List HostQueue) (e : SubEntry) (s : State) → Knowing rs hs s.controller.queues (e ∷ waiting s.controller.queues) s.controller.jobs (admin_completions s.controller.queues)
    → InHand rs hs e s.controller → TokensP rs hs (a.managed e s).controller
tokens_managed rs hs e s g h =
    let taken : (js : List Job) (dw0 : ℕ) → Fetched rs e (waiting s.controller.queues) js (js ++ a.new_job 0 e (Some SUCCESS) dw0 [] ∷ []) (admin_completions s.controller.queues) true = λ js dw0.
    fetched rs e (waiting s.controller.queues) js (admin_completions s.controller.queues) (a.new_job 0 e (Some SUCCESS) dw0 []) SUCCESS refl refl refl in
    let plain : (n : ℕ) → (e.opcode == n) ≡ true → (n == DELETE_IO_CQ) ≡ false → (n == CREATE_IO_SQ) ≡ false → (js : List Job) (dw0 : ℕ) → TokensHeld rs hs s.controller.queues (e ∷ waiting s.controller.queues) js (admin_completions s.controller.queues)
    → TokensHeld rs hs s.controller.queues (waiting s.controller.queues) (js ++ a.new_job 0 e (Some SUCCESS) dw0 [] ∷ []) (admin_completions s.controller.queues) = λ n is no4 no1 js dw0 h.
    let named : Named rs e = named rs e g.placed.entries.0.0 g.placed.entries.0.1 g.placed.entries.0.2 in
    tokens_plain rs hs s.controller.queues e (waiting s.controller.queues) js (js ++ a.new_job 0 e (Some SUCCESS) dw0 [] ∷ []) (admin_completions s.controller.queues) true
    (fetched rs e (waiting s.controller.queues) js (admin_completions s.controller.queues) (a.new_job 0 e (Some SUCCESS) dw0 []) SUCCESS refl refl refl)
    (λ q. rw (named.deletes_cq q, eqb-true e.opcode n is, no4) refl) (λ q. rw (named.creates_sq q, eqb-true e.opcode n is, no1) refl) h in
    let ds : List ServedQueue = s.controller.queues in
    let un : List SubEntry = waiting s.controller.queues in
    let ans : List PostedCompletion = admin_completions s.controller.queues in
    let names : Named rs e = named rs e g.placed.entries.0.0 g.placed.entries.0.1 g.placed.entries.0.2 in
    managed_by (λ (t : State). TokensP rs hs t.controller) e s
    (record {
      refuses = λ st bad. tokens_plain rs hs ds e un js (js ++ a.new_job 0 e (Some st) 0 [] ∷ []) ans (is_success st) (fetched rs e un js ans (a.new_job 0 e (Some st) 0 []) st refl refl refl)
          (λ q. grind (arith, bad)) (λ q. grind (arith, bad)) h;
      aborts = λ is8 w.
          let f : Job → Job = λ j. record j { verdict = Some ABORT_REQUESTED; waiting_abort = Some e.cid } in
          let js' = map (λ j. if is_job (named_queue e) (named_command e) j then f j else j) js in
          plain ABORT is8 refl refl js' 0
          (tokens_fewer rs rs hs ds (e ∷ un) (e ∷ un) js js' ans ans (fewer_jobs rs (e ∷ un) js ans (λ j. if is_job (named_queue e) (named_command e) j then f j else j)
          (marks_same s (named_queue e) (named_command e) f (λ j. refl) (λ j. refl) (λ j. refl) w (omega (arith, g.placed.places (named_command e), g.once 0 (named_command e))))) h);
      is_late = λ is8. plain ABORT is8 refl refl js 1 h;
      stops = λ is0 q0 runs.
          let stop : ServedQueue → ServedQueue = λ at. record at { state = Stopping } in
          let k = named_queue e in
          rw (waiting_other stop k ds q0, admin_completions_other stop k ds q0)
          (tokens_controller rs hs ds (change k stop ds) un (map (a.stopped k) js ++ a.new_job 0 e (Some SUCCESS) 0 [] ∷ []) ans
          (controller_same (λ at. is_absent at.state) true stop k ds (λ d ed. sym (sym (ap (λ (o : Option ServedQueue). option_map_or (λ at. is_absent at.state) o true) ed) ∙ runs_there s k runs)))
          (controller_same (λ at. at.cq_there) false stop k ds (λ d ed. refl))
          (plain DELETE_IO_SQ is0 refl refl (map (a.stopped k) js) 0 (tokens_fewer rs rs hs ds (e ∷ un) (e ∷ un) js (map (a.stopped k) js) ans ans (fewer_jobs rs (e ∷ un) js ans (a.stopped k) (stops_same k q0 js)) h)));
      drops = λ is4 q0 has gone. rw (waiting_other a.dropped (named_queue e) ds q0, admin_completions_other a.dropped (named_queue e) ds q0)
          (tokens_drop rs hs ds e un js (js ++ a.new_job 0 e (Some SUCCESS) 0 [] ∷ []) ans (taken js 0) names is4 has h);
      makes_completion = λ is5 q0 gone. rw (waiting_other a.completion_made (named_queue e) ds q0, admin_completions_other a.completion_made (named_queue e) ds q0)
          (tokens_completion rs hs ds e un js (js ++ a.new_job 0 e (Some SUCCESS) 0 [] ∷ []) ans (taken js 0) names is5 gone h);
      makes_submission = λ is1 q0 gone has. rw (waiting_other a.submission_made (named_queue e) ds q0, admin_completions_other a.submission_made (named_queue e) ds q0)
          (tokens_submission rs hs ds e un js (js ++ a.new_job 0 e (Some SUCCESS) 0 [] ∷ []) ans g.long (taken js 0) names is1 (absent_state s (named_queue e) gone) h);
    })
  where
    js : List Job
    js = s.controller.jobs

-- an entry taken off
taken_off_tokens : (rs : List Record) (hs : List HostQueue) (q : ℕ) (d : Controller) → TokensHeld rs hs d.queues (waiting d.queues) d.jobs (admin_completions d.queues)
    → TokensHeld rs hs (change q (λ at. record at { unfetched = drop 1 at.unfetched; rung = at.rung - 1 }) d.queues) (waiting d.queues) d.jobs (admin_completions d.queues)
taken_off_tokens rs hs q d h =
    tokens_controller rs hs d.queues (change q (λ at. record at { unfetched = drop 1 at.unfetched; rung = at.rung - 1 }) d.queues) (waiting d.queues) d.jobs (admin_completions d.queues)
    (controller_same (λ at. is_absent at.state) true (λ at. record at { unfetched = drop 1 at.unfetched; rung = at.rung - 1 }) q d.queues (λ d ed. refl))
    (controller_same (λ at. at.cq_there) false (λ at. record at { unfetched = drop 1 at.unfetched; rung = at.rung - 1 }) q d.queues (λ d ed. refl)) h

-- a completion posted to another queue
completed_elsewhere : (rs : List Record) (hs : List HostQueue) (q : ℕ) (an : PostedCompletion) (d : Controller) → (q == 0) ≡ false → TokensP rs hs d → TokensP rs hs (record d { queues = change q (λ at. record at { completions = at.completions ++ an ∷ [] }) d.queues })
completed_elsewhere rs hs q an d other h =
    let f : ServedQueue → ServedQueue = λ at. record at { completions = at.completions ++ an ∷ [] } in
    rw (waiting_other f q d.queues other, admin_completions_other f q d.queues other)
    (tokens_controller rs hs d.queues (change q f d.queues) (waiting d.queues) d.jobs (admin_completions d.queues) (controller_same (λ at. is_absent at.state) true f q d.queues (λ d ed. refl)) (controller_same (λ at. at.cq_there) false f q d.queues (λ d ed. refl)) h)

-- and to queue 0, which is there
completed_zero : (rs : List Record) (hs : List HostQueue) (an : PostedCompletion) (d : Controller) → is_some (slice_get d.queues 0) ≡ true → TokensHeld rs hs d.queues (waiting d.queues) d.jobs (admin_completions d.queues ++ an ∷ [])
    → TokensP rs hs (record d { queues = change 0 (λ at. record at { completions = at.completions ++ an ∷ [] }) d.queues })
completed_zero rs hs an d there h =
    let f : ServedQueue → ServedQueue = λ at. record at { completions = at.completions ++ an ∷ [] } in
    rw (waiting_same f (λ at. refl) 0 d.queues, admin_completions_more d.queues an there)
    (tokens_controller rs hs d.queues (change 0 f d.queues) (waiting d.queues) d.jobs (admin_completions d.queues ++ an ∷ []) (controller_same (λ at. is_absent at.state) true f 0 d.queues (λ d ed. refl)) (controller_same (λ at. at.cq_there) false f 0 d.queues (λ d ed. refl)) h)

abbrev pub KnowingP : List Record → List HostQueue → Controller → Type 0
KnowingP rs hs d = Knowing rs hs d.queues (waiting d.queues) d.jobs (admin_completions d.queues)

pub tokens_fetch : (rs : List Record) (hs : List HostQueue) (q : ℕ) (s : State) → KnowingP rs hs s.controller → TokensP rs hs s.controller → TokensP rs hs (a.after_fetch q s).controller
tokens_fetch rs hs zero s g h =
    let hand : (e : SubEntry) → next_rung s 0 ≡ Some e → InHand rs hs e (a.taken_off 0 s).controller = λ e next.
    rw (admin_completions_same (λ at. record at { unfetched = drop 1 at.unfetched; rung = at.rung - 1 }) (λ at. refl) 0 s.controller.queues)
    (subst (λ un. TokensHeld rs hs (a.taken_off 0 s).controller.queues un s.controller.jobs (admin_completions s.controller.queues)) (taken_entry s.controller.queues e next) (taken_off_tokens rs hs 0 s.controller h)) in
    let knows : (e : SubEntry) → next_rung s 0 ≡ Some e → Knowing rs hs (a.taken_off 0 s).controller.queues (e ∷ waiting (a.taken_off 0 s).controller.queues) s.controller.jobs (admin_completions (a.taken_off 0 s).controller.queues) = λ e next.
    record {
      placed = rw (admin_completions_same (λ at. record at { unfetched = drop 1 at.unfetched; rung = at.rung - 1 }) (λ at. refl) 0 s.controller.queues)
          (subst (λ un. Placed rs un s.controller.jobs (admin_completions s.controller.queues)) (taken_entry s.controller.queues e next) g.placed);
      once = g.once;
      few = g.few;
      long = length-change 0 (λ at. record at { unfetched = drop 1 at.unfetched; rung = at.rung - 1 }) s.controller.queues ∙ g.long;
      asked = g.asked;
      making = g.making;
    } in
    fetch_by (λ (t : State). TokensP rs hs t.controller) s 0 h
    (λ e next c. let t = (a.taken_off 0 s).controller in let an = posted_completion 0 e.cid COMMAND_ID_CONFLICT 0 (a.taken_off 0 s) in
    completed_zero rs hs an t (some_still (λ at. record at { unfetched = drop 1 at.unfetched; rung = at.rung - 1 }) 0 s.controller.queues (some_zero s.controller.queues e next))
    (tokens_fewer rs rs hs t.queues (e ∷ waiting t.queues) (waiting t.queues) s.controller.jobs s.controller.jobs (admin_completions t.queues) (admin_completions t.queues ++ an ∷ [])
    (fewer_conflict rs e (waiting t.queues) s.controller.jobs (admin_completions t.queues) an refl refl) (hand e next)))
    (λ e next c z. tokens_managed rs hs e (a.taken_off 0 s) (knows e next) (hand e next))
    (λ e next c other. absurd (true≢false other))
tokens_fetch rs hs (suc k) s g h =
    let base : TokensP rs hs (a.taken_off (suc k) s).controller =
    let f : ServedQueue → ServedQueue = λ at. record at { unfetched = drop 1 at.unfetched; rung = at.rung - 1 } in
    rw (waiting_other f (suc k) s.controller.queues (ne_zero k), admin_completions_other f (suc k) s.controller.queues (ne_zero k)) (taken_off_tokens rs hs (suc k) s.controller h) in
    fetch_by (λ (t : State). TokensP rs hs t.controller) s (suc k) h
    (λ e next c. completed_elsewhere rs hs (suc k) (posted_completion (suc k) e.cid COMMAND_ID_CONFLICT 0 (a.taken_off (suc k) s)) (a.taken_off (suc k) s).controller (ne_zero k) base)
    (λ e next c z. absurd (omega arith))
    (λ e next c other.
    let fault = io_fault (a.image_blocks (a.taken_off (suc k) s)) e in
    let t = (a.taken_off (suc k) s).controller in
    let j = a.new_job (suc k) e fault 0 (bytes_after_check s.controller.image e fault) in
    -- one job of another queue more, or less
    tokens_fewer rs rs hs t.queues (waiting t.queues) (waiting t.queues) t.jobs (t.jobs ++ j ∷ []) (admin_completions t.queues) (admin_completions t.queues) (record {
      unmade = λ test. let none : failing test rs j ≡ 0 = rw (ne_zero k) refl in omega (arith, total-append (failing test rs) t.jobs (j ∷ []), none);
      completed = λ test. omega arith;
      done = λ test. let none : succeeding test rs j ≡ 0 = rw (ne_zero k) refl in omega (arith, total-append (succeeding test rs) t.jobs (j ∷ []), none);
    }) base)

-- Walking, a job of another queue

pub tokens_walk : (rs : List Record) (hs : List HostQueue) (q cid : ℕ) (s : State) → (q == 0) ≡ false → TokensP rs hs s.controller → TokensP rs hs (a.after_walk q cid s).controller
tokens_walk rs hs q cid s other h =
    walk_by (λ (t : State). TokensP rs hs t.controller) s q cid h
    (λ j act at u.
    let f : Job → Job = unit_done s j act in
    tokens_fewer rs rs hs s.controller.queues (waiting s.controller.queues) (waiting s.controller.queues) s.controller.jobs (map (λ j. if is_job q cid j then f j else j) s.controller.jobs) (admin_completions s.controller.queues) (admin_completions s.controller.queues)
    (fewer_jobs rs (waiting s.controller.queues) s.controller.jobs (admin_completions s.controller.queues) (λ j. if is_job q cid j then f j else j)
    (all_each _ (λ k. same_where f (is_job q cid) k
    (λ e. (refl, refl, λ z. absurd (true≢false (sym (eq-eqb q 0 (sym (eqb-true k.q q (and_parts (k.q == q) (k.entry.cid == cid) e).0) ∙ z)) ∙ other))))) s.controller.jobs)) h)

-- Completing

-- a job of queue 0 is completed as its verdict tells
pub record Completed (rs : List Record) (un : List SubEntry) (js js' : List Job) (ans ans' : List PostedCompletion) (c : ℕ) (ok : Bool) : Type 0 where
  pub unmade : (test : AdminKind → Bool) → unmade test rs un js' ans' ≤ unmade test rs un js ans
  pub completed : (test : AdminKind → Bool) → completed_well test rs ans' ≡ completed_well test rs ans + one (is_kind test rs c && ok)
  pub done : (test : AdminKind → Bool) → done_well test rs js' ans' ≤ done_well test rs js ans

completed : (rs : List Record) (un : List SubEntry) (js : List Job) (ans : List PostedCompletion) (cid : ℕ) (j : Job) (an : PostedCompletion) (st : Status) → find (is_job 0 cid) js ≡ Some j → j.verdict ≡ Some st → an.cid ≡ cid → an.status ≡ st
    → Completed rs un js (filter (λ k. not (is_job 0 cid k)) js) ans (ans ++ an ∷ []) cid (is_success st)
completed rs un js ans cid j an st found jv ac as' =
    let job : (test : AdminKind → Bool) (g : Bool → Bool) → one ((j.q == 0) && is_kind test rs j.entry.cid && g (succeeds j)) ≡ one (is_kind test rs cid && g (is_success st)) = λ test g.
    let p = and_parts (j.q == 0) (j.entry.cid == cid) (found_is (is_job 0 cid) js j found) in rw (p.0, eqb-true j.entry.cid cid p.1, jv) in
    let answer : (test : AdminKind → Bool) (g : Bool → Bool) → one (is_kind test rs an.cid && g (is_success an.status)) ≡ one (is_kind test rs cid && g (is_success st)) = λ test g.
    rw (ac, as') in
    record {
      unmade = λ test. omega (arith, total_gone (failing test rs) (is_job 0 cid) js j found, total-append (failed test rs) ans (an ∷ []), job test not, answer test not);
      completed = λ test. omega (arith, total-append (succeeded test rs) ans (an ∷ []), answer test (λ b. b));
      done = λ test. omega (arith, total_gone (succeeding test rs) (is_job 0 cid) js j found, total-append (succeeded test rs) ans (an ∷ []), job test (λ b. b), answer test (λ b. b));
    }

-- one that doesn't delete a submission queue with success
tokens_completed : (rs : List Record) (hs : List HostQueue) (ds : List ServedQueue) (un : List SubEntry) (js js' : List Job) (ans ans' : List PostedCompletion) (c : ℕ) (ok : Bool) → Completed rs un js js' ans ans' c ok
    → ((q : ℕ) → (is_kind (deletes_sq q) rs c && ok) ≡ false) → TokensHeld rs hs ds un js ans → TokensHeld rs hs ds un js' ans'
tokens_completed rs hs ds un js js' ans ans' c ok f quiet h = record {
  submission = λ q. omega (arith, h.submission q, f.unmade (creates_sq q), f.completed (deletes_sq q), ap one (quiet q));
  completion = λ q. omega (arith, h.completion q, f.done (deletes_cq q), f.unmade (creates_cq q));
  there = λ q inside some. h.there q inside (omega (arith, some, f.unmade (deletes_sq q), f.done (creates_sq q)));
}

-- Where no command of a kind is outstanding, none stands

none_stands : (rs : List Record) (test : AdminKind → Bool) → ((c : ℕ) → is_kind test rs c ≡ false) → (un : List SubEntry) (js : List Job) (ans : List PostedCompletion)
    → (unmade test rs un js ans ≡ 0) × (completed_well test rs ans ≡ 0) × (done_well test rs js ans ≡ 0)
none_stands rs test none un js ans =
    let job : (g : Bool → Bool) (j : Job) → one ((j.q == 0) && is_kind test rs j.entry.cid && g (succeeds j)) ≡ 0 = λ g j. rw (none j.entry.cid) (grind arith) in (
      omega (arith, total_none (λ (e : SubEntry). one (is_kind test rs e.cid)) (λ e. ap one (none e.cid)) un, total_none (failing test rs) (λ j. job not j) js, total_none (failed test rs) (λ an. rw (none an.cid)) ans),
      total_none (succeeded test rs) (λ an. rw (none an.cid)) ans,
      omega (arith, total_none (succeeding test rs) (λ j. job (λ b. b) j) js, total_none (succeeded test rs) (λ an. rw (none an.cid)) ans),
    )

pub small : (k n : ℕ) → k < n → n ≤ 65536 → k % 65536 ≡ k
small k n l m = omega arith

pub awaited_below : (test : HostState → Bool) (hs : List HostQueue) (k : ℕ) → awaited_at test hs k ≡ true → k < length hs
awaited_below test hs k h = below hs k (elim (option_is (slice_get hs k)) [ inl none ↦ absurd (true≢false (sym (rw none at h))) | inr (x, some) ↦ rw some ])

-- an outstanding command that a queue waits for names that queue
its_own : (of : ℕ → Work → Bool) (test : HostState → Bool) (rs : List Record) (hs : List HostQueue) (a c : ℕ) (r : Record) → find (is_at 0 c) rs ≡ Some r → of a r.work ≡ true → total (here 0 c) rs < 2 → length hs ≤ 65536 → Awaited of test rs hs
    → (awaited_at test hs (a % 65536) ≡ true) × (a % 65536 ≡ a)
its_own of test rs hs a c r e is once few h =
    let was = was_awaited of test rs hs a 0 c r e is once h in
    let same = small a (length hs) (awaited_below test hs a was) few in
    (subst (λ (z : ℕ). awaited_at test hs z ≡ true) (sym same) was, same)

-- the command that deletes a queue's submission side, or makes it, names a queue that waits for it
record Asks (of : ℕ → Work → Bool) (test : HostState → Bool) (rs : List Record) (hs : List HostQueue) (q c : ℕ) : Type 0 where
  pub r : Record
  pub found : find (is_at 0 c) rs ≡ Some r
  pub asks : of q r.work ≡ true
  pub waits : awaited_at test hs q ≡ true

asks_by : (of : ℕ → Work → Bool) (test : HostState → Bool) (kind : ℕ → AdminKind → Bool) → ((q : ℕ) (adm : AdminKind) → kind q adm ≡ true → (a : ℕ) × (of a (Management adm) ≡ true) × ((a % 65536 == q) ≡ true))
    → (rs : List Record) (hs : List HostQueue) (q c : ℕ) → ((a c : ℕ) → total (here a c) rs < 2) → length hs ≤ 65536 → Awaited of test rs hs → is_kind (kind q) rs c ≡ true → Asks of test rs hs q c
asks_by of test kind names rs hs q c once few h e =
    let (adm, (r, found, work), t) = kind_found (kind q) rs c e in
    let (a, is, at) = names q adm t in
    let own = its_own of test rs hs a c r found (ap (of a) work ∙ is) (once 0 c) few h in
    let same : a ≡ q = sym own.1 ∙ eqb-true (a % 65536) q at in
    record { r = r; found = found; asks = subst (λ (z : ℕ). of z r.work ≡ true) same (ap (of a) work ∙ is); waits = subst (λ (z : ℕ). awaited_at test hs z ≡ true) (eqb-true (a % 65536) q at) own.0 }

quiet_by : (of : ℕ → Work → Bool) (test : HostState → Bool) (kind : AdminKind → Bool) (rs : List Record) (hs : List HostQueue) (q : ℕ) → ((c : ℕ) → is_kind kind rs c ≡ true → Asks of test rs hs q c) → awaited_at test hs q ≡ false → (c : ℕ) → is_kind kind rs c ≡ false
quiet_by of test kind rs hs q asks quiet c = elim (cases_Bool (is_kind kind rs c)) [ inl e ↦ absurd (true≢false (sym (asks c e).waits ∙ quiet)) | inr e ↦ e ]

names_creation : (q : ℕ) (adm : AdminKind) → creates_sq q adm ≡ true → (a : ℕ) × (creates_sq_of a (Management adm) ≡ true) × ((a % 65536 == q) ≡ true)
names_creation q (CreateSq a n base) t = (a, eq-eqb a a refl, t)
names_creation q adm t = absurd (true≢false (sym t))

names_deletion : (q : ℕ) (adm : AdminKind) → deletes_sq q adm ≡ true → (a : ℕ) × (deletes_sq_of a (Management adm) ≡ true) × ((a % 65536 == q) ≡ true)
names_deletion q (DeleteSq a) t = (a, eq-eqb a a refl, t)
names_deletion q adm t = absurd (true≢false (sym t))

pub no_creation : (rs : List Record) (hs : List HostQueue) (q : ℕ) → ((a c : ℕ) → total (here a c) rs < 2) → length hs ≤ 65536 → Awaited creates_sq_of is_making_sq rs hs → awaited_at is_making_sq hs q ≡ false → (c : ℕ) → is_kind (creates_sq q) rs c ≡ false
no_creation rs hs q once few h = quiet_by creates_sq_of is_making_sq (creates_sq q) rs hs q (λ c. asks_by creates_sq_of is_making_sq creates_sq names_creation rs hs q c once few h)

-- there is one
one_deletion : (rs : List Record) (hs : List HostQueue) (q c c' : ℕ) → ((a c : ℕ) → total (here a c) rs < 2) → length hs ≤ 65536 → Awaited deletes_sq_of is_asked rs hs → is_kind (deletes_sq q) rs c ≡ true → is_kind (deletes_sq q) rs c' ≡ true → (c' == c) ≡ true
one_deletion rs hs q c c' once few h e e' = elim (cases_Bool (c' == c)) [
  | inl is ↦ is
  | inr far ↦
      let d = (asks_by deletes_sq_of is_asked deletes_sq names_deletion) rs hs q c once few h e in
      let d' = (asks_by deletes_sq_of is_asked deletes_sq names_deletion) rs hs q c' once few h e' in
      let keeps : (x : Record) → is_at 0 c' x ≡ true → not (is_at 0 c x) ≡ true = λ x t. let is = eqb-true x.cid c' (and_parts (x.q == 0) (x.cid == c') t).1 in
      let other : (x.cid == c) ≡ false = ap (λ (z : ℕ). z == c) is ∙ far in grind (arith, other) in
      let bit : one (awaited_at is_asked hs q) ≤ 1 = grind arith in
      absurd (omega (
        arith,
        total_without (awaits deletes_sq_of q) 0 c rs d.r d.found (once 0 c),
        total_gone (awaits deletes_sq_of q) (is_at 0 c') (without_record 0 c rs) d'.r (find_filter (is_at 0 c') (λ x. not (is_at 0 c x)) keeps rs d'.r d'.found),
        ap one d.asks,
        ap one d'.asks,
        h q,
        bit,
      ))
]

-- a submission queue goes: its deletion is the only one, and it is not being made
tokens_cleared : (rs : List Record) (hs : List HostQueue) (ds : List ServedQueue) (un : List SubEntry) (js : List Job) (ans : List PostedCompletion) (cid : ℕ) (j : Job) (an : PostedCompletion) (st : Status)
    → find (is_job 0 cid) js ≡ Some j → j.verdict ≡ Some st → an.cid ≡ cid → an.status ≡ st → is_success st ≡ true → (j.entry.opcode == DELETE_IO_SQ) ≡ true → Named rs j.entry
    → Knowing rs hs ds un js ans → TokensHeld rs hs ds un js ans → TokensHeld rs hs (change (named_queue j.entry) cleared ds) un (filter (λ k. not (is_job 0 cid k)) js) (ans ++ an ∷ [])
tokens_cleared rs hs ds un js ans cid j an st found jv ac as' ok op names g h = record {
  submission = λ q. submits q (named_queue j.entry == q) refl;
  completion = λ q. omega (arith, h.completion q, f.done (deletes_cq q), f.unmade (creates_cq q), ap one (controller_same (λ (at : ServedQueue). at.cq_there) false cleared (named_queue j.entry) ds (λ d ed. refl) q));
  there = λ q inside some. comes q inside (named_queue j.entry == q) refl some;
}
  where
    f : Completed rs un js (filter (λ k. not (is_job 0 cid k)) js) ans (ans ++ an ∷ []) cid (is_success st)
    f = completed rs un js ans cid j an st found jv ac as'

    ids : (j.q ≡ 0) × (j.entry.cid ≡ cid)
    ids = let p = and_parts (j.q == 0) (j.entry.cid == cid) (found_is (is_job 0 cid) js j found) in (eqb-true j.q 0 p.0, eqb-true j.entry.cid cid p.1)

    kind : (q : ℕ) (b : Bool) → (named_queue j.entry == q) ≡ b → is_kind (deletes_sq q) rs cid ≡ b
    kind q b at = ap (λ (c : ℕ). is_kind (deletes_sq q) rs c) (sym ids.1) ∙ names.deletes_sq q ∙ rw (op, at) refl

    own : (q : ℕ) → (named_queue j.entry == q) ≡ true → Asks deletes_sq_of is_asked rs hs q cid
    own q at = (asks_by deletes_sq_of is_asked deletes_sq names_deletion) rs hs q cid g.once g.few g.asked (kind q true at)

    -- what the host's state of such a queue says
    not_other : (q : ℕ) (test : HostState → Bool) → ((st : HostState) → is_asked st ≡ true → test st ≡ false) → awaited_at is_asked hs q ≡ true → awaited_at test hs q ≡ false
    not_other q test differs waits = elim (option_is (slice_get hs q)) [ inl none ↦ rw none | inr (x, some) ↦ rw some (differs x.state (rw some at waits)) ]

    less_one : (c' q : ℕ) → (named_queue j.entry == q) ≡ true → one (is_kind (deletes_sq q) rs c') ≤ one (c' == cid)
    less_one c' q at = elim (cases_Bool (is_kind (deletes_sq q) rs c')) [
      | inl e ↦ omega (arith, ap one e, ap one (one_deletion rs hs q cid c' g.once g.few g.asked (kind q true at) e))
      | inr e ↦ omega (arith, ap one e)
    ]

    below_both : (a b : Bool) (n : ℕ) → one a ≤ n → one (a && b) ≤ n
    below_both a b n l = grind (arith, l)

    completions_less : (q : ℕ) → (named_queue j.entry == q) ≡ true → completed_well (deletes_sq q) rs ans ≤ total (completion_is cid) ans
    completions_less q at = total_below (succeeded (deletes_sq q) rs) (completion_is cid) (λ x. below_both (is_kind (deletes_sq q) rs x.cid) (is_success x.status) (one (x.cid == cid)) (less_one x.cid q at)) ans

    counts : (q : ℕ) → (named_queue j.entry == q) ≡ true → unmade (deletes_sq q) rs un (filter (λ k. not (is_job 0 cid k)) js) (ans ++ an ∷ []) ≤ total (entry_is cid) un + (total (job_is cid) (filter (λ k. not (is_job 0 cid k)) js) + total (completion_is cid) ans)
    counts q at = omega (
      arith,
      total_below (λ (e : SubEntry). one (is_kind (deletes_sq q) rs e.cid)) (entry_is cid) (λ e. less_one e.cid q at) un,
      total_below (failing (deletes_sq q) rs) (job_is cid) (λ k. (let l = less_one k.entry.cid q at in grind (arith, l))) (filter (λ k. not (is_job 0 cid k)) js),
      total_below (failed (deletes_sq q) rs) (completion_is cid) (λ x. below_both (is_kind (deletes_sq q) rs x.cid) (not (is_success x.status)) (one (x.cid == cid)) (less_one x.cid q at)) ans,
      total-append (failed (deletes_sq q) rs) ans (an ∷ []),
      let none : failed (deletes_sq q) rs an ≡ 0 = rw (as', ok) (grind arith) in none,
    )

    -- the job is the only place of its command
    alone : total (entry_is cid) un + (total (job_is cid) (filter (λ k. not (is_job 0 cid k)) js) + total (completion_is cid) ans) ≡ 0
    alone = let mine : job_is cid j ≡ 1 = rw (eq-eqb j.q 0 ids.0, eq-eqb j.entry.cid cid ids.1) refl in omega (arith, g.placed.places cid, g.once 0 cid, total_gone (job_is cid) (is_job 0 cid) js j found, mine)

    not_making : (st : HostState) → is_asked st ≡ true → is_making_sq st ≡ false
    not_making st e = ap is_making_sq (asked_is st e)

    uncreated : (q : ℕ) → (named_queue j.entry == q) ≡ true → (c : ℕ) → is_kind (creates_sq q) rs c ≡ false
    uncreated q at = no_creation rs hs q g.once g.few g.making (not_other q is_making_sq not_making (own q at).waits)

    submits : (q : ℕ) (b : Bool) → (named_queue j.entry == q) ≡ b
        → one (not (gone_at (change (named_queue j.entry) cleared ds) q)) + (completed_well (deletes_sq q) rs (ans ++ an ∷ []) + (one (knows_deleted_at hs q) + unmade (creates_sq q) rs un (filter (λ k. not (is_job 0 cid k)) js) (ans ++ an ∷ []))) ≤ 1
    submits q true at =
        let off : gone_at (change (named_queue j.entry) cleared ds) q ≡ true = subst (λ (z : ℕ). gone_at (change z cleared ds) q ≡ true) (sym (eqb-true (named_queue j.entry) q at)) (gone_cleared q ds) in
        omega (
          arith,
          ap (λ (b : Bool). one (not b)) off,
          (none_stands rs (creates_sq q) (uncreated q at) un (filter (λ k. not (is_job 0 cid k)) js) (ans ++ an ∷ [])).0,
          f.completed (deletes_sq q),
          completions_less q at,
          alone,
          let bit : one (is_kind (deletes_sq q) rs cid && is_success st) ≤ 1 = grind arith in bit,
          ap one (not_other q is_known_deleted (λ st e. ap is_known_deleted (asked_is st e)) (own q at).waits),
        )
      where
        gone_cleared : (k : ℕ) (ds : List ServedQueue) → gone_at (change k cleared ds) k ≡ true
        gone_cleared k [] = refl
        gone_cleared zero (d ∷ ds) = refl
        gone_cleared (suc k) (d ∷ ds) = gone_cleared k ds
    submits q false at =
        omega (
          arith,
          h.submission q,
          f.unmade (creates_sq q),
          f.completed (deletes_sq q),
          ap (λ (b : Bool). one (b && is_success st)) (kind q false at),
          ap (λ (b : Bool). one (not b)) (controller_other (λ (at : ServedQueue). is_absent at.state) true cleared (named_queue j.entry) ds q at),
        )

    comes : (q : ℕ) → q < length hs → (b : Bool) → (named_queue j.entry == q) ≡ b
        → 0 < one (is_live_at hs q) + (unmade (deletes_sq q) rs un (filter (λ k. not (is_job 0 cid k)) js) (ans ++ an ∷ []) + done_well (creates_sq q) rs (filter (λ k. not (is_job 0 cid k)) js) (ans ++ an ∷ []))
        → gone_at (change (named_queue j.entry) cleared ds) q ≡ false
    comes q inside true at some =
        let none = none_stands rs (creates_sq q) (uncreated q at) un (filter (λ k. not (is_job 0 cid k)) js) (ans ++ an ∷ []) in
        absurd (omega (arith, some, none.2, counts q at, alone, ap one (not_other q is_live (λ st e. ap is_live (asked_is st e)) (own q at).waits)))
    comes q inside false at some =
        controller_other (λ (at : ServedQueue). is_absent at.state) true cleared (named_queue j.entry) ds q at ∙ h.there q inside (omega (arith, some, f.unmade (deletes_sq q), f.done (creates_sq q)))

pub tokens_complete : (rs : List Record) (hs : List HostQueue) (q cid : ℕ) (s : State) → refusal_of s (events.Complete q cid) ≡ None → KnowingP rs hs s.controller → TokensP rs hs s.controller → TokensP rs hs (a.after_complete q cid s).controller
tokens_complete rs hs zero cid s none g h =
    let there : is_some (slice_get s.controller.queues 0) ≡ true = queue_there s (unrefused s (events.Complete 0 cid) none).1.1.1.0 in
    let its_queue : (j : Job) → job_at s 0 cid ≡ Some j → j.q ≡ 0 = λ j e. eqb-true j.q 0 (and_parts (j.q == 0) (j.entry.cid == cid) (found_is (is_job 0 cid) s.controller.jobs j e)).0 in
    let verdict : (j : Job) → job_at s 0 cid ≡ Some j → (st : Status) × (j.verdict ≡ Some st) = λ j e. verdict_there j (rw e at (unrefused s (events.Complete 0 cid) none).1.0) in
    complete_by (λ (t : State). TokensP rs hs t.controller) s 0 cid h
    (λ j e c.
    let v = verdict j e in
    let n0 = clears_io rs s j v.0 (all-found (JobKnown rs) (is_job 0 cid) s.controller.jobs j e g.placed.jobs) (its_queue j e) v.1 c in
    let parts = and_parts ((j.q == 0) && (j.entry.opcode == DELETE_IO_SQ)) (is_success (a.final_status s j)) c in
    let an = posted_completion 0 cid (a.final_status s j) j.dw0 (a.on_served_queue (named_queue j.entry) cleared (finished 0 cid j s)) in
    let ds = s.controller.queues in
    completed_zero rs hs an (record s.controller { queues = change (named_queue j.entry) cleared s.controller.queues; jobs = filter (λ k. not (is_job 0 cid k)) s.controller.jobs; image = a.image_completed j s.controller.image })
    (some_still cleared (named_queue j.entry) ds there)
    (rw (waiting_other cleared (named_queue j.entry) ds n0, admin_completions_other cleared (named_queue j.entry) ds n0)
    (tokens_cleared rs hs ds (waiting ds) s.controller.jobs (admin_completions ds) cid j an v.0 e v.1 refl (final_admin s j v.0 (its_queue j e) v.1) (ap (λ (x : Status). is_success x) (sym (final_admin s j v.0 (its_queue j e) v.1)) ∙ parts.1)
    (and_parts (j.q == 0) (j.entry.opcode == DELETE_IO_SQ) parts.0).1 (names j e) g h)))
    (λ j e c.
    let v = verdict j e in
    let an = posted_completion 0 cid (a.final_status s j) j.dw0 (finished 0 cid j s) in
    let ds = s.controller.queues in
    completed_zero rs hs an (record s.controller { jobs = filter (λ k. not (is_job 0 cid k)) s.controller.jobs; image = a.image_completed j s.controller.image }) there
    (tokens_completed rs hs ds (waiting ds) s.controller.jobs (filter (λ k. not (is_job 0 cid k)) s.controller.jobs) (admin_completions ds) (admin_completions ds ++ an ∷ []) cid (is_success v.0)
    (completed rs (waiting ds) s.controller.jobs (admin_completions ds) cid j an v.0 e v.1 refl (final_admin s j v.0 (its_queue j e) v.1)) (quiet j e v.0 v.1 c) h))
  where
    names : (j : Job) → job_at s 0 cid ≡ Some j → Named rs j.entry
    names j e =
        let k = all-found (JobKnown rs) (is_job 0 cid) s.controller.jobs j e g.placed.jobs (eqb-true j.q 0 (and_parts (j.q == 0) (j.entry.cid == cid) (found_is (is_job 0 cid) s.controller.jobs j e)).0) in
        named rs j.entry k.0 k.1 k.2

    quiet : (j : Job) (e : job_at s 0 cid ≡ Some j) (st : Status) → j.verdict ≡ Some st → clears s j ≡ false → (q : ℕ) → (is_kind (deletes_sq q) rs cid && is_success st) ≡ false
    quiet j e st v c q =
        let p = and_parts (j.q == 0) (j.entry.cid == cid) (found_is (is_job 0 cid) s.controller.jobs j e) in
        let k : is_kind (deletes_sq q) rs cid ≡ ((j.entry.opcode == DELETE_IO_SQ) && (named_queue j.entry == q)) = rw (eqb-true j.entry.cid cid p.1) at (names j e).deletes_sq q in
        let c' : ((j.entry.opcode == DELETE_IO_SQ) && is_success st) ≡ false = rw (final_admin s j st (eqb-true j.q 0 p.0) v, p.0) at c in
        rw k (grind (arith, c'))
tokens_complete rs hs (suc k) cid s none g h =
    let other : (j : Job) → job_at s (suc k) cid ≡ Some j → (j.q == 0) ≡ false = λ j e.
    ap (λ (n : ℕ). n == 0) (eqb-true j.q (suc k) (and_parts (j.q == suc k) (j.entry.cid == cid) (found_is (is_job (suc k) cid) s.controller.jobs j e)).0) ∙ ne_zero k in
    complete_by (λ (t : State). TokensP rs hs t.controller) s (suc k) cid h
    (λ j e c. absurd (true≢false (sym (and_parts (j.q == 0) (j.entry.opcode == DELETE_IO_SQ) (and_parts ((j.q == 0) && (j.entry.opcode == DELETE_IO_SQ)) (is_success (a.final_status s j)) c).0).0 ∙ other j e)))
    (λ j e c. completed_elsewhere rs hs (suc k) (posted_completion (suc k) cid (a.final_status s j) j.dw0 (finished (suc k) cid j s)) (finished (suc k) cid j s).controller (ne_zero k)
    (tokens_fewer rs rs hs s.controller.queues (waiting s.controller.queues) (waiting s.controller.queues) s.controller.jobs (filter (λ j'. not (is_job (suc k) cid j')) s.controller.jobs) (admin_completions s.controller.queues) (admin_completions s.controller.queues)
    (record {
      unmade = λ test. omega (arith, total-filter (failing test rs) (λ j'. not (is_job (suc k) cid j')) s.controller.jobs);
      completed = λ test. omega arith;
      done = λ test. omega (arith, total-filter (succeeding test rs) (λ j'. not (is_job (suc k) cid j')) s.controller.jobs);
    }) h))

-- Every event of the host keeps the tokens of what is deleted and made.

abbrev pub TokensS : State → Type 0
TokensS s = TokensP s.host.records s.host.queues s.controller

-- Records that change, and their kinds stay

abbrev KeepsKinds : (Record → Record) → Type 0
KeepsKinds f = ((r : Record) → (f r).q ≡ r.q) × ((r : Record) → (f r).cid ≡ r.cid) × ((r : Record) → (f r).work ≡ r.work)

tokens_map : (rs : List Record) (f : Record → Record) (hs : List HostQueue) (ds : List ServedQueue) (un : List SubEntry) (js : List Job) (ans : List PostedCompletion) → KeepsKinds f → Placed rs un js ans
    → TokensHeld rs hs ds un js ans → TokensHeld (map f rs) hs ds un js ans
tokens_map rs f hs ds un js ans same placed h =
    tokens_fewer rs (map f rs) hs ds un un js js ans ans
    (fewer_kept rs (map f rs) un js ans placed (λ c adm k. (f k.0, find_map (is_at 0 c) f (λ r. rw (same.0 r, same.1 r) refl) rs k.0 k.1, same.2 k.0 ∙ k.2))).0 h

keeps_with : (q cid : ℕ) (f : Record → Record) → KeepsKinds f → KeepsKinds (λ r. if is_at q cid r then f r else r)
keeps_with q cid f same = (
  (λ r. (elim (is_at q cid r) as (λ b. (if b then f r else r).q ≡ r.q) [ true ↦ same.0 r | false ↦ refl ])),
  (λ r. (elim (is_at q cid r) as (λ b. (if b then f r else r).cid ≡ r.cid) [ true ↦ same.1 r | false ↦ refl ])),
  (λ r. (elim (is_at q cid r) as (λ b. (if b then f r else r).work ≡ r.work) [ true ↦ same.2 r | false ↦ refl ])),
)

keeps_lost : (q : ℕ) → KeepsKinds (a.lost q)
keeps_lost q = (
  (λ r. (elim ((r.q == q) && is_submitted r.phase) as (λ b. (if b then a.aborted r else r).q ≡ r.q) [ true ↦ refl | false ↦ refl ])),
  (λ r. (elim ((r.q == q) && is_submitted r.phase) as (λ b. (if b then a.aborted r else r).cid ≡ r.cid) [ true ↦ refl | false ↦ refl ])),
  (λ r. (elim ((r.q == q) && is_submitted r.phase) as (λ b. (if b then a.aborted r else r).work ≡ r.work) [ true ↦ refl | false ↦ refl ])),
)

-- Posting

posted_elsewhere : (rs : List Record) (hs : List HostQueue) (q : ℕ) (e : SubEntry) (d : Controller) → (q == 0) ≡ false → TokensP rs hs d → TokensP rs hs (record d { queues = change q (λ at. record at { unfetched = at.unfetched ++ e ∷ [] }) d.queues })
posted_elsewhere rs hs q e d other h =
    let f : ServedQueue → ServedQueue = λ at. record at { unfetched = at.unfetched ++ e ∷ [] } in
    rw (waiting_other f q d.queues other, admin_completions_other f q d.queues other)
    (tokens_controller rs hs d.queues (change q f d.queues) (waiting d.queues) d.jobs (admin_completions d.queues) (controller_same (λ at. is_absent at.state) true f q d.queues (λ d ed. refl)) (controller_same (λ at. at.cq_there) false f q d.queues (λ d ed. refl)) h)

posted_zero : (rs : List Record) (hs : List HostQueue) (e : SubEntry) (ds : List ServedQueue) (js : List Job) → TokensHeld rs hs ds (waiting ds ++ e ∷ []) js (admin_completions ds)
    → TokensHeld rs hs (change 0 (λ at. record at { unfetched = at.unfetched ++ e ∷ [] }) ds) (waiting (change 0 (λ at. record at { unfetched = at.unfetched ++ e ∷ [] }) ds)) js (admin_completions (change 0 (λ at. record at { unfetched = at.unfetched ++ e ∷ [] }) ds))
posted_zero rs hs e [] js h =
    tokens_fewer rs rs hs [] (e ∷ []) [] js js [] [] (record { unmade = λ test. omega arith; completed = λ test. omega arith; done = λ test. omega arith }) h
posted_zero rs hs e (at ∷ ds) js h =
    let f : ServedQueue → ServedQueue = λ at. record at { unfetched = at.unfetched ++ e ∷ [] } in
    tokens_controller rs hs (at ∷ ds) (change 0 f (at ∷ ds)) (at.unfetched ++ e ∷ []) js at.completions (controller_same (λ at. is_absent at.state) true f 0 (at ∷ ds) (λ d ed. refl)) (controller_same (λ at. at.cq_there) false f 0 (at ∷ ds) (λ d ed. refl)) h

-- an admin command is sent
sent_tokens : (adm : AdminKind) (id : ℕ) (s : State) (hs : List HostQueue) → total (here 0 id) s.host.records ≡ 0 → Stands s → Turns s.host.queues hs adm → TokensS s
    → TokensHeld (s.host.records ++ sent_record adm id ∷ []) hs (change 0 (λ at. record at { unfetched = at.unfetched ++ admin_entry adm id ∷ [] }) s.controller.queues) (waiting (change 0 (λ at. record at { unfetched = at.unfetched ++ admin_entry adm id ∷ [] }) s.controller.queues)) s.controller.jobs
    (admin_completions (change 0 (λ at. record at { unfetched = at.unfetched ++ admin_entry adm id ∷ [] }) s.controller.queues))
sent_tokens adm id s hs none stands turned h =
    let rs = s.host.records in
    let new = sent_record adm id in
    let knows : Knows (rs ++ new ∷ []) id adm = (new, find_new (is_at 0 id) rs new none (rw (eq-eqb id id refl) refl), refl) in
    posted_zero (rs ++ new ∷ []) hs (admin_entry adm id) s.controller.queues s.controller.jobs
    (tokens_sends rs (rs ++ new ∷ []) s.host.queues hs s.controller.queues (waiting s.controller.queues) (waiting s.controller.queues ++ admin_entry adm id ∷ []) s.controller.jobs (admin_completions s.controller.queues) adm
    (sends_more rs (waiting s.controller.queues) s.controller.jobs (admin_completions s.controller.queues) new adm id stands.placed knows) turned h)

-- Reaping

fewer_completions : (rs : List Record) (un : List SubEntry) (js : List Job) (ans : List PostedCompletion) → Fewer rs un js ans rs un js (drop 1 ans)
fewer_completions rs un js [] = record { unmade = λ test. omega arith; completed = λ test. omega arith; done = λ test. omega arith }
fewer_completions rs un js (an ∷ ans) = record { unmade = λ test. omega arith; completed = λ test. omega arith; done = λ test. omega arith }

consumed_tokens : (rs : List Record) (hs : List HostQueue) (q : ℕ) (d : Controller) → TokensP rs hs d → TokensP rs hs (record d { queues = change q (λ at. record at { completions = drop 1 at.completions }) d.queues })
consumed_tokens rs hs zero d h = tokens_stay d.queues h
  where
    f : ServedQueue → ServedQueue
    f at = record at { completions = drop 1 at.completions }

    tokens_stay : (ds : List ServedQueue) → TokensHeld rs hs ds (waiting ds) d.jobs (admin_completions ds)
        → TokensHeld rs hs (change 0 (λ at. record at { completions = drop 1 at.completions }) ds) (waiting (change 0 (λ at. record at { completions = drop 1 at.completions }) ds)) d.jobs (admin_completions (change 0 (λ at. record at { completions = drop 1 at.completions }) ds))
    tokens_stay [] h = h
    tokens_stay (at ∷ ds) h =
        let f : ServedQueue → ServedQueue = λ at. record at { completions = drop 1 at.completions } in
        tokens_controller rs hs (at ∷ ds) (change 0 f (at ∷ ds)) at.unfetched d.jobs (drop 1 at.completions) (controller_same (λ at. is_absent at.state) true f 0 (at ∷ ds) (λ d ed. refl)) (controller_same (λ at. at.cq_there) false f 0 (at ∷ ds) (λ d ed. refl))
        (tokens_fewer rs rs hs (at ∷ ds) at.unfetched at.unfetched d.jobs d.jobs at.completions (drop 1 at.completions) (fewer_completions rs at.unfetched d.jobs at.completions) h)
consumed_tokens rs hs (suc k) d h =
    let f : ServedQueue → ServedQueue = λ at. record at { completions = drop 1 at.completions } in
    rw (waiting_other f (suc k) d.queues (ne_zero k), admin_completions_other f (suc k) d.queues (ne_zero k))
    (tokens_controller rs hs d.queues (change (suc k) f d.queues) (waiting d.queues) d.jobs (admin_completions d.queues) (controller_same (λ at. is_absent at.state) true f (suc k) d.queues (λ d ed. refl)) (controller_same (λ at. at.cq_there) false f (suc k) d.queues (λ d ed. refl)) h)

heard_alike : (q : ℕ) (e : ComEntry) (s : State) → Alike s.host.queues (a.heard q e s).host.queues
heard_alike q e s =
    alike_then s.host.queues (a.consumed q s).host.queues (a.heard q e s).host.queues (alike_ring q (next_head s.entries) s.host.queues) (alike_ring q (knowing e.sqhd) (a.consumed q s).host.queues)

-- the completion of an admin command is reaped
heard_tokens : (q cid : ℕ) (st : Status) (e : ComEntry) (r : Record) (adm : AdminKind) (s : State) (hs : List HostQueue) → q ≡ 0 → s.trusted ≡ true → IsHeard s q cid st e r → r.work ≡ Management adm
    → PlacedIn (without_record q cid s.host.records) (record s.controller { queues = change q (λ at. record at { completions = drop 1 at.completions }) s.controller.queues }) → MovesOn (a.heard q e s).host.queues hs adm (is_success st) → TokensS s
    → TokensP (without_record q cid s.host.records) hs (record s.controller { queues = change q (λ at. record at { completions = drop 1 at.completions }) s.controller.queues })
heard_tokens (suc k) cid st e r adm s hs is t heard w placed moved h = absurd (omega (arith, is))
heard_tokens zero cid st e r adm s hs is t heard w placed moved h =
    let rs = s.host.records in
    let ds = s.controller.queues in
    let f : ServedQueue → ServedQueue = λ at. record at { completions = drop 1 at.completions } in
    let an = completion_heard s 0 cid st e r t heard in
    let first = admin_completions_rest ds an.completion an.first in
    let un : waiting (change 0 f ds) ≡ waiting ds = waiting_same f (λ at. refl) 0 ds in
    let placed' : Placed (without_record 0 cid rs) (waiting ds) s.controller.jobs (admin_completions (change 0 f ds)) = subst (λ xs. Placed (without_record 0 cid rs) xs s.controller.jobs (admin_completions (change 0 f ds))) un placed.placed in
    let before : TokensHeld rs (a.heard 0 e s).host.queues ds (waiting ds) s.controller.jobs (an.completion ∷ admin_completions (change 0 f ds)) =
    subst (λ xs. TokensHeld rs (a.heard 0 e s).host.queues ds (waiting ds) s.controller.jobs xs) first (tokens_alike rs s.host.queues (a.heard 0 e s).host.queues ds (waiting ds) s.controller.jobs (admin_completions ds) (heard_alike 0 e s) h) in
    let hears : Hears rs (waiting ds) s.controller.jobs (an.completion ∷ admin_completions (change 0 f ds)) (without_record 0 cid rs) (admin_completions (change 0 f ds)) adm (is_success st) =
    subst (λ (x : Status). Hears rs (waiting ds) s.controller.jobs (an.completion ∷ admin_completions (change 0 f ds)) (without_record 0 cid rs) (admin_completions (change 0 f ds)) adm (is_success x)) an.its_status
    (hears_first rs cid (waiting ds) s.controller.jobs an.completion (admin_completions (change 0 f ds)) adm an.its_id (r, heard.found, w) placed') in
    subst (λ xs. TokensHeld (without_record 0 cid rs) hs (change 0 f ds) xs s.controller.jobs (admin_completions (change 0 f ds))) (sym un)
    (tokens_controller (without_record 0 cid rs) hs ds (change 0 f ds) (waiting ds) s.controller.jobs (admin_completions (change 0 f ds)) (controller_same (λ at. is_absent at.state) true f 0 ds (λ d ed. refl)) (controller_same (λ at. at.cq_there) false f 0 ds (λ d ed. refl))
    (tokens_hears rs (without_record 0 cid rs) (a.heard 0 e s).host.queues hs ds (waiting ds) s.controller.jobs (an.completion ∷ admin_completions (change 0 f ds)) (admin_completions (change 0 f ds)) adm (is_success st) hears moved before))

-- Every event

alone_known : (st : HostState) → has_cq_alone st ≡ true → is_known_deleted st ≡ true
alone_known st h = grind arith

pub tokens_host_event : (s : State) (e : Event) (reply : Reply) → Accepts s e reply → IsController e ≡ false → s.trusted ≡ true → length s.host.queues ≤ 65536 → length s.controller.queues ≡ length s.host.queues
    → s.host.peer ≡ Modelled → HoldsPart (host_part s) → Stands s → Stands (a.after s e reply) → TokensS s → TokensS (a.after s e reply)
tokens_host_event s e reply ok c t few long m holds stands left h =
    let posted : AdminKind → ℕ → List ServedQueue = λ adm id. change 0 (λ at. record at { unfetched = at.unfetched ++ admin_entry adm id ∷ [] }) s.controller.queues in
    let with : (q cid : ℕ) (f : Record → Record) → KeepsKinds f → TokensHeld (with_record q cid f s.host.records) s.host.queues s.controller.queues (waiting s.controller.queues) s.controller.jobs (admin_completions s.controller.queues) = λ q cid f same.
    tokens_map s.host.records (λ r. if is_at q cid r then f r else r) s.host.queues s.controller.queues (waiting s.controller.queues) s.controller.jobs (admin_completions s.controller.queues) (keeps_with q cid f same) stands.placed h in
    let less : (q cid : ℕ) → Placed (without_record q cid s.host.records) (waiting s.controller.queues) s.controller.jobs (admin_completions s.controller.queues) → TokensHeld (without_record q cid s.host.records) s.host.queues s.controller.queues (waiting s.controller.queues) s.controller.jobs (admin_completions s.controller.queues) = λ q cid placed.
    tokens_fewer s.host.records (without_record q cid s.host.records) s.host.queues s.controller.queues (waiting s.controller.queues) (waiting s.controller.queues) s.controller.jobs s.controller.jobs (admin_completions s.controller.queues) (admin_completions s.controller.queues)
    (fewer_kept (without_record q cid s.host.records) s.host.records (waiting s.controller.queues) s.controller.jobs (admin_completions s.controller.queues) placed (knows_back q cid s.host.records)).1 h in
    let sent : (adm : AdminKind) (id : ℕ) → total (here 0 id) s.host.records ≡ 0 → ((z : ℕ) → (makes_sq z adm ≡ false) × (makes_cq z adm ≡ false) × (deletes_sq z adm ≡ false)) → TokensS (sends adm id s) = λ adm id none quiet.
    let p = change 0 (λ at. record at { unfetched = at.unfetched ++ admin_entry adm id ∷ [] }) s.controller.queues in
    tokens_alike (s.host.records ++ sent_record adm id ∷ []) s.host.queues (change 0 (λ x. record x { ring = next_tail s.entries x.ring }) s.host.queues) p (waiting p) s.controller.jobs (admin_completions p) (alike_ring 0 (next_tail s.entries) s.host.queues)
    (sent_tokens adm id s s.host.queues none stands (turns_not adm s.host.queues quiet) h) in
    let both : (x y : Bool) → x ≡ true → y ≡ true → (x && y) ≡ true = λ x y e f. grind arith in
    -- a queue of the host is named by its number
    let named : (k : ℕ) (x : HostQueue) (hs : List HostQueue) → slice_get hs k ≡ Some x → length hs ≤ 65536 → ((k % 65536 == k) ≡ true) × (k % 65536 ≡ k) = λ k x hs e few.
    let is = small k (length hs) (below hs k (ap is_some e)) few in (eq-eqb (k % 65536) k is, is) in
    let moved : (q cid : ℕ) (st : Status) (e : ComEntry) (r : Record) (adm : AdminKind) → IsHeard s q cid st e r → r.work ≡ Management adm
    → PlacedIn (without_record q cid s.host.records) (record s.controller { queues = change q (λ at. record at { completions = drop 1 at.completions }) s.controller.queues }) → (k : ℕ) (f : HostQueue → HostQueue)
    → ((x : HostQueue) → slice_get (a.heard q e s).host.queues k ≡ Some x → (k % 65536 == k) ≡ true → (one (is_known_deleted (f x).state) ≤ one (is_known_deleted x.state) + (one (deletes_sq k adm && is_success st) + one (makes_sq k adm && not (is_success st))))
    × (one (is_gone (f x).state) ≤ one (is_gone x.state) + (one (deletes_cq k adm && is_success st) + one (makes_cq k adm && not (is_success st))))
    × (one (is_live (f x).state) ≤ one (is_live x.state) + (one (deletes_sq k adm && not (is_success st)) + one (makes_sq k adm && is_success st))))
    → TokensP (without_record q cid s.host.records) (change k f (a.heard q e s).host.queues) (record s.controller { queues = change q (λ at. record at { completions = drop 1 at.completions }) s.controller.queues }) = λ q cid st e r adm heard w placed k f each.
    let hs1 = (a.heard q e s).host.queues in
    let long : length hs1 ≤ 65536 = subst (λ (n : ℕ). n ≤ 65536) (sym (heard_alike q e s).long) few in
    heard_tokens q cid st e r adm s (change k f hs1) (admin_zero s q cid r adm holds heard.found w) t heard w placed
    (moves_on adm (is_success st) hs1 k f (λ x ex. each x ex (eq-eqb (k % 65536) k (small k (length hs1) (below hs1 k (ap is_some ex)) long)))) h in
    let alike_retired : (q : ℕ) (hs : List HostQueue) → ((x : HostQueue) → slice_get hs q ≡ Some x → x.state ≡ Deleting true) → Alike hs (change q a.retired hs) = λ q hs is.
    record {
      long = length-change q a.retired hs;
      known = at_same is_known_deleted a.retired q hs (λ x e. sym (ap is_known_deleted (is x e)));
      gone = at_same is_gone a.retired q hs (λ x e. sym (ap is_gone (is x e)));
      live = at_same is_live a.retired q hs (λ x e. sym (ap is_live (is x e)));
    } in
    let rs : List Record = s.host.records in
    let ds : List ServedQueue = s.controller.queues in
    let un : List SubEntry = waiting s.controller.queues in
    let js : List Job = s.controller.jobs in
    let ans : List PostedCompletion = admin_completions s.controller.queues in
    host_moves (λ (e : Event) (reply : Reply) (u : State). Stands u → TokensS u) s e reply ok c
    (record {
      reserves = λ q request d none is left. tokens_fewer rs (rs ++ drafted_record d ∷ []) hs ds un un js js ans ans
          (fewer_kept rs (rs ++ drafted_record d ∷ []) un js ans stands.placed (λ c adm k. (k.0, find_more (is_at 0 c) rs (drafted_record d) k.0 k.1, k.2))).0 h;
      submits = λ d entry r none built its live left.
          let hs' = change d.q (λ x. record x { ring = next_tail s.entries x.ring }) hs in
          posted_elsewhere (with_record d.q d.cid a.submitted rs) hs' d.q entry s.controller (io_other s d.q d.cid r its.asked.0 m holds its.found its.asked.1)
          (tokens_alike (with_record d.q d.cid a.submitted rs) hs hs' ds un js ans (alike_ring d.q (next_tail s.entries) hs) (with d.q d.cid a.submitted ((λ r'. refl), (λ r'. refl), (λ r'. refl))));
      cancels = λ d r its left. less d.q d.cid left.placed;
      rings = λ q none left.
          let f : ServedQueue → ServedQueue = λ at. record at { rung = length at.unfetched } in
          rw (waiting_same f (λ at. refl) q ds, admin_completions_same f (λ at. refl) q ds)
          (tokens_controller rs hs ds (change q f ds) un js ans (controller_same (λ at. is_absent at.state) true f q ds (λ d ed. refl)) (controller_same (λ at. at.cq_there) false f q ds (λ d ed. refl)) h);
      rests = λ q is left. h;
      rejects = λ q why is left. consumed_tokens rs (a.consumed q s).host.queues q s.controller (tokens_alike rs hs (a.consumed q s).host.queues ds un js ans (alike_ring q (next_head s.entries) hs) h);
      tells = λ q cid st what e r request told heard w left.
          let rs' = with_record q cid (a.held st e.hints) rs in
          consumed_tokens rs' (a.heard q e s).host.queues q s.controller (tokens_alike rs' hs (a.heard q e s).host.queues ds un js ans (heard_alike q e s) (with q cid (a.held st e.hints) ((λ r'. refl), (λ r'. refl), (λ r'. refl))));
      hears = λ q cid st what e r adm told heard w quiet unmade left.
          heard_tokens q cid st e r adm s (a.heard q e s).host.queues (admin_zero s q cid r adm holds heard.found w) t heard w (record { placed = left.placed }) (moves_not adm (is_success st) (a.heard q e s).host.queues) h;
      notes = λ q cid st what e r k told heard w left.
          moved q cid st e r (DeleteSq k) heard w (record { placed = left.placed }) k (λ queue. record queue { state = if is_success st then Deleting true else Live })
          (λ x ex kk. noted (one (is_known_deleted x.state)) (one (is_gone x.state)) (one (is_live x.state)) (is_success st) k kk);
      frees = λ q cid st what e r k queue told heard w at alone good left.
          moved q cid st e r (DeleteCq k) heard w (record { placed = left.placed }) k a.gone
          (λ x ex kk. let same : queue ≡ x = cc (at, ex) in let over : is_known_deleted x.state ≡ true = ap (λ (z : HostQueue). is_known_deleted z.state) (sym same) ∙ alone_known queue.state alone in
          (omega (arith, ap one over), omega (arith, ap one (both (k % 65536 == k) (is_success st) kk good)), omega arith));
      makes_cq = λ q cid st what e r k n base vector told heard w good left.
          moved q cid st e r (CreateCq k n base vector) heard w (record { placed = left.placed }) k a.half_made
          (λ x ex kk. let over = ap is_known_deleted (making_cq_as_heard s q cid st e r k n base vector holds heard w x ex) in (omega (arith, ap one over), omega arith, omega arith));
      unmakes_cq = λ q cid st what e r k n base vector queue told heard w at bad left.
          moved q cid st e r (CreateCq k n base vector) heard w (record { placed = left.placed }) k a.gone
          (λ x ex kk. let over = ap is_known_deleted (making_cq_as_heard s q cid st e r k n base vector holds heard w x ex) in
          (omega (arith, ap one over), omega (arith, ap one (both (k % 65536 == k) (not (is_success st)) kk (ap not bad))), omega arith));
      makes_sq = λ q cid st what e r k n base told heard w good left.
          moved q cid st e r (CreateSq k n base) heard w (record { placed = left.placed }) k a.live
          (λ x ex kk. (omega arith, omega arith, omega (arith, ap one (both (k % 65536 == k) (is_success st) kk good))));
      unmakes_sq = λ q cid st what e r k n base queue told heard w at bad left.
          moved q cid st e r (CreateSq k n base) heard w (record { placed = left.placed }) k a.unmade_sq
          (λ x ex kk. (omega (arith, ap one (both (k % 65536 == k) (not (is_success st)) kk (ap not bad))), omega arith, omega arith));
      collects = λ q cid r f at held is left. with q cid a.collected ((λ r'. refl), (λ r'. refl), (λ r'. refl));
      releases = λ f r its left. less f.q f.cid left.placed;
      aborts = λ q cid id none new left. sent (Abort q cid) id (unused s 0 id new) (λ z. (refl, refl, refl));
      asks = λ q id queue none new live left.
          let s1 = a.on_ring 0 (next_tail s.entries) s in
          let y = ring_after 0 q (next_tail s.entries) hs queue live.there in
          let is : is_live y.0.state ≡ true = ap is_live (y.2 ∙ live.live) in
          let kk = named q y.0 s1.host.queues y.1 (subst (λ (n : ℕ). n ≤ 65536) (sym (length-change 0 (λ x. record x { ring = next_tail s.entries x.ring }) hs)) few) in
          sent_tokens (DeleteSq q) id s1 (change q a.deleting s1.host.queues) (unused s 0 id new) (record { placed = stands.placed })
          (turns (DeleteSq q) s1.host.queues q a.deleting y.0 y.1 (λ z far. (refl, refl, ap (λ (n : ℕ). n == z) kk.1 ∙ far)) (omega arith, omega arith, omega (arith, ap one kk.0, ap one is)))
          (tokens_alike rs hs s1.host.queues ds un js ans (alike_ring 0 (next_tail s.entries) hs) h);
      drops = λ q id none new left. sent (DeleteCq q) id (unused s 0 id new) (λ z. (refl, refl, refl));
      creates_cqs = λ q vector id first queue none new granted left.
          let f = a.making_cq (half_from Completion first s) in
          let adm = creates_cq_moves q vector first s in
          let kk = named q queue hs granted.there few in
          let was : is_gone queue.state ≡ true = ap is_gone granted.state in
          let over : is_known_deleted queue.state ≡ true = ap is_known_deleted granted.state in
          tokens_alike (rs ++ sent_record adm id ∷ []) (change q f hs) (change 0 (λ x. record x { ring = next_tail s.entries x.ring }) (change q f hs)) (posted adm id) (waiting (posted adm id)) js (admin_completions (posted adm id)) (alike_ring 0 (next_tail s.entries) (change q f hs))
          (sent_tokens adm id s (change q f hs) (unused s 0 id new) stands
          (turns adm hs q f queue granted.there (λ z far. (refl, ap (λ (n : ℕ). n == z) kk.1 ∙ far, refl)) (omega (arith, ap one over), omega (arith, ap one kk.0, ap one was), omega arith)) h);
      creates_sqs = λ q id first queue none new granted left.
          let f = a.making_sq (half_from Submission first s) in
          let adm = creates_sq_moves q first s in
          let kk = named q queue hs granted.there few in
          let over : is_known_deleted queue.state ≡ true = ap is_known_deleted granted.state in
          tokens_alike (rs ++ sent_record adm id ∷ []) (change q f hs) (change 0 (λ x. record x { ring = next_tail s.entries x.ring }) (change q f hs)) (posted adm id) (waiting (posted adm id)) js (admin_completions (posted adm id)) (alike_ring 0 (next_tail s.entries) (change q f hs))
          (sent_tokens adm id s (change q f hs) (unused s 0 id new) stands
          (turns adm hs q f queue granted.there (λ z far. (ap (λ (n : ℕ). n == z) kk.1 ∙ far, refl, refl)) (omega (arith, ap one kk.0, ap one over), omega arith, omega arith)) h);
      retires = λ q queue none at deleted left.
          tokens_alike (map (a.lost q) rs) hs (change q a.retired hs) ds un js ans
          (alike_retired q hs (λ x ex. let same : queue ≡ x = cc (at, ex) in ap (λ (z : HostQueue). z.state) (sym same) ∙ deleted))
          (tokens_map rs (a.lost q) hs ds un js ans (keeps_lost q) stands.placed h);
      forges = λ q slot bytes queue none at left. h;
      resets = λ left. rw (no_waiting s.controller.queues, no_admin_completions s.controller.queues) (reset_tokens (a.reset_records s.host.records) s.host.queues s.controller.queues long);
    }) left
  where
    hs : List HostQueue
    hs = s.host.queues

    noted : (n m l : ℕ) (b : Bool) (k : ℕ) → (k % 65536 == k) ≡ true
        → (one (is_known_deleted (if b then Deleting true else Live)) ≤ n + (one ((k % 65536 == k) && b) + one (false && not b))) × (one (is_gone (if b then Deleting true else Live)) ≤ m + (one (false && b) + one (false && not b)))
        × (one (is_live (if b then Deleting true else Live)) ≤ l + (one ((k % 65536 == k) && not b) + one (false && b)))
    noted n m l true k kk = (omega (arith, ap (λ (b : Bool). one (b && true)) kk), omega arith, omega arith)
    noted n m l false k kk = (omega arith, omega arith, omega (arith, ap (λ (b : Bool). one (b && true)) kk))
