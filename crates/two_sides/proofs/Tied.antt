-- Both sides know the same commands.
use Rattle.machine_model.specs.After as a
use Rattle.machine_model.specs.Refusals as refusals
use Rattle.machine_model.specs.Events as events
use Rattle.std.proofs.Common.{◌≡◌, ℕ, zero, suc, ◌+◌, ◌-◌, ◌<◌, ◌==◌, nat_lt, Bool, true, false, not, ◌&&◌, Option, Some, None, List, [], ◌∷◌, ◌++◌, map, filter, length, drop, slice_get, is_none, is_some, option_and_then, if◌then◌else◌, refl, ap, sym, ◌∙◌, arith, subst, eqb-true, inl, inr, ◌≤◌}
use Rattle.std.{proofs.lemmas.Bool.{true≢false, and_parts, or_parts, cases_Bool, eqb-false}, specs.{List.list_any, Option.option_map_or}}
use Rattle.machine_model.proofs.Counting.{total-append, total-map, total-filter, get_other}
use Rattle.machine_model.proofs.Kept.{live_serves, live_in_use, ring_at, asked_as_heard, making_cq_as_heard, making_sq_as_heard}
use Rattle.machine_model.proofs.Moves.{host_moves, posts, sends, queue_found, half_from, grants_cq, grants_sq, creates_cq, creates_sq, sent_record}
use Rattle.machine_model.proofs.{Owned.{HoldsPart, awaited_at, at_same, at_other, at_found, at_changed}, Sound.still_live}
use Rattle.machine_model.proofs.{Steps.{managed_by, absent_state, unrefused, Accepts}, Tokens.{find_more, fewer_kept, knows_back, kind_known}}
use Rattle.machine_model.proofs.TokensKept.{same_length, halves_fit, reset_pairs, TokensHeld}
use Rattle.machine_model.specs.Agreeing.{is_absent_at as gone_at, has_completions_at as there_at, QueueFits as PairOk, QueuesFit as Paired, on_queue, is_out_of_service_at as out_at, is_known_deleted as is_over, is_known_deleted, AdminCommandsStand as Placed, Knows, is_kind, unmade, completed_well, done_well, deletes_sq, deletes_cq, creates_cq as creates_cq_agreeing, creates_sq as creates_sq_agreeing}
use Rattle.machine_model.specs.{Claims.AdminLives, Events.{Event, Reply}, Memory.with_pages}
use Rattle.machine_model.specs.Refusals.{host_queue, next_rung, waits, in_service, is_gone, is_job, refusal_of, has_sq, has_cq, is_live, is_making, has_cq_alone}
use Rattle.machine_model.specs.State.{State, Controller, HostQueue, ServedQueue, Job, PostedCompletion, with_record, Record, is_at, without_record}
use Rattle.machine_model.specs.{Step.{HostPart, host_part, IsController}, Weights.{one, total}, declared.words.HostState.HostState}
use Rattle.machine_model.specs.declared.words.HostState.TheVariants.{Live, Deleting, Gone, MakingCq, HalfMade, MakingSq}
use Rattle.admin_commands.specs.{Entries.{named_queue, named_command, admin_entry}, Verdicts.{is_absent, is_live as is_running}, declared.AdminKind.AdminKind}
use Rattle.admin_commands.specs.declared.{AdminKind.TheVariants.{Abort, DeleteSq, DeleteCq}, SqState.TheVariants.Stopping}
use Rattle.entry_codec.specs.{Status.is_success, declared.{admin_opcode.TheConstants.DELETE_IO_SQ, completion.ComEntry.ComEntry, status.Status.Status}}
use Rattle.entry_codec.specs.declared.{status.TheConstants.Status.{SUCCESS, ABORT_REQUESTED, ABORTED_SQ_DELETION}, submission.SubEntry.SubEntry}
use Rattle.io_commands.specs.Jobs.{io_fault, bytes_after_check}
use Rattle.queue_pair.specs.{Members.change, Memory.half_pages, Rings.{next_tail, next_head, knowing, HostRing}}
use Rattle.two_sides.proofs.ControllerMoves.{paired_at, found_counts, Tied, Tie, Fit, tie_jobs, tie_less, tie_completed, tie_stop, tie_drop, tie_completion, tie_submission, tie_kill, stays_false, tie_host, tie_ring, tie_posted, pair_moves, unit_done, cleared, fetch_by, walk_by, complete_by}
use Rattle.two_sides.proofs.Standing.{runs_there, verdict_there, final_admin}
use Rattle.page_memory.specs.declared.page.Half.TheVariants.{Submission, Completion}
use Rattle.page_ledger.proofs.Pages.{length-pages_from}
use Rattle.controller_core.proofs.Lists.{length-change}

-- Every event keeps the controller's queues tied to the host's.

abbrev pub FitP : HostPart → Controller → Type 0
FitP part d = Fit part.entries part.host.records part.host.queues d.queues d.jobs

abbrev pub FitS : State → Type 0
FitS s = FitP (host_part s) s.controller

abbrev pub TieP : HostPart → Controller → Type 0
TieP part d = Tie part.entries part.host.queues d.queues d.jobs

pub below : {A : Type 0} (xs : List A) (k : ℕ) → is_some (slice_get xs k) ≡ true → k < length xs
below [] k h = absurd (true≢false (sym h))
below (x ∷ xs) zero h = omega arith
below (x ∷ xs) (suc k) h = omega (arith, below xs k h)

-- what the tokens say of a queue
pub deleted_is_gone : (s : State) → FitS s → (q : ℕ) (queue : HostQueue) → host_queue s q ≡ Some queue → is_over queue.state ≡ true → gone_at s.controller.queues q ≡ true
deleted_is_gone s h q queue e over = grind arith

pub freed_is_gone : (s : State) → FitS s → (q : ℕ) (queue : HostQueue) → host_queue s q ≡ Some queue → is_gone queue.state ≡ true → there_at s.controller.queues q ≡ false
freed_is_gone s h q queue e gone = grind arith

pub tied_from_fit : (s : State) → FitS s → Tied s
tied_from_fit s h = record { some_entries = h.some_entries; pairs = h.pairs; jobs = h.jobs; over = deleted_is_gone s h; gone = freed_is_gone s h }

-- The controller's events change its controller alone

-- one more job, of a queue that is there and in service
tie_more : (part : HostPart) (d : Controller) (j : Job) → gone_at d.queues j.q ≡ false → out_at part.host.queues j.q ≡ false → TieP part d → TieP part (record d { jobs = d.jobs ++ j ∷ [] })
tie_more part d j there served h = record {
  pairs = h.pairs;
  jobs = λ q some. by_queue (λ z. gone_at d.queues z ≡ false) h.jobs there q (j.q == q) refl some (total-append (on_queue q) d.jobs (j ∷ []));
  service = λ q some. by_queue (λ z. out_at part.host.queues z ≡ false) h.service served q (j.q == q) refl some (total-append (on_queue q) d.jobs (j ∷ []));
}
  where
    by_queue : (P : ℕ → Type 0) → ((q : ℕ) → 0 < total (on_queue q) d.jobs → P q) → P j.q
        → (q : ℕ) (b : Bool) → (j.q == q) ≡ b → 0 < total (on_queue q) (d.jobs ++ j ∷ []) → total (on_queue q) (d.jobs ++ j ∷ []) ≡ total (on_queue q) d.jobs + (on_queue q j + 0) → P q
    by_queue P before own q true e some t = subst P (eqb-true j.q q e) own
    by_queue P before own q false e some t = before q (omega (arith, t, ap one e))

tie_jobs_map : (part : HostPart) (d : Controller) (f : Job → Job) → ((j : Job) → (f j).q ≡ j.q) → TieP part d → TieP part (record d { jobs = map f d.jobs })
tie_jobs_map part d f same h =
    tie_jobs part.entries part.host.queues d.queues d.jobs (map f d.jobs) (λ q. omega (arith, total-map (on_queue q) f (λ j. ap (λ (z : ℕ). one (z == q)) (same j)) d.jobs)) h

tie_on_job : (part : HostPart) (q cid : ℕ) (f : Job → Job) (s : State) → ((j : Job) → (f j).q ≡ j.q) → TieP part s.controller → TieP part (a.on_job q cid f s).controller
tie_on_job part q cid f s same h =
    tie_jobs_map part s.controller (λ j. if (j.q == q) && (j.entry.cid == cid) then f j else j)
    (λ j. (elim ((j.q == q) && (j.entry.cid == cid)) as (λ b. (if b then f j else j).q ≡ j.q) [ true ↦ same j | false ↦ refl ])) h

pub stopped_q : (q : ℕ) (j : Job) → (a.stopped q j).q ≡ j.q
stopped_q q j = (elim ((j.q == q) && is_none j.verdict) as (λ b. (if b then record j { verdict = Some ABORTED_SQ_DELETION } else j).q ≡ j.q) [ true ↦ refl | false ↦ refl ])

tie_managed : (part : HostPart) (e : SubEntry) (s : State) → gone_at s.controller.queues 0 ≡ false → out_at part.host.queues 0 ≡ false → TieP part s.controller → TieP part (a.managed e s).controller
tie_managed part e s there served h =
    let decided : (st : Status) (dw0 : ℕ) (t : State) → gone_at t.controller.queues 0 ≡ false → TieP part t.controller → TieP part (a.decided e st dw0 t).controller = λ st dw0 t is.
    tie_more part t.controller (a.new_job 0 e (Some st) dw0 []) is served in
    managed_by (λ (t : State). TieP part t.controller) e s
    (record {
      refuses = λ st bad. decided st 0 s there h;
      aborts = λ is8 w. decided SUCCESS 0 (a.on_job (named_queue e) (named_command e) (λ j. record j { verdict = Some ABORT_REQUESTED; waiting_abort = Some e.cid }) s) there
          (tie_on_job part (named_queue e) (named_command e) (λ j. record j { verdict = Some ABORT_REQUESTED; waiting_abort = Some e.cid }) s (λ j. refl) h);
      is_late = λ is8. decided SUCCESS 1 s there h;
      stops = λ is0 q0 runs.
          let s1 = a.on_served_queue (named_queue e) (λ at. record at { state = Stopping }) s in
          decided SUCCESS 0 (a.on_controller (λ d. record d { jobs = map (a.stopped (named_queue e)) d.jobs }) s1) (still (λ d. record d { state = Stopping }) (λ d z. refl))
          (tie_jobs_map part s1.controller (a.stopped (named_queue e)) (stopped_q (named_queue e))
          (tie_stop part.entries part.host.queues s.controller.queues s.controller.jobs (named_queue e) (runs_there s (named_queue e) runs) h));
      drops = λ is4 q0 has gone. decided SUCCESS 0 (a.on_served_queue (named_queue e) a.dropped s) (still a.dropped (λ d z. z))
          (tie_drop part.entries part.host.queues s.controller.queues s.controller.jobs (named_queue e) (absent_state s (named_queue e) gone) h);
      makes_completion = λ is5 q0 gone. decided SUCCESS 0 (a.on_served_queue (named_queue e) a.completion_made s) (still a.completion_made (λ d z. z))
          (tie_completion part.entries part.host.queues s.controller.queues s.controller.jobs (named_queue e) h);
      makes_submission = λ is1 q0 gone has. decided SUCCESS 0 (a.on_served_queue (named_queue e) a.submission_made s) (still a.submission_made (λ d z. refl))
          (tie_submission part.entries part.host.queues s.controller.queues s.controller.jobs (named_queue e) has h);
    })
  where
    still : (f : ServedQueue → ServedQueue) → ((d : ServedQueue) → is_absent d.state ≡ false → is_absent (f d).state ≡ false) → gone_at (change (named_queue e) f s.controller.queues) 0 ≡ false
    still f same = stays_false (λ (d : ServedQueue). is_absent d.state) true (named_queue e) f s.controller.queues 0 (λ d ed z. same d) there

-- an entry that is fetched is one of a queue in service
rung_served : (part : HostPart) (s : State) (q : ℕ) (e : SubEntry) → next_rung s q ≡ Some e → Paired part.entries part.host.queues s.controller.queues → out_at part.host.queues q ≡ false
rung_served part s q e h pairs = if_found (slice_get s.controller.queues q) refl h
  where
    fetched : (b : Bool) (un : List SubEntry) → (if b then slice_get un 0 else None) ≡ Some e → un ≡ [] → ⊥
    fetched true un is none = let no : ◌≡◌ {A = Option SubEntry} None (Some e) = sym (ap (λ (xs : List SubEntry). slice_get xs 0) none) ∙ is in absurd cc
    fetched false un is none = absurd cc

    if_found : (o : Option ServedQueue) → slice_get s.controller.queues q ≡ o → option_and_then (λ queue. if is_running queue.state && nat_lt 0 queue.rung then slice_get queue.unfetched 0 else None) o ≡ Some e → out_at part.host.queues q ≡ false
    if_found None at is = absurd cc
    if_found (Some d) at is = let x = paired_at part.entries q part.host.queues s.controller.queues d at pairs in let ex = x.1 in let pair = x.2 in grind arith

pub tie_fetch : (part : HostPart) (q : ℕ) (s : State) → TieP part s.controller → TieP part (a.after_fetch q s).controller
tie_fetch part q s h =
    let off : (k : ℕ) → TieP part (a.taken_off k s).controller = λ k.
    tie_less part.entries part.host.queues s.controller.queues s.controller.jobs k (λ at. record at { unfetched = drop 1 at.unfetched; rung = at.rung - 1 }) (λ d. refl) (λ d. refl) (λ d none. ap (drop 1) none) (λ d none. none) h in
    let kept : (e : SubEntry) → next_rung s q ≡ Some e → (k : ℕ) → gone_at (a.taken_off k s).controller.queues q ≡ false = λ e next k.
    stays_false (λ (d : ServedQueue). is_absent d.state) true k (λ at. record at { unfetched = drop 1 at.unfetched; rung = at.rung - 1 }) s.controller.queues q (λ d ed z i. i) (grind arith) in
    fetch_by (λ (t : State). TieP part t.controller) s q h
    (λ e next c. tie_completed part.entries part.host.queues (a.taken_off q s).controller.queues s.controller.jobs q _ (rung_served part s q e next h.pairs) (off q))
    (λ e next c z. tie_managed part e (a.taken_off 0 s) (subst (λ (k : ℕ). gone_at (a.taken_off 0 s).controller.queues k ≡ false) z (kept e next 0)) (subst (λ (k : ℕ). out_at part.host.queues k ≡ false) z (rung_served part s q e next h.pairs)) (off 0))
    (λ e next c other. let fault = io_fault (a.image_blocks (a.taken_off q s)) e in
    tie_more part (a.taken_off q s).controller (a.new_job q e fault 0 (bytes_after_check s.controller.image e fault)) (kept e next q) (rung_served part s q e next h.pairs) (off q))

pub tie_walk : (part : HostPart) (q cid : ℕ) (s : State) → TieP part s.controller → TieP part (a.after_walk q cid s).controller
tie_walk part q cid s h = walk_by (λ (t : State). TieP part t.controller) s q cid h (λ j act at u. tie_on_job part q cid (unit_done s j act) s (λ j. refl) h)

-- no job of a queue is left where none passes the test
none_left : (n : ℕ) (js : List Job) → list_any (λ k. k.q == n) js ≡ false → total (on_queue n) js ≡ 0
none_left n [] h = refl
none_left n (j ∷ js) h = let both = or_parts (j.q == n) (list_any (λ k. k.q == n) js) h in omega (arith, ap one both.0, none_left n js both.1)

pub tie_complete : (part : HostPart) (q cid : ℕ) (s : State) → refusal_of s (events.Complete q cid) ≡ None → TieP part s.controller → TieP part (a.after_complete q cid s).controller
tie_complete part q cid s none h =
    let rest : List Job = filter (λ k. not (is_job q cid k)) s.controller.jobs in
    let less : Tie part.entries part.host.queues s.controller.queues (filter (λ k. not (is_job q cid k)) s.controller.jobs) =
    tie_jobs part.entries part.host.queues s.controller.queues s.controller.jobs (filter (λ k. not (is_job q cid k)) s.controller.jobs) (λ z. total-filter (on_queue z) (λ k. not (is_job q cid k)) s.controller.jobs) h in
    complete_by (λ (t : State). TieP part t.controller) s q cid h
    (λ j e c.
    let judged : is_none j.verdict ≡ false = rw e at (unrefused s (events.Complete q cid) none).1.0 in
    let free : waits s j ≡ false = rw e at (unrefused s (events.Complete q cid) none).1.1.0 in
    let v = verdict_there j judged in
    let c1 = and_parts ((j.q == 0) && (j.entry.opcode == DELETE_IO_SQ)) (is_success (a.final_status s j)) c in
    let ok : is_success v.0 ≡ true = ap is_success (sym (final_admin s j v.0 (eqb-true j.q 0 (and_parts (j.q == 0) (j.entry.opcode == DELETE_IO_SQ) c1.0).0) v.1)) ∙ c1.1 in
    tie_completed part.entries part.host.queues (change (named_queue j.entry) cleared s.controller.queues) rest q _ (h.service q (found_counts q cid s.controller.jobs j e))
    (tie_kill part.entries part.host.queues s.controller.queues rest (named_queue j.entry)
    -- a job of queue 0 whose deletion is done has no job of its queue before it
    (omega (arith, none_left (named_queue j.entry) s.controller.jobs (grind arith), total-filter (on_queue (named_queue j.entry)) (λ k. not (is_job q cid k)) s.controller.jobs)) less))
    (λ j e c. tie_completed part.entries part.host.queues s.controller.queues rest q _ (h.service q (found_counts q cid s.controller.jobs j e)) less)

-- The host's events keep the controller's queues tied to the host's.

abbrev pub TieS : State → Type 0
TieS s = Tie s.entries s.host.queues s.controller.queues s.controller.jobs

-- Posting: the queue is live, and there at the controller

pub record TakesEntries (s : State) (q : ℕ) : Type 0 where
  pub live : (x : HostQueue) → slice_get s.host.queues q ≡ Some x → is_live x.state ≡ true
  pub there : (x : HostQueue) → slice_get s.host.queues q ≡ Some x → gone_at s.controller.queues q ≡ false

pub tie_posts : (q : ℕ) (entry : SubEntry) (s : State) → TakesEntries s q → TieS s → TieS (posts q entry s)
tie_posts q entry s takes h =
    tie_ring s.entries s.host.queues (change q (λ at. record at { unfetched = at.unfetched ++ entry ∷ [] }) s.controller.queues) s.controller.jobs q (next_tail s.entries) (λ x e. live_in_use x.state (takes.live x e))
    (tie_posted s.entries s.host.queues s.controller.queues s.controller.jobs q entry takes.there (served (slice_get s.host.queues q) refl) h)
  where
    served : (o : Option HostQueue) → slice_get s.host.queues q ≡ o → out_at s.host.queues q ≡ false
    served None e = ap (λ (o : Option HostQueue). option_map_or (λ h. not (in_service h.state)) o false) e
    served (Some x) e = ap (λ (o : Option HostQueue). option_map_or (λ h. not (in_service h.state)) o false) e ∙ ap not (live_serves x.state (takes.live x e))

-- Reaping

made : (s : State) (q : ℕ) → refusal_of s (events.Reap q) ≡ None → (x : HostQueue) → slice_get s.host.queues q ≡ Some x → is_making x.state ≡ false
made s q none x e = grind arith

tie_consumed : (q : ℕ) (s : State) → refusal_of s (events.Reap q) ≡ None → TieS s → TieS (a.consumed q s)
tie_consumed q s none h =
    tie_less s.entries (change q (λ x. record x { ring = next_head s.entries x.ring }) s.host.queues) s.controller.queues s.controller.jobs q (λ at. record at { completions = drop 1 at.completions }) (λ d. refl) (λ d. refl) (λ d e. e) (λ d e. ap (drop 1) e)
    (tie_ring s.entries s.host.queues s.controller.queues s.controller.jobs q (next_head s.entries) (made s q none) h)

tie_heard : (q : ℕ) (e : ComEntry) (s : State) → refusal_of s (events.Reap q) ≡ None → TieS s → TieS (a.heard q e s)
tie_heard q e s none h =
    tie_ring s.entries (a.consumed q s).host.queues (a.consumed q s).controller.queues s.controller.jobs q (knowing e.sqhd)
    (λ y ey. let x = ring_at q q (next_head s.entries) s.host.queues y ey in ap is_making x.2 ∙ made s q none x.0 x.1) (tie_consumed q s none h)

-- Retiring: its completions are reaped

pub no_completions : (s : State) (q : ℕ) → s.trusted ≡ true → refusal_of s (events.Retire q) ≡ None → (d : ServedQueue) → slice_get s.controller.queues q ≡ Some d → d.completions ≡ []
no_completions s q t none d ed = grind arith

-- Every event

alone_is_out : (st : HostState) → has_cq_alone st ≡ true → in_service st ≡ false
alone_is_out st h = grind arith

pub record Ground (s : State) : Type 0 where
  pub trusted : s.trusted ≡ true
  pub holds : HoldsPart (host_part s)
  pub zero_live : AdminLives s.host.queues
  pub live : (q : ℕ) (x : HostQueue) → slice_get s.host.queues q ≡ Some x → is_live x.state ≡ true → gone_at s.controller.queues q ≡ false
  pub over : (q : ℕ) (x : HostQueue) → slice_get s.host.queues q ≡ Some x → is_over x.state ≡ true → gone_at s.controller.queues q ≡ true

pub takes_zero : (s : State) → Ground s → TakesEntries s 0
takes_zero s g = record { live = lives; there = λ x e. g.live 0 x e (lives x e) }
  where
    lives : (x : HostQueue) → slice_get s.host.queues 0 ≡ Some x → is_live x.state ≡ true
    lives x e = sym (ap (λ (o : Option HostQueue). option_map_or (λ h. is_live h.state) o true) e) ∙ g.zero_live

-- another queue changes
takes_still : (s : State) (q : ℕ) (f : HostQueue → HostQueue) → (q == 0) ≡ false → TakesEntries s 0 → (x : HostQueue) → slice_get (change q f s.host.queues) 0 ≡ Some x → slice_get s.host.queues 0 ≡ Some x
takes_still s q f other takes x e = sym (get_other q f s.host.queues 0 (eqb-false q 0 other)) ∙ e

pub tie_host_event : (s : State) (e : Event) (reply : Reply) → Accepts s e reply → IsController e ≡ false → Ground s → TieS s → TieS (a.after s e reply)
tie_host_event s e reply ok c g h =
    let sent : (adm : AdminKind) (id : ℕ) → TieS (sends adm id s) = λ adm id.
    let takes = takes_zero s g in tie_posts 0 (admin_entry adm id) (a.on_records (λ records. records ++ sent_record adm id ∷ []) s) (record { live = takes.live; there = takes.there }) h in
    let elsewhere : (adm : AdminKind) (id q : ℕ) (f : HostQueue → HostQueue) (t : State) → t.entries ≡ s.entries → t.host.queues ≡ change q f s.host.queues → t.controller.queues ≡ s.controller.queues → t.controller.jobs ≡ s.controller.jobs → (q == 0) ≡ false
    → Tie s.entries (change q f s.host.queues) s.controller.queues s.controller.jobs → TieS (sends adm id t) = λ adm id q f t es hs ds js other tie.
    let takes = takes_zero s g in
    let back : (x : HostQueue) → slice_get t.host.queues 0 ≡ Some x → slice_get s.host.queues 0 ≡ Some x = λ x e. takes_still s q f other takes x (ap (λ xs. slice_get xs 0) (sym hs) ∙ e) in
    tie_posts 0 (admin_entry adm id) (a.on_records (λ records. records ++ sent_record adm id ∷ []) t)
    (record { live = λ x e. takes.live x (back x e); there = λ x e. ap (λ xs. gone_at xs 0) ds ∙ takes.there x (back x e) }) (rw (es, hs, ds, js) tie) in
    host_moves (λ (e : Event) (reply : Reply) (t : State). refusal_of s e ≡ None → TieS t) s e reply ok c
    (record {
      reserves = λ q request d none is none'. h;
      submits = λ d entry r none built its live none'.
          let x = queue_found is_live s d.q live in
          let lives : (y : HostQueue) → slice_get s.host.queues d.q ≡ Some y → is_live y.state ≡ true = λ y e. let same : x.0 ≡ y = cc (x.1, e) in ap (λ (z : HostQueue). is_live z.state) (sym same) ∙ x.2 in
          tie_posts d.q entry (a.on_records (with_record d.q d.cid a.submitted) (a.on_memory (with_pages (d.data_pages ++ d.chain_pages)) s)) (record { live = lives; there = λ y e. g.live d.q y e (lives y e) }) h;
      cancels = λ d r its none'. h;
      rings = λ q none none'. tie_less s.entries s.host.queues s.controller.queues s.controller.jobs q (λ at. record at { rung = length at.unfetched }) (λ d. refl) (λ d. refl) (λ d e. e) (λ d e. e) h;
      rests = λ q is none'. h;
      rejects = λ q why is none'. tie_consumed q s none' h;
      tells = λ q cid st what e r request told heard w none'. tie_heard q e s none' h;
      hears = λ q cid st what e r adm told heard w quiet unmade none'. tie_heard q e s none' h;
      notes = λ q cid st what e r k told heard w none'.
          let u = a.heard q e s in
          tie_host s.entries u.host.queues u.controller.queues s.controller.jobs k (λ queue. record queue { state = if is_success st then Deleting true else Live })
          (λ x d ex ed p. noted x d (asked_as_heard s q cid st e r k g.holds heard w x ex) p (is_success st)) (λ x ex some o. stays (is_success st)) (tie_heard q e s none' h);
      frees = λ q cid st what e r k queue told heard w at alone good none'.
          let u = a.heard q e s in
          let is : (x : HostQueue) → slice_get u.host.queues k ≡ Some x → in_service x.state ≡ false = λ x ex. let same : queue ≡ x = cc (at, ex) in ap (λ (z : HostQueue). in_service z.state) (sym same) ∙ alone_is_out queue.state alone in
          tie_host s.entries u.host.queues u.controller.queues s.controller.jobs k a.gone
          (λ x d ex ed p. pair_moves s.entries x (a.gone x) d (λ o. absurd (true≢false (sym o))) (λ o. absurd (true≢false (sym o))) (λ o. is x ex) (λ o. absurd (true≢false (sym o))) p)
          (λ x ex some o. absurd (true≢false (sym o ∙ is x ex))) (tie_heard q e s none' h);
      makes_cq = λ q cid st what e r k n base vector told heard w good none'.
          let u = a.heard q e s in
          let is : (x : HostQueue) → slice_get u.host.queues k ≡ Some x → x.state ≡ MakingCq = λ x ex. making_cq_as_heard s q cid st e r k n base vector g.holds heard w x ex in
          tie_host s.entries u.host.queues u.controller.queues s.controller.jobs k a.half_made
          (λ x d ex ed p. pair_moves s.entries x (a.half_made x) d (λ o. absurd (true≢false (sym o))) (λ o. p.comp (ap has_cq (is x ex))) (λ o. ap in_service (is x ex)) (λ o. p.fresh (ap is_making (is x ex))) p)
          (λ x ex some o. absurd (true≢false (sym o ∙ ap in_service (is x ex)))) (tie_heard q e s none' h);
      unmakes_cq = λ q cid st what e r k n base vector queue told heard w at bad none'.
          let u = a.heard q e s in
          let is : (x : HostQueue) → slice_get u.host.queues k ≡ Some x → x.state ≡ MakingCq = λ x ex. making_cq_as_heard s q cid st e r k n base vector g.holds heard w x ex in
          tie_host s.entries u.host.queues u.controller.queues s.controller.jobs k a.gone
          (λ x d ex ed p. pair_moves s.entries x (a.gone x) d (λ o. absurd (true≢false (sym o))) (λ o. absurd (true≢false (sym o))) (λ o. ap in_service (is x ex)) (λ o. absurd (true≢false (sym o))) p)
          (λ x ex some o. absurd (true≢false (sym o ∙ ap in_service (is x ex)))) (tie_heard q e s none' h);
      makes_sq = λ q cid st what e r k n base told heard w good none'.
          let u = a.heard q e s in
          let is : (x : HostQueue) → slice_get u.host.queues k ≡ Some x → x.state ≡ MakingSq = λ x ex. making_sq_as_heard s q cid st e r k n base g.holds heard w x ex in
          tie_host s.entries u.host.queues u.controller.queues s.controller.jobs k a.live
          (λ x d ex ed p. pair_moves s.entries x (a.live x) d (λ o. p.sub (ap has_sq (is x ex))) (λ o. p.comp (ap has_cq (is x ex))) (λ o. absurd (true≢false o)) (λ o. absurd (true≢false (sym o))) p)
          (λ x ex some o. refl) (tie_heard q e s none' h);
      unmakes_sq = λ q cid st what e r k n base queue told heard w at bad none'.
          let u = a.heard q e s in
          let is : (x : HostQueue) → slice_get u.host.queues k ≡ Some x → x.state ≡ MakingSq = λ x ex. making_sq_as_heard s q cid st e r k n base g.holds heard w x ex in
          tie_host s.entries u.host.queues u.controller.queues s.controller.jobs k a.unmade_sq
          (λ x d ex ed p. pair_moves s.entries x (a.unmade_sq x) d (λ o. absurd (true≢false (sym o))) (λ o. p.comp (ap has_cq (is x ex))) (λ o. ap in_service (is x ex)) (λ o. p.fresh (ap is_making (is x ex))) p)
          (λ x ex some o. absurd (true≢false (sym o ∙ ap in_service (is x ex)))) (tie_heard q e s none' h);
      collects = λ q cid r f at held is none'. h;
      releases = λ f r its none'. h;
      aborts = λ q cid id none new none'. sent (Abort q cid) id;
      asks = λ q id queue none new live none'.
          let u = sends (DeleteSq q) id s in
          let is : (x : HostQueue) → slice_get u.host.queues q ≡ Some x → x.state ≡ Live = λ x ex. still_live s q 0 (next_tail s.entries) queue x live ex in
          tie_host s.entries u.host.queues u.controller.queues s.controller.jobs q a.deleting
          (λ x d ex ed p. pair_moves s.entries x (a.deleting x) d (λ o. p.sub (ap has_sq (is x ex))) (λ o. p.comp (ap has_cq (is x ex))) (λ o. absurd (true≢false o)) (λ o. absurd (true≢false (sym o))) p)
          (λ x ex some o. refl) (sent (DeleteSq q) id);
      drops = λ q id none new none'. sent (DeleteCq q) id;
      creates_cqs = λ q vector id first queue none new granted none'.
          let f = a.making_cq (half_from Completion first s) in
          let is : (x : HostQueue) → slice_get s.host.queues q ≡ Some x → x.state ≡ Gone = λ x ex. let same : queue ≡ x = cc (granted.there, ex) in ap (λ (z : HostQueue). z.state) (sym same) ∙ granted.state in
          elsewhere (creates_cq q vector first s) id q f (grants_cq q first s) refl refl refl refl granted.other
          (tie_host s.entries s.host.queues s.controller.queues s.controller.jobs q f
          (λ x d ex ed p. pair_moves s.entries x (f x) d (λ o. absurd (true≢false (sym o))) (λ o. length-pages_from first (half_pages s.entries Completion)) (λ o. ap in_service (is x ex)) (λ o. refl) p)
          (λ x ex some o. absurd (true≢false (sym o ∙ ap in_service (is x ex)))) h);
      creates_sqs = λ q id first queue none new granted none'.
          let f = a.making_sq (half_from Submission first s) in
          let is : (x : HostQueue) → slice_get s.host.queues q ≡ Some x → x.state ≡ HalfMade = λ x ex. let same : queue ≡ x = cc (granted.there, ex) in ap (λ (z : HostQueue). z.state) (sym same) ∙ granted.state in
          elsewhere (creates_sq q first s) id q f (grants_sq q first s) refl refl refl refl granted.other
          (tie_host s.entries s.host.queues s.controller.queues s.controller.jobs q f
          (λ x d ex ed p. pair_moves s.entries x (f x) d (λ o. length-pages_from first (half_pages s.entries Submission)) (λ o. p.comp (ap has_cq (is x ex))) (λ o. ap in_service (is x ex)) (λ o. refl) p)
          (λ x ex some o. absurd (true≢false (sym o ∙ ap in_service (is x ex)))) h);
      retires = λ q queue none at deleted none'.
          let gone : gone_at s.controller.queues q ≡ true = g.over q queue at (ap is_over deleted) in
          tie_host s.entries s.host.queues s.controller.queues s.controller.jobs q a.retired
          (λ x d ex ed p.
          let same : queue ≡ x = cc (at, ex) in
          record {
            sub = λ o. absurd (true≢false (sym o));
            comp = λ o. p.comp (ap (λ (z : HostQueue). has_cq z.state) (sym same) ∙ ap has_cq deleted);
            half = p.half;
            emptied = p.emptied;
            unfetched = λ o. p.emptied (sym (ap (λ (o : Option ServedQueue). option_map_or (λ at. is_absent at.state) o true) ed) ∙ gone);
            completions = λ o. no_completions s q g.trusted none d ed;
            fresh = λ o. absurd (true≢false (sym o));
          })
          (λ x ex some o. absurd (true≢false (sym gone ∙ h.jobs q some))) h;
      forges = λ q slot bytes queue none at none'. h;
      resets = λ none. record {
        pairs = reset_pairs s.entries s.host.queues s.controller.queues (same_length s.entries s.host.queues s.controller.queues h.pairs) (halves_fit s.entries s.host.queues s.controller.queues h.pairs g.zero_live);
        jobs = λ q some. absurd (omega (arith, some));
        service = λ q some. absurd (omega (arith, some));
      };
    }) ok.0
  where
    stays : (b : Bool) → in_service (if b then Deleting true else Live) ≡ true
    stays true = refl
    stays false = refl

    noted : (x : HostQueue) (d : ServedQueue) → x.state ≡ Deleting false → PairOk s.entries x d → (b : Bool) → PairOk s.entries (record x { state = if b then Deleting true else Live }) d
    noted x d is p true = pair_moves s.entries x (record x { state = Deleting true }) d (λ o. p.sub (ap has_sq is)) (λ o. p.comp (ap has_cq is)) (λ o. absurd (true≢false o)) (λ o. absurd (true≢false (sym o))) p
    noted x d is p false = pair_moves s.entries x (record x { state = Live }) d (λ o. p.sub (ap has_sq is)) (λ o. p.comp (ap has_cq is)) (λ o. absurd (true≢false o)) (λ o. absurd (true≢false (sym o))) p

-- What the host's events do to the tokens of what is deleted and made.

-- The host's queues as they were, except their rings

pub record Alike (hs hs' : List HostQueue) : Type 0 where
  pub long : length hs' ≡ length hs
  pub known : (q : ℕ) → awaited_at is_known_deleted hs' q ≡ awaited_at is_known_deleted hs q
  pub gone : (q : ℕ) → awaited_at is_gone hs' q ≡ awaited_at is_gone hs q
  pub live : (q : ℕ) → awaited_at is_live hs' q ≡ awaited_at is_live hs q

pub alike_ring : (k : ℕ) (g : HostRing → HostRing) (hs : List HostQueue) → Alike hs (change k (λ x. record x { ring = g x.ring }) hs)
alike_ring k g hs = record {
  long = length-change k (λ x. record x { ring = g x.ring }) hs;
  known = at_same is_known_deleted (λ x. record x { ring = g x.ring }) k hs (λ x e. refl);
  gone = at_same is_gone (λ x. record x { ring = g x.ring }) k hs (λ x e. refl);
  live = at_same is_live (λ x. record x { ring = g x.ring }) k hs (λ x e. refl);
}

pub alike_then : (hs hs' hs'' : List HostQueue) → Alike hs hs' → Alike hs' hs'' → Alike hs hs''
alike_then hs hs' hs'' a b = record { long = b.long ∙ a.long; known = λ q. b.known q ∙ a.known q; gone = λ q. b.gone q ∙ a.gone q; live = λ q. b.live q ∙ a.live q }

pub tokens_alike : (rs : List Record) (hs hs' : List HostQueue) (ds : List ServedQueue) (un : List SubEntry) (js : List Job) (ans : List PostedCompletion) → Alike hs hs' → TokensHeld rs hs ds un js ans → TokensHeld rs hs' ds un js ans
tokens_alike rs hs hs' ds un js ans a h = record {
  submission = λ q. omega (arith, h.submission q, ap one (a.known q));
  completion = λ q. omega (arith, h.completion q, ap one (a.gone q));
  there = λ q inside some. h.there q (omega (arith, inside, a.long)) (omega (arith, some, ap one (a.live q)));
}

-- An admin command is sent, and its queue with it turns

pub record Sends (rs : List Record) (un : List SubEntry) (js : List Job) (ans : List PostedCompletion) (rs' : List Record) (un' : List SubEntry) (adm : AdminKind) : Type 0 where
  pub unmade : (test : AdminKind → Bool) → unmade test rs' un' js ans ≤ unmade test rs un js ans + one (test adm)
  pub completed : (test : AdminKind → Bool) → completed_well test rs' ans ≤ completed_well test rs ans
  pub done : (test : AdminKind → Bool) → done_well test rs' js ans ≤ done_well test rs js ans

pub sends_more : (rs : List Record) (un : List SubEntry) (js : List Job) (ans : List PostedCompletion) (new : Record) (adm : AdminKind) (id : ℕ) → Placed rs un js ans → Knows (rs ++ new ∷ []) id adm
    → Sends rs un js ans (rs ++ new ∷ []) (un ++ admin_entry adm id ∷ []) adm
sends_more rs un js ans new adm id placed k =
    let few = (fewer_kept rs (rs ++ new ∷ []) un js ans placed (λ c a w. (w.0, find_more (is_at 0 c) rs new w.0 w.1, w.2))).0 in
    record {
      unmade = λ test. omega (arith, few.unmade test, total-append (λ (e : SubEntry). one (is_kind test (rs ++ new ∷ []) e.cid)) un (admin_entry adm id ∷ []), ap one (kind_known test (rs ++ new ∷ []) id adm k));
      completed = few.completed;
      done = few.done;
    }

pub record Turns (hs hs' : List HostQueue) (adm : AdminKind) : Type 0 where
  pub long : length hs' ≡ length hs
  pub known : (q : ℕ) → one (awaited_at is_known_deleted hs' q) + one (creates_sq_agreeing q adm) ≤ one (awaited_at is_known_deleted hs q)
  pub gone : (q : ℕ) → one (awaited_at is_gone hs' q) + one (creates_cq_agreeing q adm) ≤ one (awaited_at is_gone hs q)
  pub live : (q : ℕ) → one (awaited_at is_live hs' q) + one (deletes_sq q adm) ≤ one (awaited_at is_live hs q)

pub tokens_sends : (rs rs' : List Record) (hs hs' : List HostQueue) (ds : List ServedQueue) (un un' : List SubEntry) (js : List Job) (ans : List PostedCompletion) (adm : AdminKind) → Sends rs un js ans rs' un' adm → Turns hs hs' adm
    → TokensHeld rs hs ds un js ans → TokensHeld rs' hs' ds un' js ans
tokens_sends rs rs' hs hs' ds un un' js ans adm f t h = record {
  submission = λ q. omega (arith, h.submission q, f.unmade (creates_sq_agreeing q), f.completed (deletes_sq q), t.known q);
  completion = λ q. omega (arith, h.completion q, f.unmade (creates_cq_agreeing q), f.done (deletes_cq q), t.gone q);
  there = λ q inside some. h.there q (omega (arith, inside, t.long)) (omega (arith, some, f.unmade (deletes_sq q), f.done (creates_sq_agreeing q), t.live q));
}

-- one bit of a queue that turns, against the kind that it turns by
turn_at : (test : HostState → Bool) (kind : ℕ → AdminKind → Bool) (adm : AdminKind) (hs : List HostQueue) (k : ℕ) (f : HostQueue → HostQueue) (x : HostQueue) → slice_get hs k ≡ Some x
    → ((q : ℕ) → (k == q) ≡ false → kind q adm ≡ false) → one (test (f x).state) + one (kind k adm) ≤ one (test x.state)
    → (q : ℕ) → one (awaited_at test (change k f hs) q) + one (kind q adm) ≤ one (awaited_at test hs q)
turn_at test kind adm hs k f x e far own q = elim (cases_Bool (k == q)) [
  | inl is ↦ subst (λ (z : ℕ). one (awaited_at test (change k f hs) z) + one (kind z adm) ≤ one (awaited_at test hs z)) (eqb-true k q is) here'
  | inr is ↦ omega (arith, ap one (at_other test f k hs q (eqb-false k q is)), ap one (far q is))
]
  where
    here' : one (awaited_at test (change k f hs) k) + one (kind k adm) ≤ one (awaited_at test hs k)
    here' = omega (arith, own, ap one (at_changed test f k hs x e), ap one (at_found test hs k x e))

pub turns : (adm : AdminKind) (hs : List HostQueue) (k : ℕ) (f : HostQueue → HostQueue) (x : HostQueue) → slice_get hs k ≡ Some x
    → ((q : ℕ) → (k == q) ≡ false → (creates_sq_agreeing q adm ≡ false) × (creates_cq_agreeing q adm ≡ false) × (deletes_sq q adm ≡ false))
    → (one (is_known_deleted (f x).state) + one (creates_sq_agreeing k adm) ≤ one (is_known_deleted x.state)) × (one (is_gone (f x).state) + one (creates_cq_agreeing k adm) ≤ one (is_gone x.state)) × (one (is_live (f x).state) + one (deletes_sq k adm) ≤ one (is_live x.state))
    → Turns hs (change k f hs) adm
turns adm hs k f x e far own = record {
  long = length-change k f hs;
  known = turn_at is_known_deleted creates_sq_agreeing adm hs k f x e (λ q is. (far q is).0) own.0;
  gone = turn_at is_gone creates_cq_agreeing adm hs k f x e (λ q is. (far q is).1) own.1;
  live = turn_at is_live deletes_sq adm hs k f x e (λ q is. (far q is).2) own.2;
}

pub turns_not : (adm : AdminKind) (hs : List HostQueue) → ((q : ℕ) → (creates_sq_agreeing q adm ≡ false) × (creates_cq_agreeing q adm ≡ false) × (deletes_sq q adm ≡ false)) → Turns hs hs adm
turns_not adm hs none = record {
  long = refl;
  known = λ q. omega (arith, ap one (none q).0);
  gone = λ q. omega (arith, ap one (none q).1);
  live = λ q. omega (arith, ap one (none q).2);
}

-- The completion of an admin command is reaped, and its queue with it moves on

pub record Hears (rs : List Record) (un : List SubEntry) (js : List Job) (ans : List PostedCompletion) (rs' : List Record) (ans' : List PostedCompletion) (adm : AdminKind) (ok : Bool) : Type 0 where
  pub unmade : (test : AdminKind → Bool) → unmade test rs' un js ans' + one (test adm && not ok) ≤ unmade test rs un js ans
  pub completed : (test : AdminKind → Bool) → completed_well test rs' ans' + one (test adm && ok) ≤ completed_well test rs ans
  pub done : (test : AdminKind → Bool) → done_well test rs' js ans' + one (test adm && ok) ≤ done_well test rs js ans

pub hears_first : (rs : List Record) (cid : ℕ) (un : List SubEntry) (js : List Job) (an : PostedCompletion) (ans : List PostedCompletion) (adm : AdminKind) → an.cid ≡ cid → Knows rs cid adm → Placed (without_record 0 cid rs) un js ans
    → Hears rs un js (an ∷ ans) (without_record 0 cid rs) ans adm (is_success an.status)
hears_first rs cid un js an ans adm same k placed =
    let kind : (test : AdminKind → Bool) → is_kind test rs an.cid ≡ test adm = λ test. ap (λ (c : ℕ). is_kind test rs c) same ∙ kind_known test rs cid adm k in
    let few = (fewer_kept (without_record 0 cid rs) rs un js ans placed (knows_back 0 cid rs)).1 in
    record {
      unmade = λ test. omega (arith, few.unmade test, ap (λ (b : Bool). one (b && not (is_success an.status))) (kind test));
      completed = λ test. omega (arith, few.completed test, ap (λ (b : Bool). one (b && is_success an.status)) (kind test));
      done = λ test. omega (arith, few.done test, ap (λ (b : Bool). one (b && is_success an.status)) (kind test));
    }

pub record MovesOn (hs hs' : List HostQueue) (adm : AdminKind) (ok : Bool) : Type 0 where
  pub long : length hs' ≡ length hs
  pub known : (q : ℕ) → one (awaited_at is_known_deleted hs' q) ≤ one (awaited_at is_known_deleted hs q) + (one (deletes_sq q adm && ok) + one (creates_sq_agreeing q adm && not ok))
  pub gone : (q : ℕ) → one (awaited_at is_gone hs' q) ≤ one (awaited_at is_gone hs q) + (one (deletes_cq q adm && ok) + one (creates_cq_agreeing q adm && not ok))
  pub live : (q : ℕ) → one (awaited_at is_live hs' q) ≤ one (awaited_at is_live hs q) + (one (deletes_sq q adm && not ok) + one (creates_sq_agreeing q adm && ok))

pub tokens_hears : (rs rs' : List Record) (hs hs' : List HostQueue) (ds : List ServedQueue) (un : List SubEntry) (js : List Job) (ans ans' : List PostedCompletion) (adm : AdminKind) (ok : Bool) → Hears rs un js ans rs' ans' adm ok → MovesOn hs hs' adm ok
    → TokensHeld rs hs ds un js ans → TokensHeld rs' hs' ds un js ans'
tokens_hears rs rs' hs hs' ds un js ans ans' adm ok f m h = record {
  submission = λ q. omega (arith, h.submission q, f.unmade (creates_sq_agreeing q), f.completed (deletes_sq q), m.known q);
  completion = λ q. omega (arith, h.completion q, f.unmade (creates_cq_agreeing q), f.done (deletes_cq q), m.gone q);
  there = λ q inside some. h.there q (omega (arith, inside, m.long)) (omega (arith, some, f.unmade (deletes_sq q), f.done (creates_sq_agreeing q), m.live q));
}

-- one bit of a queue that moves on
moves_at : (test : HostState → Bool) (gain : ℕ → ℕ) (hs : List HostQueue) (k : ℕ) (f : HostQueue → HostQueue)
    → ((x : HostQueue) → slice_get hs k ≡ Some x → one (test (f x).state) ≤ one (test x.state) + gain k)
    → (q : ℕ) → one (awaited_at test (change k f hs) q) ≤ one (awaited_at test hs q) + gain q
moves_at test gain (x ∷ hs) zero f own zero = own x refl
moves_at test gain (x ∷ hs) (suc k) f own (suc q) = moves_at test (λ n. gain (suc n)) hs k f own q
moves_at test gain x k f own q = omega arith

pub moves_on : (adm : AdminKind) (ok : Bool) (hs : List HostQueue) (k : ℕ) (f : HostQueue → HostQueue)
    → ((x : HostQueue) → slice_get hs k ≡ Some x → (one (is_known_deleted (f x).state) ≤ one (is_known_deleted x.state) + (one (deletes_sq k adm && ok) + one (creates_sq_agreeing k adm && not ok)))
    × (one (is_gone (f x).state) ≤ one (is_gone x.state) + (one (deletes_cq k adm && ok) + one (creates_cq_agreeing k adm && not ok)))
    × (one (is_live (f x).state) ≤ one (is_live x.state) + (one (deletes_sq k adm && not ok) + one (creates_sq_agreeing k adm && ok))))
    → MovesOn hs (change k f hs) adm ok
moves_on adm ok hs k f own = record {
  long = length-change k f hs;
  known = moves_at is_known_deleted (λ q. one (deletes_sq q adm && ok) + one (creates_sq_agreeing q adm && not ok)) hs k f (λ x e. (own x e).0);
  gone = moves_at is_gone (λ q. one (deletes_cq q adm && ok) + one (creates_cq_agreeing q adm && not ok)) hs k f (λ x e. (own x e).1);
  live = moves_at is_live (λ q. one (deletes_sq q adm && not ok) + one (creates_sq_agreeing q adm && ok)) hs k f (λ x e. (own x e).2);
}

pub moves_not : (adm : AdminKind) (ok : Bool) (hs : List HostQueue) → MovesOn hs hs adm ok
moves_not adm ok hs = record { long = refl; known = λ q. omega arith; gone = λ q. omega arith; live = λ q. omega arith }
