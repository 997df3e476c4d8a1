-- Commands stand at their places.
use Rattle.machine_model.specs.After as a
use Rattle.machine_model.specs.Refusals as refusals
use Rattle.machine_model.specs.Events as events
use Rattle.machine_model.specs.declared.words.Refusal.TheVariants as refusal
use Rattle.std.proofs.Common.{◌≡◌, ℕ, zero, suc, ◌+◌, ◌≤◌, ◌==◌, Bool, true, false, Some, List, [], ◌∷◌, slice_get, if◌then◌else◌, refl, ap, sym, arith, subst, not, ◌-◌, nat_lt, ◌&&◌, Option, None, ◌++◌, length, map, filter, find, drop, is_some, is_none, option_and_then, ◌∙◌, eqb-true, eq-eqb, ◌<◌, ◌||◌, inl, inr, replicate}
use Rattle.std.{proofs.lemmas.Bool.{true≢false, and_parts, or_parts, cases_Bool, Decides.nat_tests}, specs.{List.AllByRecursion, Option.option_map_or}}
use Rattle.machine_model.proofs.Counting.{total-append, total-map, times-append, times-cons, times-outstanding}
use Rattle.machine_model.proofs.Moves.{host_moves, posts, sends, sent_record, drafted_record, heard_without, creates_cq, creates_sq, grants_cq, grants_sq, IsHeard, completion_heard}
use Rattle.machine_model.proofs.{Owned.{HoldsPart, no_waiting, no_admin_completions, reset_admin_commands}, Sound.{unused, host_event}}
use Rattle.machine_model.proofs.Steps.{managed_by, first_fails, rest_fails, found_all, Accepts, part_controller}
use Rattle.machine_model.proofs.Tokens.{MildJob, placed_jobs, placed_decided, placed_conflict, placed_completed, placed_job_more, placed_job_less, find_more, find_map, find_filter, placed_records, placed_sent, placed_reaped}
use Rattle.machine_model.specs.Agreeing.{is_out_of_service_at as past_at, DeletesIo, JobKnown, AdminCommandsStand as Placed, is_absent_at as gone_at, Knows, waiting, admin_completions, job_is}
use Rattle.machine_model.specs.{Claims.OwnsFit, Events.{Event, Reply}, Memory.{is_in, with_pages}, Opening.{opening, served_queue as opened}}
use Rattle.machine_model.specs.Refusals.{in_service, served_queue, next_rung, job_at, fetch_slot, refusal_of, completions_full, post_page, is_job, front_completion, is_submitted, is_reaped}
use Rattle.machine_model.specs.State.{ServedQueue, HostQueue, State, Controller, Record, Job, PostedCompletion, is_at, record_at, pages_of, without_record, with_record, outstanding_on}
use Rattle.machine_model.specs.{Step.{host_part, HostPart, IsController, times}, Weights.{total, one, here}, Work.Work, declared.words.Phase.TheVariants.Held}
use Rattle.machine_model.specs.declared.words.{Peer.{Peer, TheVariants.{Modelled}}, Refusal.Refusal, Work.TheVariants.{Io, Management}}
use Rattle.queue_pair.specs.Members.{change}
use Rattle.entry_codec.specs.declared.{admin_opcode.TheConstants.{ABORT, DELETE_IO_SQ, DELETE_IO_CQ, CREATE_IO_CQ, CREATE_IO_SQ}, completion.ComEntry.ComEntry}
use Rattle.entry_codec.specs.declared.status.{Status.Status, TheConstants.Status.{SUCCESS, COMMAND_ID_CONFLICT, ABORT_REQUESTED, ABORTED_SQ_DELETION}}
use Rattle.entry_codec.specs.{Status.is_success, declared.submission.SubEntry.SubEntry}
use Rattle.admin_commands.specs.{Entries.{admin_entry, named_queue, named_command}, Verdicts.is_live as is_running, declared.AdminKind.AdminKind}
use Rattle.admin_commands.specs.declared.{AdminKind.TheVariants.{Abort, DeleteSq, DeleteCq, CreateCq, CreateSq}, SqState.TheVariants.Stopping}
use Rattle.io_commands.specs.{Asked.Request, Jobs.{io_fault, bytes_after_check}}
use Rattle.two_sides.{proofs.ControllerMoves.{posted_completion, unit_done, finished, cleared, clears, fetch_by, walk_by, complete_by}, specs.MachineLaws.admin_places}
use Rattle.slot_table.proofs.Rows.{option_is}
use Rattle.page_memory.proofs.Lists.{found_is, all-found}
pub use Rattle.machine_model.specs.Agreeing.{waiting, admin_completions}
pub use Rattle.machine_model.proofs.Moves.{named, seen_trusted}

-- What one change of the controller's queues does to sums over entries and completions.

abbrev pub list_at : {B : Type 0} → (ServedQueue → List B) → List ServedQueue → ℕ → List B
list_at get qs q = option_map_or get (slice_get qs q) []

far_zero : (q : ℕ) → (0 == suc q) ≡ false
far_zero q = grind (arith, nat_tests)

pub far_suc : (k : ℕ) → (suc k == 0) ≡ false
far_suc k = grind (arith, nat_tests)

at_suc : (k q n : ℕ) → (if suc k == suc q then n else 0) ≡ (if k == q then n else 0)
at_suc k q n = ap (λ (b : Bool). if b then n else 0) (grind (arith, nat_tests))

pub list_same : {B : Type 0} (get : ServedQueue → List B) (k : ℕ) (f : ServedQueue → ServedQueue) (qs : List ServedQueue) (q : ℕ) → ((at : ServedQueue) → get (f at) ≡ get at) → list_at get (change k f qs) q ≡ list_at get qs q
list_same get zero f (x ∷ qs) zero same = same x
list_same get (suc k) f (x ∷ qs) (suc q) same = list_same get k f qs q same
list_same get k f x q same = refl

-- a queue's list counts more by this much at most
pub more_at : {B : Type 0} (get : ServedQueue → List B) (w : B → ℕ) (k : ℕ) (f : ServedQueue → ServedQueue) (extra : ℕ) (qs : List ServedQueue) (q : ℕ) → ((at : ServedQueue) → total w (get (f at)) ≤ total w (get at) + extra)
    → total w (list_at get (change k f qs) q) ≤ total w (list_at get qs q) + (if k == q then extra else 0)
more_at get w zero f extra (x ∷ qs) zero h = h x
more_at get w (suc k) f extra (x ∷ qs) (suc q) h = omega (arith, more_at get w k f extra qs q h, at_suc k q extra)
more_at get w k f extra x q h = omega arith

-- or less by this much at least
pub less_at : {B : Type 0} (get : ServedQueue → List B) (w : B → ℕ) (k : ℕ) (f : ServedQueue → ServedQueue) (less : ℕ) (qs : List ServedQueue) (q : ℕ) (at : ServedQueue) → slice_get qs k ≡ Some at
    → total w (get (f at)) + less ≤ total w (get at)
    → total w (list_at get (change k f qs) q) + (if k == q then less else 0) ≤ total w (list_at get qs q)
less_at get w k f less [] q at e h = absurd cc
less_at get w zero f less (x ∷ qs) zero at e h = let same : x ≡ at = cc in subst (λ (y : ServedQueue). total w (get (f y)) + less ≤ total w (get y)) (sym same) h
less_at get w zero f less (x ∷ qs) (suc q) at e h = omega (arith, ap (λ (b : Bool). if b then less else 0) (far_zero q))
less_at get w (suc k) f less (x ∷ qs) zero at e h = omega (arith, ap (λ (b : Bool). if b then less else 0) (far_suc k))
less_at get w (suc k) f less (x ∷ qs) (suc q) at e h = omega (arith, less_at get w k f less qs q at e h, at_suc k q less)

-- what holds of all in a queue's list
pub all_list : {B : Type 0} (P : B → Type 0) (get : ServedQueue → List B) (k : ℕ) (f : ServedQueue → ServedQueue) (qs : List ServedQueue) (q : ℕ)
    → ((at : ServedQueue) → k ≡ q → AllByRecursion P (get at) → AllByRecursion P (get (f at))) → AllByRecursion P (list_at get qs q) → AllByRecursion P (list_at get (change k f qs) q)
all_list P get zero f (x ∷ qs) zero step all = step x refl all
all_list P get (suc k) f (x ∷ qs) (suc q) step all = all_list P get k f qs q (λ at e. step at (ap suc e)) all
all_list x get k f y q step all = all

-- whether a queue of the host is out of service

pub past_same : (k : ℕ) (f : HostQueue → HostQueue) (hs : List HostQueue) (q : ℕ) → ((x : HostQueue) → slice_get hs k ≡ Some x → in_service (f x).state ≡ in_service x.state) → past_at (change k f hs) q ≡ past_at hs q
past_same zero f (x ∷ hs) zero same = ap not (same x refl)
past_same (suc k) f (x ∷ hs) (suc q) same = past_same k f hs q same
past_same k f x q same = refl

pub past_other : (k : ℕ) (f : HostQueue → HostQueue) (hs : List HostQueue) (q : ℕ) → (k ≡ q → ⊥) → past_at (change k f hs) q ≡ past_at hs q
past_other zero f (x ∷ hs) zero far = absurd (far refl)
past_other (suc k) f (x ∷ hs) (suc q) far = past_other k f hs q (λ e. far (ap suc e))
past_other k f x q far = refl

pub past_here : (k : ℕ) (f : HostQueue → HostQueue) (hs : List HostQueue) → ((x : HostQueue) → in_service (f x).state ≡ false) → (x : HostQueue) → slice_get hs k ≡ Some x → past_at (change k f hs) k ≡ true
past_here k f [] past x e = absurd cc
past_here zero f (y ∷ hs) past x e = ap not (past y)
past_here (suc k) f (y ∷ hs) past x e = past_here k f hs past x e

-- Each event keeps where admin commands stand.

pub record PlacedIn (rs : List Record) (d : Controller) : Type 0 where
  pub placed : Placed rs (waiting d.queues) d.jobs (admin_completions d.queues)

-- One of the controller's queues changed

pub waiting_same : (f : ServedQueue → ServedQueue) → ((at : ServedQueue) → (f at).unfetched ≡ at.unfetched) → (k : ℕ) (ds : List ServedQueue) → waiting (change k f ds) ≡ waiting ds
waiting_same f same k [] = refl
waiting_same f same zero (at ∷ ds) = same at
waiting_same f same (suc k) (at ∷ ds) = refl

pub admin_completions_same : (f : ServedQueue → ServedQueue) → ((at : ServedQueue) → (f at).completions ≡ at.completions) → (k : ℕ) (ds : List ServedQueue) → admin_completions (change k f ds) ≡ admin_completions ds
admin_completions_same f same k [] = refl
admin_completions_same f same zero (at ∷ ds) = same at
admin_completions_same f same (suc k) (at ∷ ds) = refl

pub waiting_other : (f : ServedQueue → ServedQueue) (k : ℕ) (ds : List ServedQueue) → (k == 0) ≡ false → waiting (change k f ds) ≡ waiting ds
waiting_other f zero ds e = absurd (true≢false e)
waiting_other f (suc k) [] e = refl
waiting_other f (suc k) (at ∷ ds) e = refl

pub admin_completions_other : (f : ServedQueue → ServedQueue) (k : ℕ) (ds : List ServedQueue) → (k == 0) ≡ false → admin_completions (change k f ds) ≡ admin_completions ds
admin_completions_other f zero ds e = absurd (true≢false e)
admin_completions_other f (suc k) [] e = refl
admin_completions_other f (suc k) (at ∷ ds) e = refl

-- what it leaves where the entries and the completions of queue 0 stay
pub placed_change : (rs : List Record) (d : Controller) (k : ℕ) (f : ServedQueue → ServedQueue)
    → waiting (change k f d.queues) ≡ waiting d.queues → admin_completions (change k f d.queues) ≡ admin_completions d.queues
    → PlacedIn rs d → PlacedIn rs (record d { queues = change k f d.queues })
placed_change rs d k f w an h = record { placed = rw (w, an) h.placed }

-- a queue other than 0
pub placed_other : (rs : List Record) (d : Controller) (k : ℕ) (f : ServedQueue → ServedQueue) → (k == 0) ≡ false
    → PlacedIn rs d → PlacedIn rs (record d { queues = change k f d.queues })
placed_other rs d k f other h = placed_change rs d k f (waiting_other f k d.queues other) (admin_completions_other f k d.queues other) h

-- Where memory alone differs

pub controller-completed : (q cid : ℕ) (st : Status) (dw0 : ℕ) (s : State)
    → (a.with_posted_completion q cid st dw0 s).controller ≡ record s.controller { queues = change q (λ at. record at { completions = at.completions ++ record { cid = cid; status = st; dw0 = dw0; sq_head = fetch_slot s q } ∷ [] }) s.controller.queues }
controller-completed q cid st dw0 s = grind arith

pub controller-posted : (q : ℕ) (entry : SubEntry) (s : State)
    → (a.posted q entry s).controller ≡ record s.controller { queues = change q (λ at. record at { unfetched = at.unfetched ++ entry ∷ [] }) s.controller.queues }
controller-posted q entry s = grind arith

-- The entry that is fetched from queue 0

pub taken_entry : (ds : List ServedQueue) (e : SubEntry) → option_and_then (λ queue. if is_running queue.state && nat_lt 0 queue.rung then slice_get queue.unfetched 0 else None) (slice_get ds 0) ≡ Some e
    → waiting ds ≡ e ∷ waiting (change 0 (λ at. record at { unfetched = drop 1 at.unfetched; rung = at.rung - 1 }) ds)
taken_entry [] e h = absurd cc
taken_entry (at ∷ ds) e h = entry_is_first (is_running at.state && nat_lt 0 at.rung) at.unfetched h
  where
    entry_is_first : (b : Bool) (un : List SubEntry) → (if b then slice_get un 0 else None) ≡ Some e → un ≡ e ∷ drop 1 un
    entry_is_first false un h = absurd cc
    entry_is_first true [] h = absurd cc
    entry_is_first true (x ∷ un) h = let same : x ≡ e = cc in ap (λ y. y ∷ un) same

-- Fetching

-- with an entry still in hand
abbrev Holding : List Record → SubEntry → Controller → Type 0
Holding rs e d = Placed rs (e ∷ waiting d.queues) d.jobs (admin_completions d.queues)

decide : (rs : List Record) (e : SubEntry) (st : Status) (dw0 : ℕ) (s : State)
    → ((adm : AdminKind) → e ≡ admin_entry adm e.cid → is_success st ≡ true → DeletesIo adm)
    → Holding rs e s.controller → PlacedIn rs (a.decided e st dw0 s).controller
decide rs e st dw0 s promise h = record {
  placed = placed_decided rs e (waiting s.controller.queues) s.controller.jobs (admin_completions s.controller.queues) (a.new_job 0 e (Some st) dw0 []) st refl refl refl promise h;
}

-- a success deletes no submission queue but an I/O queue's
deletes_io : (e : SubEntry) → ((e.opcode == DELETE_IO_SQ) ≡ true → (named_queue e == 0) ≡ false) → (adm : AdminKind) → e ≡ admin_entry adm e.cid → DeletesIo adm
deletes_io e io (DeleteSq q) same = ap (λ (x : SubEntry). named_queue x == 0) (sym same) ∙ io (ap (λ (x : SubEntry). x.opcode == DELETE_IO_SQ) same)
deletes_io e io adm same = tt

aborts_mild : (q cid id : ℕ) → MildJob (λ j. if (j.q == q) && (j.entry.cid == cid) then record j { verdict = Some ABORT_REQUESTED; waiting_abort = Some id } else j)
aborts_mild q cid id = record {
  q = λ j. (elim ((j.q == q) && (j.entry.cid == cid)) as (λ b. (if b then record j { verdict = Some ABORT_REQUESTED; waiting_abort = Some id } else j).q ≡ j.q) [ true ↦ refl | false ↦ refl ]);
  entry = λ j. (elim ((j.q == q) && (j.entry.cid == cid)) as (λ b. (if b then record j { verdict = Some ABORT_REQUESTED; waiting_abort = Some id } else j).entry ≡ j.entry) [ true ↦ refl | false ↦ refl ]);
  verdict = λ j st z. (elim ((j.q == q) && (j.entry.cid == cid)) as (λ b. (if b then record j { verdict = Some ABORT_REQUESTED; waiting_abort = Some id } else j).verdict ≡ Some st → is_success st ≡ true → j.verdict ≡ Some st)
      [ true ↦ λ v ok. not_success st v ok | false ↦ λ v ok. v ]);
}
  where
    not_success : {P : Type 0} (st : Status) → Some ABORT_REQUESTED ≡ Some st → is_success st ≡ true → P
    not_success st v ok = let same : st ≡ ABORT_REQUESTED = cc in absurd (true≢false (sym ok ∙ ap (λ x. is_success x) same))

stops_mild : (q : ℕ) → MildJob (a.stopped q)
stops_mild q = record {
  q = λ j. (elim ((j.q == q) && is_none j.verdict) as (λ b. (if b then record j { verdict = Some ABORTED_SQ_DELETION } else j).q ≡ j.q) [ true ↦ refl | false ↦ refl ]);
  entry = λ j. (elim ((j.q == q) && is_none j.verdict) as (λ b. (if b then record j { verdict = Some ABORTED_SQ_DELETION } else j).entry ≡ j.entry) [ true ↦ refl | false ↦ refl ]);
  verdict = λ j st z. (elim ((j.q == q) && is_none j.verdict) as (λ b. (if b then record j { verdict = Some ABORTED_SQ_DELETION } else j).verdict ≡ Some st → is_success st ≡ true → j.verdict ≡ Some st)
      [ true ↦ λ v ok. not_success st v ok | false ↦ λ v ok. v ]);
}
  where
    not_success : {P : Type 0} (st : Status) → Some ABORTED_SQ_DELETION ≡ Some st → is_success st ≡ true → P
    not_success st v ok = let same : st ≡ ABORTED_SQ_DELETION = cc in absurd (true≢false (sym ok ∙ ap (λ x. is_success x) same))

pub runs_there : (s : State) (q : ℕ) → is_running (a.sq_state s q) ≡ true → gone_at s.controller.queues q ≡ false
runs_there s q h = grind arith

placed_managed : (rs : List Record) (e : SubEntry) (s : State) → Holding rs e s.controller → PlacedIn rs (a.managed e s).controller
placed_managed rs e s h =
    let changing : (f : ServedQueue → ServedQueue) → (named_queue e == 0) ≡ false → ((e.opcode == DELETE_IO_SQ) ≡ true → (named_queue e == 0) ≡ false)
    → PlacedIn rs (a.decided e SUCCESS 0 (a.on_served_queue (named_queue e) f s)).controller = λ f q0 io.
    decide rs e SUCCESS 0 (a.on_served_queue (named_queue e) f s) (λ adm same ok. deletes_io e io adm same)
    (rw (waiting_other f (named_queue e) s.controller.queues q0, admin_completions_other f (named_queue e) s.controller.queues q0) h) in
    let stopping : (e.opcode == DELETE_IO_SQ) ≡ true → (named_queue e == 0) ≡ false → is_running (a.sq_state s (named_queue e)) ≡ true
    → PlacedIn rs (a.decided e SUCCESS 0 (a.on_controller (λ d. record d { jobs = map (a.stopped (named_queue e)) d.jobs }) (a.on_served_queue (named_queue e) (λ at. record at { state = Stopping }) s))).controller = λ is0 q0 runs.
    let stop : ServedQueue → ServedQueue = λ at. record at { state = Stopping } in
    decide rs e SUCCESS 0 (a.on_controller (λ d. record d { jobs = map (a.stopped (named_queue e)) d.jobs }) (a.on_served_queue (named_queue e) (λ at. record at { state = Stopping }) s))
    (λ adm same ok. deletes_io e (λ z. q0) adm same)
    (rw (waiting_other stop (named_queue e) s.controller.queues q0, admin_completions_other stop (named_queue e) s.controller.queues q0)
    (placed_jobs rs (e ∷ waiting s.controller.queues) s.controller.jobs (admin_completions s.controller.queues) (a.stopped (named_queue e)) (stops_mild (named_queue e)) h)) in
    managed_by (λ (t : State). PlacedIn rs t.controller) e s
    (record {
      refuses = λ st bad. decide rs e st 0 s (λ adm same ok. absurd (true≢false (sym ok ∙ bad))) h;
      aborts = λ is8 w. decide rs e SUCCESS 0 (a.on_job (named_queue e) (named_command e) (λ j. record j { verdict = Some ABORT_REQUESTED; waiting_abort = Some e.cid }) s)
          (λ adm same ok. deletes_io e (other ABORT is8 refl) adm same)
          (placed_jobs rs (e ∷ waiting s.controller.queues) s.controller.jobs (admin_completions s.controller.queues) _ (aborts_mild (named_queue e) (named_command e) e.cid) h);
      is_late = λ is8. decide rs e SUCCESS 1 s (λ adm same ok. deletes_io e (other ABORT is8 refl) adm same) h;
      stops = stopping;
      drops = λ is4 q0 there gone. changing a.dropped q0 (other DELETE_IO_CQ is4 refl);
      makes_completion = λ is5 q0 gone. changing a.completion_made q0 (other CREATE_IO_CQ is5 refl);
      makes_submission = λ is1 q0 gone there. changing a.submission_made q0 (other CREATE_IO_SQ is1 refl);
    })
  where
    other : {P : Type 0} (n : ℕ) → (e.opcode == n) ≡ true → (n == DELETE_IO_SQ) ≡ false → (e.opcode == DELETE_IO_SQ) ≡ true → P
    other n is differs deletes = absurd (true≢false (sym deletes ∙ ap (λ (o : ℕ). o == DELETE_IO_SQ) (eqb-true e.opcode n is) ∙ differs))

placed_completed_other : (rs : List Record) (q : ℕ) (an : PostedCompletion) (d : Controller) → (q == 0) ≡ false → PlacedIn rs d → PlacedIn rs (record d { queues = change q (λ at. record at { completions = at.completions ++ an ∷ [] }) d.queues })
placed_completed_other rs q an d other h = placed_other rs d q (λ at. record at { completions = at.completions ++ an ∷ [] }) other h

-- one more completion of queue 0, which is there
pub admin_completions_more : (ds : List ServedQueue) (an : PostedCompletion) → is_some (slice_get ds 0) ≡ true → admin_completions (change 0 (λ at. record at { completions = at.completions ++ an ∷ [] }) ds) ≡ admin_completions ds ++ an ∷ []
admin_completions_more [] an h = absurd (true≢false (sym h))
admin_completions_more (at ∷ ds) an h = refl

pub some_zero : (ds : List ServedQueue) (e : SubEntry) → option_and_then (λ queue. if is_running queue.state && nat_lt 0 queue.rung then slice_get queue.unfetched 0 else None) (slice_get ds 0) ≡ Some e → is_some (slice_get ds 0) ≡ true
some_zero ds e h = grind arith

pub some_still : (f : ServedQueue → ServedQueue) (k : ℕ) (ds : List ServedQueue) → is_some (slice_get ds 0) ≡ true → is_some (slice_get (change k f ds) 0) ≡ true
some_still f k [] h = h
some_still f zero (at ∷ ds) h = refl
some_still f (suc k) (at ∷ ds) h = refl

pub placed_fetch : (rs : List Record) (q : ℕ) (s : State) → PlacedIn rs s.controller → PlacedIn rs (a.after_fetch q s).controller
placed_fetch rs zero s h =
    let off : ServedQueue → ServedQueue = λ at. record at { unfetched = drop 1 at.unfetched; rung = at.rung - 1 } in
    let ds1 : State → List ServedQueue = λ s. change 0 (λ at. record at { unfetched = drop 1 at.unfetched; rung = at.rung - 1 }) s.controller.queues in
    let in_hand : (e : SubEntry) → next_rung s 0 ≡ Some e → Placed rs (e ∷ waiting (ds1 s)) s.controller.jobs (admin_completions (ds1 s)) = λ e next.
    rw (admin_completions_same off (λ at. refl) 0 s.controller.queues) (subst (λ un. Placed rs un s.controller.jobs (admin_completions s.controller.queues)) (taken_entry s.controller.queues e next) h.placed) in
    fetch_by (λ (t : State). PlacedIn rs t.controller) s 0 h
    (λ e next c.
    let an = posted_completion 0 e.cid COMMAND_ID_CONFLICT 0 (a.taken_off 0 s) in
    let more : ServedQueue → ServedQueue = λ at. record at { completions = at.completions ++ an ∷ [] } in
    let done = placed_conflict rs e (waiting (ds1 s)) s.controller.jobs (admin_completions (ds1 s)) an refl (in_hand e next) in
    record { placed = rw (waiting_same more (λ at. refl) 0 (ds1 s), admin_completions_more (ds1 s) an (some_still off 0 s.controller.queues (some_zero s.controller.queues e next))) done })
    (λ e next c z. placed_managed rs e (a.taken_off 0 s) (in_hand e next))
    (λ e next c other. absurd (true≢false other))
placed_fetch rs (suc k) s h =
    let base : PlacedIn rs (a.taken_off (suc k) s).controller = placed_other rs s.controller (suc k) (λ at. record at { unfetched = drop 1 at.unfetched; rung = at.rung - 1 }) (far_suc k) h in
    fetch_by (λ (t : State). PlacedIn rs t.controller) s (suc k) h
    (λ e next c. placed_completed_other rs (suc k) (posted_completion (suc k) e.cid COMMAND_ID_CONFLICT 0 (a.taken_off (suc k) s)) (a.taken_off (suc k) s).controller (far_suc k) base)
    (λ e next c z. absurd (omega arith))
    (λ e next c other. let fault = io_fault (a.image_blocks (a.taken_off (suc k) s)) e in
    record { placed = placed_job_more rs _ (a.taken_off (suc k) s).controller.jobs _ (a.new_job (suc k) e fault 0 (bytes_after_check s.controller.image e fault)) (far_suc k) base.placed })

-- Walking

other_mild : (q cid : ℕ) (f : Job → Job) → (q == 0) ≡ false → ((j : Job) → (f j).q ≡ j.q) → ((j : Job) → (f j).entry ≡ j.entry)
    → MildJob (λ j. if (j.q == q) && (j.entry.cid == cid) then f j else j)
other_mild q cid f other fq fe = record {
  q = λ j. (elim ((j.q == q) && (j.entry.cid == cid)) as (λ b. (if b then f j else j).q ≡ j.q) [ true ↦ fq j | false ↦ refl ]);
  entry = λ j. (elim ((j.q == q) && (j.entry.cid == cid)) as (λ b. (if b then f j else j).entry ≡ j.entry) [ true ↦ fe j | false ↦ refl ]);
  verdict = λ j st z v ok. grind arith;
}

placed_on_job : (rs : List Record) (q cid : ℕ) (f : Job → Job) (s : State) → (q == 0) ≡ false → ((j : Job) → (f j).q ≡ j.q) → ((j : Job) → (f j).entry ≡ j.entry)
    → PlacedIn rs s.controller → PlacedIn rs (a.on_job q cid f s).controller
placed_on_job rs q cid f s other fq fe h = record {
  placed = placed_jobs rs (waiting s.controller.queues) s.controller.jobs (admin_completions s.controller.queues) _ (other_mild q cid f other fq fe) h.placed;
}

pub placed_walk : (rs : List Record) (q cid : ℕ) (s : State) → (q == 0) ≡ false → PlacedIn rs s.controller → PlacedIn rs (a.after_walk q cid s).controller
placed_walk rs q cid s other h = walk_by (λ (t : State). PlacedIn rs t.controller) s q cid h (λ j act at u. placed_on_job rs q cid (unit_done s j act) s other (λ j. refl) (λ j. refl) h)

-- Completing

pub final_admin : (s : State) (j : Job) (st : Status) → j.q ≡ 0 → j.verdict ≡ Some st → a.final_status s j ≡ st
final_admin s j st z v = rw (eq-eqb j.q 0 z, v) refl

pub verdict_there : (j : Job) → is_none j.verdict ≡ false → (st : Status) × (j.verdict ≡ Some st)
verdict_there j h = by_status j.verdict h
  where
    by_status : (o : Option Status) → is_none o ≡ false → (st : Status) × (o ≡ Some st)
    by_status None h = absurd (true≢false h)
    by_status (Some st) h = (st, refl)

-- its deletion was of an I/O queue
pub clears_io : (rs : List Record) (s : State) (j : Job) (st : Status) → JobKnown rs j → j.q ≡ 0 → j.verdict ≡ Some st → clears s j ≡ true → (named_queue j.entry == 0) ≡ false
clears_io rs s j st known jq v c = grind arith

-- the completion of a job of queue 0 takes its place
placed_completion : (rs : List Record) (cid : ℕ) (d : Controller) (ds : List ServedQueue) (j : Job) (an : PostedCompletion) → find (is_job 0 cid) d.jobs ≡ Some j → an.cid ≡ cid
    → waiting ds ≡ waiting d.queues → admin_completions ds ≡ admin_completions d.queues → is_some (slice_get ds 0) ≡ true → PlacedIn rs d
    → Placed rs (waiting (change 0 (λ at. record at { completions = at.completions ++ an ∷ [] }) ds)) (filter (λ k. not (is_job 0 cid k)) d.jobs) (admin_completions (change 0 (λ at. record at { completions = at.completions ++ an ∷ [] }) ds))
placed_completion rs cid d ds j an found same w an' there h =
    rw (waiting_same (λ at. record at { completions = at.completions ++ an ∷ [] }) (λ at. refl) 0 ds, admin_completions_more ds an there, w, an')
    (placed_completed rs (waiting d.queues) d.jobs (admin_completions d.queues) cid j an found same h.placed)

pub queue_there : (s : State) → completions_full s 0 ≡ false → is_some (slice_get s.controller.queues 0) ≡ true
queue_there s h = grind arith

abbrev pub full_or_out : State → ℕ → List (Bool × Refusal)
full_or_out s q = (completions_full s q, refusal.Full) ∷ (not (is_in s.memory (post_page s q)), refusal.SlotOut) ∷ []

abbrev pub waits_or_out : State → ℕ → ℕ → List (Bool × Refusal)
waits_or_out s q cid = (refusals.job_is (refusals.waits s) s q cid, refusal.Waits) ∷ full_or_out s q

pub placed_complete : (rs : List Record) (q cid : ℕ) (s : State) → refusal_of s (events.Complete q cid) ≡ None → PlacedIn rs s.controller → PlacedIn rs (a.after_complete q cid s).controller
placed_complete rs zero cid s none h =
    let walking = rest_fails (is_none (job_at s 0 cid)) refusal.NoJob ((refusals.job_is (λ j. is_none j.verdict) s 0 cid, refusal.Walking) ∷ waits_or_out s 0 cid) none in
    let judged = first_fails (refusals.job_is (λ j. is_none j.verdict) s 0 cid) refusal.Walking (waits_or_out s 0 cid) walking in
    let waits = rest_fails (refusals.job_is (λ j. is_none j.verdict) s 0 cid) refusal.Walking (waits_or_out s 0 cid) walking in
    let full = rest_fails (refusals.job_is (refusals.waits s) s 0 cid) refusal.Waits (full_or_out s 0) waits in
    let there = queue_there s (first_fails (completions_full s 0) refusal.Full ((not (is_in s.memory (post_page s 0)), refusal.SlotOut) ∷ []) full) in
    complete_by (λ (t : State). PlacedIn rs t.controller) s 0 cid h
    (λ j e c.
    let v = verdict_there j (rw e at judged) in
    let jq : j.q ≡ 0 = eqb-true j.q 0 (and_parts (j.q == 0) (j.entry.cid == cid) (found_is (is_job 0 cid) s.controller.jobs j e)).0 in
    let n0 = clears_io rs s j v.0 (all-found (JobKnown rs) (is_job 0 cid) s.controller.jobs j e h.placed.jobs) jq v.1 c in
    record {
      placed = placed_completion rs cid s.controller (change (named_queue j.entry) cleared s.controller.queues) j
          (posted_completion 0 cid (a.final_status s j) j.dw0 (a.on_served_queue (named_queue j.entry) cleared (finished 0 cid j s))) e refl
          (waiting_other cleared (named_queue j.entry) s.controller.queues n0) (admin_completions_other cleared (named_queue j.entry) s.controller.queues n0)
          (some_still cleared (named_queue j.entry) s.controller.queues there) h;
    })
    (λ j e c. record { placed = placed_completion rs cid s.controller s.controller.queues j (posted_completion 0 cid (a.final_status s j) j.dw0 (finished 0 cid j s)) e refl refl refl there h })
placed_complete rs (suc k) cid s none h =
    let its_queue : (j : Job) → job_at s (suc k) cid ≡ Some j → (j.q == 0) ≡ false = λ j e.
    ap (λ (n : ℕ). n == 0) (eqb-true j.q (suc k) (and_parts (j.q == suc k) (j.entry.cid == cid) (found_is (is_job (suc k) cid) s.controller.jobs j e)).0) ∙ far_suc k in
    complete_by (λ (t : State). PlacedIn rs t.controller) s (suc k) cid h (λ j e c. absurd (true≢false (sym (and_parts (j.q == 0) (j.entry.opcode == DELETE_IO_SQ) (and_parts ((j.q == 0) && (j.entry.opcode == DELETE_IO_SQ)) (is_success (a.final_status s j)) c).0).0 ∙ its_queue j e)))
    (λ j e c. placed_completed_other rs (suc k) (posted_completion (suc k) cid (a.final_status s j) j.dw0 (finished (suc k) cid j s)) (finished (suc k) cid j s).controller (far_suc k)
    (record { placed = placed_job_less rs (waiting s.controller.queues) s.controller.jobs (admin_completions s.controller.queues) (λ j'. not (is_job (suc k) cid j')) h.placed }))

-- The host's events keep where admin commands stand; every trusted run does.

abbrev pub Stands : State → Type 0
Stands s = PlacedIn s.host.records s.controller

-- Records that change

records_change : (rs rs' : List Record) (d : Controller) → ((c : ℕ) → total (here 0 c) rs ≤ total (here 0 c) rs') → ((c : ℕ) (adm : AdminKind) → Knows rs c adm → Knows rs' c adm) → PlacedIn rs d → PlacedIn rs' d
records_change rs rs' d more tells h = record { placed = placed_records rs rs' (waiting d.queues) d.jobs (admin_completions d.queues) more tells h.placed }

records_more : (rs : List Record) (new : Record) (d : Controller) → PlacedIn rs d → PlacedIn (rs ++ new ∷ []) d
records_more rs new d h = records_change rs (rs ++ new ∷ []) d (λ c. omega (arith, total-append (here 0 c) rs (new ∷ []))) (λ c adm k. (k.0, find_more (is_at 0 c) rs new k.0 k.1, k.2)) h

records_map : (rs : List Record) (f : Record → Record) (d : Controller) → ((r : Record) → (f r).q ≡ r.q) → ((r : Record) → (f r).cid ≡ r.cid) → ((r : Record) → (f r).work ≡ r.work) → PlacedIn rs d → PlacedIn (map f rs) d
records_map rs f d fq fc fw h =
    let same : (c : ℕ) (r : Record) → is_at 0 c (f r) ≡ is_at 0 c r = λ c r. rw (fq r, fc r) refl in
    records_change rs (map f rs) d (λ c. omega (arith, total-map (here 0 c) f (λ r. ap one (same c r)) rs))
    (λ c adm k. (f k.0, find_map (is_at 0 c) f (same c) rs k.0 k.1, fw k.0 ∙ k.2)) h

records_with : (rs : List Record) (q cid : ℕ) (f : Record → Record) (d : Controller) → ((r : Record) → (f r).q ≡ r.q) → ((r : Record) → (f r).cid ≡ r.cid) → ((r : Record) → (f r).work ≡ r.work) → PlacedIn rs d → PlacedIn (with_record q cid f rs) d
records_with rs q cid f d fq fc fw h =
    records_map rs (λ r. if is_at q cid r then f r else r) d
    (λ r. (elim (is_at q cid r) as (λ b. (if b then f r else r).q ≡ r.q) [ true ↦ fq r | false ↦ refl ]))
    (λ r. (elim (is_at q cid r) as (λ b. (if b then f r else r).cid ≡ r.cid) [ true ↦ fc r | false ↦ refl ]))
    (λ r. (elim (is_at q cid r) as (λ b. (if b then f r else r).work ≡ r.work) [ true ↦ fw r | false ↦ refl ])) h

-- a record of another queue goes
records_less : (rs : List Record) (q cid : ℕ) (d : Controller) → (q == 0) ≡ false → PlacedIn rs d → PlacedIn (without_record q cid rs) d
records_less rs q cid d other h =
    let differs : (r : Record) → (r.q == 0) ≡ true → (r.q == q) ≡ true → ⊥ = λ r z e. true≢false (sym (eq-eqb q 0 (sym (eqb-true r.q q e) ∙ eqb-true r.q 0 z)) ∙ other) in
    records_change rs (without_record q cid rs) d (λ c. all c rs)
    (λ c adm k. (k.0, find_filter (is_at 0 c) (λ r. not (is_at q cid r)) (λ r t. (elim (cases_Bool (is_at q cid r)) [ inl e ↦ absurd (differs r (and_parts (r.q == 0) (r.cid == c) t).0 (and_parts (r.q == q) (r.cid == cid) e).0) | inr e ↦ rw e refl ])) rs k.0 k.1, k.2)) h
  where
    all : (c : ℕ) (rs : List Record) → total (here 0 c) rs ≤ total (here 0 c) (without_record q cid rs)
    all c [] = omega arith
    all c (r ∷ rs) = none_is_lost (is_at q cid r) (is_at 0 c r) refl refl (all c rs)
      where
        none_is_lost : (b z : Bool) → is_at q cid r ≡ b → is_at 0 c r ≡ z → total (here 0 c) rs ≤ total (here 0 c) (without_record q cid rs)
            → here 0 c r + total (here 0 c) rs ≤ total (here 0 c) (if not b then r ∷ without_record q cid rs else without_record q cid rs)
        none_is_lost b z eb ez ih = grind arith

-- Posting

stands_posted_other : (q : ℕ) (entry : SubEntry) (s : State) → (q == 0) ≡ false → Stands s → Stands (posts q entry s)
stands_posted_other q entry s other h = placed_other s.host.records s.controller q (λ at. record at { unfetched = at.unfetched ++ entry ∷ [] }) other h

stands_sent : (adm : AdminKind) (id : ℕ) (s : State) → total (here 0 id) s.host.records ≡ 0 → Stands s → Stands (sends adm id s)
stands_sent adm id s unused h = record { placed = stays_placed s.controller.queues h.placed }
  where
    new : Record
    new = sent_record adm id

    more : ServedQueue → ServedQueue
    more at = record at { unfetched = at.unfetched ++ admin_entry adm id ∷ [] }

    stays_placed : (ds : List ServedQueue) → Placed s.host.records (waiting ds) s.controller.jobs (admin_completions ds) → Placed (s.host.records ++ new ∷ []) (waiting (change 0 more ds)) s.controller.jobs (admin_completions (change 0 more ds))
    stays_placed [] p = placed_records s.host.records (s.host.records ++ new ∷ []) [] s.controller.jobs [] (λ c. omega (arith, total-append (here 0 c) s.host.records (new ∷ [])))
        (λ c adm k. (k.0, find_more (is_at 0 c) s.host.records new k.0 k.1, k.2)) p
    stays_placed (at ∷ ds) p = placed_sent s.host.records at.unfetched s.controller.jobs at.completions adm id new unused (rw (eq-eqb id id refl) refl) refl p

-- Reaping

pub admin_completions_rest : (ds : List ServedQueue) (an : PostedCompletion) → option_and_then (λ (queue : ServedQueue). front_completion queue.completions) (slice_get ds 0) ≡ Some an
    → admin_completions ds ≡ an ∷ admin_completions (change 0 (λ at. record at { completions = drop 1 at.completions }) ds)
admin_completions_rest [] an h = absurd cc
admin_completions_rest (at ∷ ds) an h = completion_is_first at.completions h
  where
    completion_is_first : (ans : List PostedCompletion) → front_completion ans ≡ Some an → ans ≡ an ∷ drop 1 ans
    completion_is_first [] h = absurd cc
    completion_is_first (x ∷ ans) h = let same : x ≡ an = cc in ap (λ y. y ∷ ans) same

admin_completions_less : (rs : List Record) (d : Controller) → PlacedIn rs d → PlacedIn rs (record d { queues = change 0 (λ at. record at { completions = drop 1 at.completions }) d.queues })
admin_completions_less rs d h = record { placed = shorter d.queues h.placed }
  where
    cut : (un : List SubEntry) (ans : List PostedCompletion) → Placed rs un d.jobs ans → Placed rs un d.jobs (drop 1 ans)
    cut un [] p = p
    cut un (x ∷ ans) p = record { places = λ c. omega (arith, p.places c); entries = p.entries; jobs = p.jobs; completions = p.completions.1 }

    shorter : (ds : List ServedQueue) → Placed rs (waiting ds) d.jobs (admin_completions ds)
        → Placed rs (waiting (change 0 (λ at. record at { completions = drop 1 at.completions }) ds)) d.jobs (admin_completions (change 0 (λ at. record at { completions = drop 1 at.completions }) ds))
    shorter [] p = p
    shorter (at ∷ ds) p = cut at.unfetched at.completions p

stands_consumed : (q : ℕ) (s : State) → Stands s → Stands (a.consumed q s)
stands_consumed zero s h = admin_completions_less s.host.records s.controller h
stands_consumed (suc k) s h = placed_other s.host.records s.controller (suc k) (λ at. record at { completions = drop 1 at.completions }) (far_suc k) h

-- the oldest completion of queue 0 goes with its record
stands_reaped : (cid : ℕ) (an : PostedCompletion) (s : State) → option_and_then (λ queue. front_completion queue.completions) (served_queue s 0) ≡ Some an → an.cid ≡ cid → total (here 0 cid) s.host.records < 2 → Stands s
    → PlacedIn (without_record 0 cid s.host.records) (record s.controller { queues = change 0 (λ at. record at { completions = drop 1 at.completions }) s.controller.queues })
stands_reaped cid an s first is once h = record { placed = rw (waiting_same (λ at. record at { completions = drop 1 at.completions }) (λ at. refl) 0 s.controller.queues) reaped' }
  where
    rest : List PostedCompletion
    rest = admin_completions (change 0 (λ at. record at { completions = drop 1 at.completions }) s.controller.queues)

    reaped' : Placed (without_record 0 cid s.host.records) (waiting s.controller.queues) s.controller.jobs (admin_completions (change 0 (λ at. record at { completions = drop 1 at.completions }) s.controller.queues))
    reaped' = subst (λ (c : ℕ). total (here 0 c) s.host.records < 2 → Placed (without_record 0 c s.host.records) (waiting s.controller.queues) s.controller.jobs rest) is
        (λ once. placed_reaped s.host.records (waiting s.controller.queues) s.controller.jobs an rest once
        (subst (λ ans. Placed s.host.records (waiting s.controller.queues) s.controller.jobs ans) (admin_completions_rest s.controller.queues an first) h.placed)) once

-- Every event

abbrev pub StandsSound : State → Type 0
StandsSound s = HoldsPart (host_part s) × Stands s

-- each command fits its queue as the host's peer has it: an admin command is of queue 0, and in a world an I/O command is not
owns_fit : (s : State) (q cid : ℕ) (r : Record) (w : Work) → HoldsPart (host_part s) → record_at s.host q cid ≡ Some r → r.work ≡ w → (r.q ≡ q) × OwnsFit s.host.peer r.q w (pages_of r)
owns_fit s q cid r w holds e is = (
  eqb-true r.q q (and_parts (r.q == q) (r.cid == cid) (found_is (is_at q cid) s.host.records r e)).0,
  subst (λ (x : Work). OwnsFit s.host.peer r.q x (pages_of r)) is (found_all (λ r'. OwnsFit s.host.peer r'.q r'.work (pages_of r')) (is_at q cid) s.host.records r e holds.admins),
)

pub admin_zero : (s : State) (q cid : ℕ) (r : Record) (adm : AdminKind) → HoldsPart (host_part s) → record_at s.host q cid ≡ Some r → r.work ≡ Management adm → q ≡ 0
admin_zero s q cid r adm holds e w = let fit = owns_fit s q cid r (Management adm) holds e w in sym fit.0 ∙ fit.1.0

pub io_other : (s : State) (q cid : ℕ) (r : Record) (request : Request) → s.host.peer ≡ Modelled → HoldsPart (host_part s) → record_at s.host q cid ≡ Some r → r.work ≡ Io request → (q == 0) ≡ false
io_other s q cid r request modelled holds e w =
    let fit = owns_fit s q cid r (Io request) holds e w in
    let other : (r.q == 0) ≡ false = subst (λ (peer : Peer). OwnsFit peer r.q (Io request) (pages_of r)) modelled fit.1 in
    ap (λ (k : ℕ). k == 0) (sym fit.0) ∙ other

stands_host : (s : State) (e : Event) (reply : Reply) → Accepts s e reply → IsController e ≡ false → s.trusted ≡ true → s.host.peer ≡ Modelled → StandsSound s → Stands (a.after s e reply)
stands_host s e reply ok c t m h =
    host_moves (λ (e : Event) (reply : Reply) (t : State). Stands t) s e reply ok c
    (record {
      reserves = λ q request d none is. records_more s.host.records (drafted_record d) s.controller h.1;
      submits = λ d entry r none built its live.
          stands_posted_other d.q entry (a.on_records (with_record d.q d.cid a.submitted) (a.on_memory (with_pages (d.data_pages ++ d.chain_pages)) s)) (io_other s d.q d.cid r its.asked.0 m h.0 its.found its.asked.1)
          (records_with s.host.records d.q d.cid a.submitted s.controller (λ r. refl) (λ r. refl) (λ r. refl) h.1);
      cancels = λ d r its. records_less s.host.records d.q d.cid s.controller (io_other s d.q d.cid r its.asked.0 m h.0 its.found its.asked.1) h.1;
      rings = λ q none.
          placed_change s.host.records s.controller q (λ at. record at { rung = length at.unfetched }) (waiting_same _ (λ at. refl) q s.controller.queues) (admin_completions_same _ (λ at. refl) q s.controller.queues) h.1;
      rests = λ q is. h.1;
      rejects = λ q why is. stands_consumed q s h.1;
      tells = λ q cid st what e r request told heard w. records_with s.host.records q cid (a.held st e.hints) (a.consumed q s).controller (λ r. refl) (λ r. refl) (λ r. refl) (stands_consumed q s h.1);
      hears = λ q cid st what e r adm told heard w quiet unmade. gone q cid st e r adm heard w;
      notes = λ q cid st what e r k told heard w. gone q cid st e r (DeleteSq k) heard w;
      frees = λ q cid st what e r k queue told heard w at alone good. gone q cid st e r (DeleteCq k) heard w;
      makes_cq = λ q cid st what e r k n base vector told heard w good. gone q cid st e r (CreateCq k n base vector) heard w;
      unmakes_cq = λ q cid st what e r k n base vector queue told heard w at bad. gone q cid st e r (CreateCq k n base vector) heard w;
      makes_sq = λ q cid st what e r k n base told heard w good. gone q cid st e r (CreateSq k n base) heard w;
      unmakes_sq = λ q cid st what e r k n base queue told heard w at bad. gone q cid st e r (CreateSq k n base) heard w;
      collects = λ q cid r f at held is. records_with s.host.records q cid a.collected s.controller (λ r. refl) (λ r. refl) (λ r. refl) h.1;
      releases = λ f r its. records_less s.host.records f.q f.cid s.controller (io_other s f.q f.cid r its.asked.0 m h.0 its.found its.asked.1) h.1;
      aborts = λ q cid id none new. stands_sent (Abort q cid) id s (unused s 0 id new) h.1;
      asks = λ q id queue none new live. stands_sent (DeleteSq q) id s (unused s 0 id new) h.1;
      drops = λ q id none new. stands_sent (DeleteCq q) id s (unused s 0 id new) h.1;
      creates_cqs = λ q vector id first queue none new granted. stands_sent (creates_cq q vector first s) id (grants_cq q first s) (unused s 0 id new) (record { placed = h.1.placed });
      creates_sqs = λ q id first queue none new granted. stands_sent (creates_sq q first s) id (grants_sq q first s) (unused s 0 id new) (record { placed = h.1.placed });
      retires = λ q queue none at deleted.
          records_map s.host.records (a.lost q) s.controller
          (λ r. (elim ((r.q == q) && is_submitted r.phase) as (λ b. (if b then a.aborted r else r).q ≡ r.q) [ true ↦ refl | false ↦ refl ]))
          (λ r. (elim ((r.q == q) && is_submitted r.phase) as (λ b. (if b then a.aborted r else r).cid ≡ r.cid) [ true ↦ refl | false ↦ refl ]))
          (λ r. (elim ((r.q == q) && is_submitted r.phase) as (λ b. (if b then a.aborted r else r).work ≡ r.work) [ true ↦ refl | false ↦ refl ])) h.1;
      forges = λ q slot bytes queue none at. h.1;
      resets = record { placed = rw (no_waiting s.controller.queues, no_admin_completions s.controller.queues) (reset_admin_commands (a.reset_records s.host.records)) };
    })
  where
    gone : (q cid : ℕ) (st : Status) (e : ComEntry) (r : Record) (adm : AdminKind) → IsHeard s q cid st e r → r.work ≡ Management adm → Stands (heard_without q cid e s)
    gone q cid st e r adm heard w =
        let zero' = admin_zero s q cid r adm h.0 heard.found w in
        let an = completion_heard s q cid st e r t heard in
        subst (λ (z : ℕ). Stands (heard_without z cid e s)) (sym zero')
        (stands_reaped cid an.completion s (subst (λ (z : ℕ). option_and_then (λ (queue : ServedQueue). front_completion queue.completions) (served_queue s z) ≡ Some an.completion) zero' an.first) an.its_id (h.0.once 0 cid) h.1)

stands_walk : (q cid : ℕ) (s : State) → refusal_of s (events.Walk q cid) ≡ None → Stands s → PlacedIn s.host.records (a.after_walk q cid s).controller
stands_walk q cid s none h =
    let nothing : refusals.job_is (λ j. is_some j.verdict || (j.q == 0)) s q cid ≡ false =
    first_fails (refusals.job_is (λ j. is_some j.verdict || (j.q == 0)) s q cid) refusal.Nothing [] (rest_fails (is_none (job_at s q cid)) refusal.NoJob ((refusals.job_is (λ j. is_some j.verdict || (j.q == 0)) s q cid, refusal.Nothing) ∷ []) none) in
    elim (option_is (job_at s q cid)) [
      | inl e ↦ absurd (true≢false (rw e at (first_fails (is_none (job_at s q cid)) refusal.NoJob ((refusals.job_is (λ j. is_some j.verdict || (j.q == 0)) s q cid, refusal.Nothing) ∷ []) none)))
      | inr (j, e) ↦
          let judged : (is_some j.verdict || (j.q == 0)) ≡ false = rw e at nothing in
          let jq : (j.q == 0) ≡ false = (or_parts (is_some j.verdict) (j.q == 0) judged).1 in
          let at = and_parts (j.q == q) (j.entry.cid == cid) (found_is (is_job q cid) s.controller.jobs j e) in
          placed_walk s.host.records q cid s (ap (λ (k : ℕ). k == 0) (sym (eqb-true j.q q at.0)) ∙ jq) h
    ]

controller_records : (s : State) (e : Event) (reply : Reply) → IsController e ≡ true → (a.after s e reply).host.records ≡ s.host.records
controller_records s e reply c = ap (λ (part : HostPart). part.host.records) (part_controller s e reply c)

with_records : (s t : State) → t.host.records ≡ s.host.records → PlacedIn s.host.records t.controller → Stands t
with_records s t e h = subst (λ (rs : List Record). PlacedIn rs t.controller) (sym e) h

pub stands_event : (s : State) (e : Event) (reply : Reply) → Accepts s e reply → s.trusted ≡ true → s.host.peer ≡ Modelled → StandsSound s → Stands (a.after s e reply)
stands_event s (events.Fetch q) (events.Fetched c touched) ok t m h =
    with_records s (a.after_fetch q s) (controller_records s (events.Fetch q) (events.Fetched c touched) refl) (placed_fetch s.host.records q s h.1)
stands_event s (events.Walk q cid) (events.Walked o touched) ok t m h =
    with_records s (a.after_walk q cid s) (controller_records s (events.Walk q cid) (events.Walked o touched) refl) (stands_walk q cid s ok.0 h.1)
stands_event s (events.Complete q cid) (events.Completed touched) ok t m h =
    with_records s (a.after_complete q cid s) (controller_records s (events.Complete q cid) (events.Completed touched) refl) (placed_complete s.host.records q cid s ok.0 h.1)
stands_event s (events.Fetch q) reply ok t m h = absurd ok.1
stands_event s (events.Walk q cid) reply ok t m h = absurd ok.1
stands_event s (events.Complete q cid) reply ok t m h = absurd ok.1
stands_event s e reply ok t m h = stands_host s e reply ok refl t m h

-- Runs in which nothing was forged.

-- An entry that is forged ends the trust
forged_ends : (o : Option HostQueue) (f : HostQueue → State) (s : State) → ((x : HostQueue) → (f x).trusted ≡ false) → option_map_or (λ queue. is_reaped queue.state) o false ≡ true → (option_map_or f o s).trusted ≡ false
forged_ends o f s h e = grind arith

pub forged_untrusted : (s : State) (q slot : ℕ) (bytes : List ℕ) → refusal_of s (events.Forge q slot bytes) ≡ None → (a.after_forge q slot bytes s).trusted ≡ false
forged_untrusted s q slot bytes ok = grind arith

-- Admin commands stand in one place

holds_on : (s : State) (e : Event) (reply : Reply) → Accepts s e reply → HoldsPart (host_part s) → HoldsPart (host_part (a.after s e reply))
holds_on s e reply ok h = elim (cases_Bool (IsController e)) [ inl c ↦ subst HoldsPart (sym (part_controller s e reply c)) h | inr c ↦ host_event s e reply ok c h ]

pub both_on : (s : State) (e : Event) (reply : Reply) → Accepts s e reply → s.trusted ≡ true → s.host.peer ≡ Modelled → StandsSound s → StandsSound (a.after s e reply)
both_on s e reply ok t m h = (holds_on s e reply ok h.0, stands_event s e reply ok t m h)

pub opening_stands : (pages queues n s : ℕ) (image : List ℕ) → Stands (opening pages queues n s image)
opening_stands pages queues n s image = record { placed = starts_placed queues }
  where
    starts_placed : (queues : ℕ) → Placed [] (waiting (replicate (queues + 1) opened)) [] (admin_completions (replicate (queues + 1) opened))
    starts_placed queues = subst (λ (k : ℕ). Placed [] (waiting (replicate k opened)) [] (admin_completions (replicate k opened))) (add-one' queues)
        (record { places = λ c. omega arith; entries = tt; jobs = tt; completions = tt })
      where
        add-one' : (k : ℕ) → suc k ≡ k + 1
        add-one' k = omega arith

times-map : {A : Type 0} (id : A → ℕ) (c : ℕ) (xs : List A) → times c (map id xs) ≡ total (λ x. one (id x == c)) xs
times-map id c [] = refl
times-map id c (x ∷ xs) = times-cons c (id x) (map id xs) ∙ ap (λ n. one (id x == c) + n) (times-map id c xs)

times-jobs : (c : ℕ) (js : List Job) → times c (map (λ j. j.entry.cid) (filter (λ j. j.q == 0) js)) ≡ total (job_is c) js
times-jobs c [] = refl
times-jobs c (j ∷ js) = by_queue (j.q == 0) (times-jobs c js)
  where
    by_queue : (b : Bool) → times c (map (λ j. j.entry.cid) (filter (λ j. j.q == 0) js)) ≡ total (job_is c) js
        → times c (map (λ j. j.entry.cid) (if b then j ∷ filter (λ j. j.q == 0) js else filter (λ j. j.q == 0) js)) ≡ one (b && (j.entry.cid == c)) + total (job_is c) js
    by_queue true ih = times-cons c j.entry.cid (map (λ j. j.entry.cid) (filter (λ j. j.q == 0) js)) ∙ ap (λ n. one (j.entry.cid == c) + n) ih
    by_queue false ih = omega (arith, ih)

-- A run as its steps were made

-- admin commands stand once where each of their places is known
pub stands_once : (new : State) (cid : ℕ) → StandsSound new → times cid (admin_places new) ≤ times cid (outstanding_on new.host 0)
stands_once new cid stands =
    let un = map (λ (e : SubEntry). e.cid) (waiting new.controller.queues) in
    let js = map (λ (j : Job). j.entry.cid) (filter (λ (j : Job). j.q == 0) new.controller.jobs) in
    omega (
      arith,
      stands.1.placed.places cid,
      times-append cid (un ++ js) (map (λ (an : PostedCompletion). an.cid) (admin_completions new.controller.queues)),
      times-append cid un js,
      times-map (λ (e : SubEntry). e.cid) cid (waiting new.controller.queues),
      times-jobs cid new.controller.jobs,
      times-map (λ (an : PostedCompletion). an.cid) cid (admin_completions new.controller.queues),
      times-outstanding cid 0 new.host.records,
    )
