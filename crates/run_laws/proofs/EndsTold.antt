-- Each end is told.
use Rattle.machine_model.specs.After as a
use Rattle.machine_model.specs.Events as events
use Rattle.std.proofs.Common.{◌≡◌, ◌⊎◌, inl, inr, ℕ, ◌-◌, ◌==◌, Bool, true, false, ◌&&◌, ◌||◌, Option, Some, List, [], ◌∷◌, ◌++◌, length, drop, slice_get, if◌then◌else◌, refl, ap, sym, ◌∙◌, arith, subst, eqb-true, eq-eqb, suc, ◌+◌, not, None, replicate, option_and_then}
use Rattle.std.proofs.lemmas.{Bool.{true≢false, and_parts, ne_eqb, cases_Bool, not-true}, List.append_assoc}
use Rattle.std.specs.{List.{AllByRecursion, list_any}, Option.option_map_or}
use Rattle.admin_commands.specs.{Entries.{admin_entry, named_queue}, Verdicts.is_absent, declared.AdminKind.AdminKind}
use Rattle.admin_commands.specs.declared.{AdminKind.TheVariants.{Abort, DeleteSq, DeleteCq, CreateCq, CreateSq}, SqState.TheVariants.Stopping}
use Rattle.entry_codec.specs.{Status.is_success, declared.{admin_opcode.TheConstants.DELETE_IO_SQ, completion.ComEntry.ComEntry, status.Status.Status}}
use Rattle.entry_codec.specs.declared.{status.TheConstants.Status.{COMMAND_ID_CONFLICT, ABORTED_SQ_DELETION}, submission.SubEntry.SubEntry}
use Rattle.io_commands.specs.Asked.{Request}
use Rattle.page_memory.specs.declared.page.Half.TheVariants.{Submission, Completion}
use Rattle.queue_pair.specs.Rings.{HostRing, next_tail, next_head, knowing}
use Rattle.machine_model.proofs.{Counting.{one, total}, HostLeaves.ids_of, Kept.{asked_as_heard, ring_at, deleted_serves}}
use Rattle.machine_model.proofs.Moves.{host_moves, deleted_is, half_from, queue_found, drafted_record, sent_record, creates_cq, creates_sq}
use Rattle.machine_model.proofs.{Owned.{HoldsPart, reset_state, all_reset, lost_by}, Sound.{asked_at, was_asked, named, status_in}}
use Rattle.machine_model.proofs.{Steps.{managed_by, unrefused, Accepts, part_controller}, Tokens.{gone_at, is_job}}
use Rattle.machine_model.specs.{After.change, Agreeing.{JobKnown, Knows}, Claims.OwnsFit, Events.{Event, Reply}, Image.Made}
use Rattle.machine_model.specs.{Opening.{Opens, opening, served_queue as opened}, Proper.IsProper}
use Rattle.machine_model.specs.Refusals.{host_queue, next_rung, job_at, is_live, is_deleting, is_asked, in_service, is_submitted, is_drafted, is_held, front_completion, entry_of, record_is, refusal_of}
use Rattle.machine_model.specs.State.{State, HostQueue, ServedQueue, Job, Record, PostedCompletion, is_at, record_at, with_record, without_record, pages_of}
use Rattle.machine_model.specs.{Step.{IsController, HostPart, resets, host_part, reaped, reaped_entry}, Work.Work, declared.words.HostState.HostState}
use Rattle.machine_model.specs.declared.words.{HostState.TheVariants.{Live, Deleting}, Peer.TheVariants.{Modelled}, Phase.{Phase, TheVariants.Held}, Reaped.TheVariants.{Empty, Rejected}}
use Rattle.machine_model.specs.declared.words.{Refusal.Refusal, Work.TheVariants.Io}
use Rattle.run_laws.proofs.{Causes.{any_longer, any_last}, Moves.{JobsMove, jobs_event, queues_walk, QueueMove, queues_event, told_entry}, OneEnd.opened_lists}
use Rattle.run_laws.{proofs.ReadsKept.{Member, members}, specs.Ends.{renews_by, renews, since_renewed, submits_by, submits, WasLost, WasLostByReset}}
use Rattle.run_laws.specs.Statuses.{deletes, status_by, status_given}
use Rattle.two_sides.proofs.{Along.{made_of, Carried}, ControllerMoves.{posted_completion, finished, cleared, clears, fetch_by, complete_by, is_over}, Heads.changed_at}
use Rattle.two_sides.proofs.{NeverFull.{stood_on, stood_at_opening}, PlacesKept.reaped_completion}
use Rattle.two_sides.proofs.Provided.{In, all_in, all_in_both, all_map, all_with, all_append, all_drop_one, sent, sent_found}
use Rattle.two_sides.proofs.{Served.{Stood, completions_at}, Standing.list_at, Tied.{below, deleted_is_gone}, TiedAll.{live_is_there, pair_at}}
use Rattle.page_memory.proofs.Lists.{all-at, all-found, all-filter, some_is}

-- A submission queue that is in service at the host and absent at the controller was deleted: a Delete SQ of it was fetched since it was last retired or asked for anew, and since the controller was last reset.

-- Steps since a queue was renewed

any_more : (f : Made → Bool) (xs : List Made) (m : Made) → f m ≡ false → list_any f (xs ++ m ∷ []) ≡ list_any f xs
any_more f [] m far = rw far refl
any_more f (x ∷ xs) m far = ap (λ (b : Bool). f x || b) (any_more f xs m far)

-- a step that does not renew it
since_longer : (q : ℕ) (done : List Made) (m : Made) → renews q m ≡ false → since_renewed q (done ++ m ∷ []) ≡ since_renewed q done ++ m ∷ []
since_longer q [] m far = ap (λ (b : Bool). if b then [] else m ∷ []) far
since_longer q (x ∷ done) m far = grind (arith, since_longer q done m, any_more)

-- a Delete SQ of a queue was fetched since then
abbrev pub DeletedSince : ℕ → List Made → Type 0
DeletedSince q done = list_any (deletes q) (since_renewed q done) ≡ true

pub deleted_longer : (q : ℕ) (done : List Made) (m : Made) → renews q m ≡ false → DeletedSince q done → DeletedSince q (done ++ m ∷ [])
deleted_longer q done m far h = ap (list_any (deletes q)) (since_longer q done m far) ∙ any_longer (deletes q) (since_renewed q done) m h

deleted_last : (q : ℕ) (done : List Made) (m : Made) → renews q m ≡ false → deletes q m ≡ true → DeletedSince q (done ++ m ∷ [])
deleted_last q done m far is = ap (list_any (deletes q)) (since_longer q done m far) ∙ any_last (deletes q) (since_renewed q done) m is

-- The job of a Delete SQ was fetched, and since then its queue was not renewed: the host waits for its completion

abbrev pub DeletionFetched : List Made → Job → Type 0
DeletionFetched done j = j.q ≡ 0 → (j.entry.opcode == DELETE_IO_SQ) ≡ true → DeletedSince (named_queue j.entry) done

deletion_asked : (s : State) → Stood s → (j : Job) → JobKnown s.host.records j → j.q ≡ 0 → (j.entry.opcode == DELETE_IO_SQ) ≡ true → asked_at s.host.queues (named_queue j.entry) ≡ true
deletion_asked s stood j known z is0 = let k = known z in of k.0 k.1 k.2
  where
    other : (adm : AdminKind) → ((admin_entry adm j.entry.cid).opcode == DELETE_IO_SQ) ≡ false → j.entry ≡ admin_entry adm j.entry.cid → ⊥
    other adm none is = true≢false (sym is0 ∙ ap (λ (e : SubEntry). e.opcode == DELETE_IO_SQ) is ∙ none)

    of : (adm : AdminKind) → Knows s.host.records j.entry.cid adm → j.entry ≡ admin_entry adm j.entry.cid → asked_at s.host.queues (named_queue j.entry) ≡ true
    of (DeleteSq k) knows is =
        let asked = was_asked s.host.records s.host.queues k 0 j.entry.cid knows.0 knows.1 knows.2 (stood.grounds.stands.0.once 0 j.entry.cid) stood.grounds.fit.asked in
        let few = below s.host.queues k (grind arith) in
        subst (λ (n : ℕ). asked_at s.host.queues n ≡ true) (sym (ap named_queue is ∙ (omega arith))) asked
    of (Abort k c) knows is = absurd (other (Abort k c) refl is)
    of (DeleteCq k) knows is = absurd (other (DeleteCq k) refl is)
    of (CreateCq k n base vector) knows is = absurd (other (CreateCq k n base vector) refl is)
    of (CreateSq k n base) knows is = absurd (other (CreateSq k n base) refl is)

deletion_stays : (s : State) (e : Event) (reply : Reply) → resets e ≡ false → Accepts s e reply → Stood s → (k : ℕ) (j : Job) → slice_get s.controller.jobs k ≡ Some j → j.q ≡ 0 → (j.entry.opcode == DELETE_IO_SQ) ≡ true
    → renews_by (named_queue j.entry) e reply ≡ false
deletion_stays s e reply other ok stood k j at z is0 =
    let asked = deletion_asked s stood j (all-at (JobKnown s.host.records) s.controller.jobs k j at stood.grounds.stands.1.placed.jobs) z is0 in
    let quiet_queue : (test : HostState → Bool) → ((st : HostState) → test st ≡ true → is_asked st ≡ false) → (n : ℕ) → option_map_or (λ x. test x.state) (host_queue s n) false ≡ true → (n == named_queue j.entry) ≡ false =
    λ test quiet n is. ne_eqb n (named_queue j.entry) (λ e. (let g = subst (λ (m : ℕ). asked_at s.host.queues m ≡ true) (sym e) asked in grind arith)) in
    grind (arith, other)

fetch_deletes : (s : State) (reply : Reply) (entry : SubEntry) → Accepts s (events.Fetch 0) reply → next_rung s 0 ≡ Some entry → (entry.opcode == DELETE_IO_SQ) ≡ true → deletes (named_queue entry) (made_of s (events.Fetch 0) reply) ≡ true
fetch_deletes s reply entry ok next is0 = grind arith

deletes_at : (s : State) (e : Event) (reply : Reply) (entry : SubEntry) → Accepts s e reply → e ≡ events.Fetch 0 → next_rung s 0 ≡ Some entry → (entry.opcode == DELETE_IO_SQ) ≡ true → deletes (named_queue entry) (made_of s e reply) ≡ true
deletes_at s e reply entry ok is next is0 =
    subst (λ (x : Event). deletes (named_queue entry) (made_of s x reply) ≡ true) (sym is) (fetch_deletes s reply entry (subst (λ (x : Event). Accepts s x reply) is ok) next is0)

deletions_turn : (done : List Made) (s : State) (e : Event) (reply : Reply) → resets e ≡ false → Accepts s e reply → Stood s → JobsMove (DeletionFetched done) (DeletionFetched (done ++ made_of s e reply ∷ [])) s e
deletions_turn done s e reply other ok stood = record {
  stays = λ k j f far p z is0. deleted_longer (named_queue j.entry) done (made_of s e reply) (deletion_stays s e reply other ok stood k j f z is0) (p z is0);
  fails = λ k j st waiting f far lost none p z is0. deleted_longer (named_queue j.entry) done (made_of s e reply) (deletion_stays s e reply other ok stood k j f z is0) (p z is0);
  manages = λ entry st dw0 e' next free z is0.
      deleted_last (named_queue entry) done (made_of s e reply) (subst (λ (x : Event). renews_by (named_queue entry) x reply ≡ false) (sym e') refl) (deletes_at s e reply entry ok e' next is0);
  begins = λ k entry e' next io free z is0. absurd (true≢false (sym (eq-eqb k 0 z) ∙ io));
  walks = λ k c j act e' w u p z is0. deleted_longer (named_queue j.entry) done (made_of s e reply) (subst (λ (x : Event). renews_by (named_queue j.entry) x reply ≡ false) (sym e') refl) (p z is0);
}

-- after a reset there is no job
pub deletions_on : (done : List Made) (s : State) (e : Event) (reply : Reply) → Accepts s e reply → Stood s → AllByRecursion (DeletionFetched done) s.controller.jobs
    → AllByRecursion (DeletionFetched (done ++ made_of s e reply ∷ [])) (a.after s e reply).controller.jobs
deletions_on done s events.Reset events.Accepted ok stood h = tt
deletions_on done s events.Reset reply ok stood h = absurd ok.1
deletions_on done s e reply ok stood h =
    jobs_event (DeletionFetched done) (DeletionFetched (done ++ made_of s e reply ∷ [])) s e reply (deletions_turn done s e reply refl ok stood) ok stood h

-- What is so of each absent queue of the controller, as one changes

abbrev AbsentSo : (ℕ → Type 0) → List ServedQueue → Type 0
AbsentSo F qs = (q : ℕ) (at : ServedQueue) → slice_get qs q ≡ Some at → is_absent at.state ≡ true → F q

absent_change : (F : ℕ → Type 0) (k : ℕ) (f : ServedQueue → ServedQueue) (qs : List ServedQueue) → ((at : ServedQueue) → slice_get qs k ≡ Some at → is_absent (f at).state ≡ true → F k) → AbsentSo F qs → AbsentSo F (change k f qs)
absent_change F k f qs own h q at e absent = grind (arith, changed_at k f qs q at e)

absent_same : (F : ℕ → Type 0) (k : ℕ) (f : ServedQueue → ServedQueue) (qs : List ServedQueue) → ((at : ServedQueue) → (f at).state ≡ at.state) → AbsentSo F qs → AbsentSo F (change k f qs)
absent_same F k f qs same h = absent_change F k f qs (λ at e absent. h k at e (sym (ap is_absent (same at)) ∙ absent)) h

absent_fetch : (F : ℕ → Type 0) (s : State) (q : ℕ) → AbsentSo F s.controller.queues → AbsentSo F (a.after_fetch q s).controller.queues
absent_fetch F s q h =
    let off : (k : ℕ) → AbsentSo F (change k (λ at. record at { unfetched = drop 1 at.unfetched; rung = at.rung - 1 }) s.controller.queues) =
    λ k. absent_same F k (λ at. record at { unfetched = drop 1 at.unfetched; rung = at.rung - 1 }) s.controller.queues (λ at. refl) h in
    fetch_by (λ (t : State). AbsentSo F t.controller.queues) s q h
    (λ e n c. absent_same F q (λ at. record at { completions = at.completions ++ posted_completion q e.cid COMMAND_ID_CONFLICT 0 (a.taken_off q s) ∷ [] }) (a.taken_off q s).controller.queues (λ at. refl) (off q))
    (λ e n c z. managed_by (λ (t : State). AbsentSo F t.controller.queues) e (a.taken_off 0 s)
    (record {
      refuses = λ st bad. off 0;
      aborts = λ is8 w. off 0;
      is_late = λ is8. off 0;
      stops = λ is0 q0 runs. absent_change F (named_queue e) (λ at. record at { state = Stopping }) (a.taken_off 0 s).controller.queues (λ at ex no. absurd (true≢false (sym no))) (off 0);
      drops = λ is4 q0 there gone. absent_same F (named_queue e) a.dropped (a.taken_off 0 s).controller.queues (λ at. refl) (off 0);
      makes_completion = λ is5 q0 none. absent_same F (named_queue e) a.completion_made (a.taken_off 0 s).controller.queues (λ at. refl) (off 0);
      makes_submission = λ is1 q0 gone there. absent_change F (named_queue e) a.submission_made (a.taken_off 0 s).controller.queues (λ at ex no. absurd (true≢false (sym no))) (off 0);
    }))
    (λ e n c other. off q)

absent_complete : (F : ℕ → Type 0) (s : State) (q cid : ℕ) → ((j : Job) → job_at s q cid ≡ Some j → clears s j ≡ true → F (named_queue j.entry)) → AbsentSo F s.controller.queues → AbsentSo F (a.after_complete q cid s).controller.queues
absent_complete F s q cid told h =
    complete_by (λ (t : State). AbsentSo F t.controller.queues) s q cid h
    (λ j at c.
    let t = a.on_served_queue (named_queue j.entry) cleared (finished q cid j s) in
    absent_same F q (λ at. record at { completions = at.completions ++ posted_completion q cid (a.final_status s j) j.dw0 t ∷ [] }) t.controller.queues (λ at. refl)
    (absent_change F (named_queue j.entry) cleared s.controller.queues (λ x ex no. told j at c) h))
    (λ j at c. absent_same F q (λ at. record at { completions = at.completions ++ posted_completion q cid (a.final_status s j) j.dw0 (finished q cid j s) ∷ [] }) s.controller.queues (λ at. refl) h)

absent_host : (F : ℕ → Type 0) (s : State) (e : Event) (reply : Reply) → Accepts s e reply → IsController e ≡ false → resets e ≡ false → AbsentSo F s.controller.queues → AbsentSo F (a.after s e reply).controller.queues
absent_host F s e reply ok c other h =
    let posts : (q : ℕ) (entry : SubEntry) → AbsentSo F (change q (λ at. record at { unfetched = at.unfetched ++ entry ∷ [] }) s.controller.queues) =
    λ q entry. absent_same F q (λ at. record at { unfetched = at.unfetched ++ entry ∷ [] }) s.controller.queues (λ at. refl) h in
    let reaped : (q : ℕ) → AbsentSo F (change q (λ at. record at { completions = drop 1 at.completions }) s.controller.queues) =
    λ q. absent_same F q (λ at. record at { completions = drop 1 at.completions }) s.controller.queues (λ at. refl) h in
    host_moves (λ (e : Event) (reply : Reply) (t : State). resets e ≡ false → AbsentSo F t.controller.queues) s e reply ok c
    (record {
      reserves = λ q request d none is other. h;
      submits = λ d entry r none built its live other. posts d.q entry;
      cancels = λ d r its other. h;
      rings = λ q none other. absent_same F q (λ at. record at { rung = length at.unfetched }) s.controller.queues (λ at. refl) h;
      rests = λ q is other. h;
      rejects = λ q why is other. reaped q;
      tells = λ q cid st what e r request t heard w other. reaped q;
      hears = λ q cid st what e r adm t heard w quiet unmade other. reaped q;
      notes = λ q cid st what e r k t heard w other. reaped q;
      frees = λ q cid st what e r k queue t heard w at alone good other. reaped q;
      makes_cq = λ q cid st what e r k n base vector t heard w good other. reaped q;
      unmakes_cq = λ q cid st what e r k n base vector queue t heard w at bad other. reaped q;
      makes_sq = λ q cid st what e r k n base t heard w good other. reaped q;
      unmakes_sq = λ q cid st what e r k n base queue t heard w at bad other. reaped q;
      collects = λ q cid r f at held is other. h;
      releases = λ f r its other. h;
      aborts = λ q cid id none new other. posts 0 _;
      asks = λ q id queue none new live other. posts 0 _;
      drops = λ q id none new other. posts 0 _;
      creates_cqs = λ q vector id first queue none new granted other. posts 0 _;
      creates_sqs = λ q id first queue none new granted other. posts 0 _;
      retires = λ q queue none at deleted other. h;
      forges = λ q slot bytes queue none at other. h;
      resets = λ other. absurd (true≢false other);
    }) other

absent_event : (F : ℕ → Type 0) (s : State) (e : Event) (reply : Reply) → Accepts s e reply → resets e ≡ false → ((k cid : ℕ) (j : Job) → job_at s k cid ≡ Some j → clears s j ≡ true → F (named_queue j.entry))
    → AbsentSo F s.controller.queues → AbsentSo F (a.after s e reply).controller.queues
absent_event F s (events.Fetch q) (events.Fetched c touched) ok other told h = absent_fetch F s q h
absent_event F s (events.Walk q cid) (events.Walked o touched) ok other told h = subst (AbsentSo F) (sym (queues_walk s q cid)) h
absent_event F s (events.Complete q cid) (events.Completed touched) ok other told h = absent_complete F s q cid (told q cid) h
absent_event F s (events.Fetch q) reply ok other told h = absurd ok.1
absent_event F s (events.Walk q cid) reply ok other told h = absurd ok.1
absent_event F s (events.Complete q cid) reply ok other told h = absurd ok.1
absent_event F s e reply ok other told h = absent_host F s e reply ok refl other h

-- Queues of the host whose deletion was asked for: they were in service before, and the event does not renew them

abbrev InService : State → ℕ → Type 0
InService s q = (x : HostQueue) × (host_queue s q ≡ Some x) × (in_service x.state ≡ true)

abbrev Serving : State → List HostQueue → Type 0
Serving s hs = (q : ℕ) (y : HostQueue) → slice_get hs q ≡ Some y → is_deleting y.state ≡ true → InService s q

serving_change : (s : State) (k : ℕ) (f : HostQueue → HostQueue) (hs : List HostQueue) → ((x : HostQueue) → slice_get hs k ≡ Some x → is_deleting (f x).state ≡ true → InService s k) → Serving s hs → Serving s (change k f hs)
serving_change s k f hs own h q y e deleting = grind (arith, changed_at k f hs q y e)

serving_ring : (s : State) (k : ℕ) (g : HostRing → HostRing) (hs : List HostQueue) → Serving s hs → Serving s (change k (λ x. record x { ring = g x.ring }) hs)
serving_ring s k g hs h = serving_change s k (λ x. record x { ring = g x.ring }) hs (λ x e d. h k x e d) h

-- a queue that changes so is not one of them
not_changed : (k : ℕ) (f : HostQueue → HostQueue) (hs : List HostQueue) → ((x : HostQueue) → is_deleting (f x).state ≡ false) → (q : ℕ) (y : HostQueue) → slice_get (change k f hs) q ≡ Some y → is_deleting y.state ≡ true → (k == q) ≡ false
not_changed k f hs past q y e deleting = grind (arith, changed_at, ne_eqb)

-- after a reset there is none
reset_deletes_none : (s : State) (q : ℕ) (y : HostQueue) → host_queue (a.after_reset s) q ≡ Some y → is_deleting y.state ≡ false
reset_deletes_none s q y e = sym (ap (λ (o : Option HostQueue). option_map_or (λ x. is_deleting x.state) o false) e) ∙ reset_state is_deleting refl refl s.host.queues q

no_reset : (s : State) (e : Event) (reply : Reply) → Accepts s e reply → (q : ℕ) (y : HostQueue) → host_queue (a.after s e reply) q ≡ Some y → is_deleting y.state ≡ true → resets e ≡ false
no_reset s events.Reset events.Accepted ok q y e deleting = absurd (true≢false (sym deleting ∙ reset_deletes_none s q y e))
no_reset s events.Reset reply ok q y e deleting = absurd ok.1
no_reset s e reply ok q y ey deleting = refl

serves_deleting : (st : HostState) → is_deleting st ≡ true → in_service st ≡ true
serves_deleting st e = grind arith

serving_host : (s : State) (e : Event) (reply : Reply) → Accepts s e reply → IsController e ≡ false → HoldsPart (host_part s) → (q : ℕ) (y : HostQueue) → host_queue (a.after s e reply) q ≡ Some y → is_deleting y.state ≡ true
    → InService s q × (renews_by q e reply ≡ false)
serving_host s e reply ok c holds =
    let own : Serving s s.host.queues = λ q y e deleting. (y, e, serves_deleting y.state deleting) in
    let told : (q : ℕ) (e : ComEntry) → Serving s (a.heard q e s).host.queues =
    λ q e. serving_ring s q (knowing e.sqhd) (change q (λ x. record x { ring = next_head s.entries x.ring }) s.host.queues) (serving_ring s q (next_head s.entries) s.host.queues own) in
    let past : (q : ℕ) (e : ComEntry) (k : ℕ) (f : HostQueue → HostQueue) → ((x : HostQueue) → is_deleting (f x).state ≡ false) → Serving s (change k f (a.heard q e s).host.queues) =
    λ q e k f none. serving_change s k f (a.heard q e s).host.queues (λ x ex d. absurd (true≢false (sym d ∙ none x))) (told q e) in
    host_moves (λ (e : Event) (reply : Reply) (t : State). (q : ℕ) (y : HostQueue) → host_queue t q ≡ Some y → is_deleting y.state ≡ true → InService s q × (renews_by q e reply ≡ false)) s e reply ok c
    (record {
      reserves = λ q request d none is n y ey deleting. (own n y ey deleting, refl);
      submits = λ d entry r none built its live n y ey deleting. (serving_ring s d.q (next_tail s.entries) s.host.queues own n y ey deleting, refl);
      cancels = λ d r its n y ey deleting. (own n y ey deleting, refl);
      rings = λ q none n y ey deleting. (own n y ey deleting, refl);
      rests = λ q is n y ey deleting. (own n y ey deleting, refl);
      rejects = λ q why is n y ey deleting. (serving_ring s q (next_head s.entries) s.host.queues own n y ey deleting, refl);
      tells = λ q cid st what e r request t heard w n y ey deleting. (told q e n y ey deleting, refl);
      hears = λ q cid st what e r adm t heard w quiet unmade n y ey deleting. (told q e n y ey deleting, refl);
      notes = λ q cid st what e r k t heard w n y ey deleting. (
        serving_change s k (λ queue. record queue { state = if is_success st then Deleting true else Live }) (a.heard q e s).host.queues
            (λ x ex d. told q e k x ex (ap is_deleting (asked_as_heard s q cid st e r k holds heard w x ex))) (told q e) n y ey deleting,
        refl,
      );
      frees = λ q cid st what e r k queue t heard w at alone good n y ey deleting. (past q e k a.gone (λ x. refl) n y ey deleting, refl);
      makes_cq = λ q cid st what e r k size base vector t heard w good n y ey deleting. (past q e k a.half_made (λ x. refl) n y ey deleting, refl);
      unmakes_cq = λ q cid st what e r k size base vector queue t heard w at bad n y ey deleting. (past q e k a.gone (λ x. refl) n y ey deleting, refl);
      makes_sq = λ q cid st what e r k size base t heard w good n y ey deleting. (past q e k a.live (λ x. refl) n y ey deleting, refl);
      unmakes_sq = λ q cid st what e r k size base queue t heard w at bad n y ey deleting. (past q e k a.unmade_sq (λ x. refl) n y ey deleting, refl);
      collects = λ q cid r f at held is n y ey deleting. (own n y ey deleting, refl);
      releases = λ f r its n y ey deleting. (own n y ey deleting, refl);
      aborts = λ q cid id none new n y ey deleting. (serving_ring s 0 (next_tail s.entries) s.host.queues own n y ey deleting, refl);
      asks = λ q id queue none new live n y ey deleting. (
        serving_change s q a.deleting (change 0 (λ x. record x { ring = next_tail s.entries x.ring }) s.host.queues) (λ x ex d. (queue, live.there, ap in_service live.live)) (serving_ring s 0 (next_tail s.entries) s.host.queues own) n y ey deleting,
        refl,
      );
      drops = λ q id none new n y ey deleting. (serving_ring s 0 (next_tail s.entries) s.host.queues own n y ey deleting, refl);
      creates_cqs = λ q vector id first queue none new granted n y ey deleting.
          let with_half = a.making_cq (half_from Completion first s) in (
            serving_ring s 0 (next_tail s.entries) (change q with_half s.host.queues) (serving_change s q with_half s.host.queues (λ x ex d. absurd (true≢false (sym d))) own) n y ey deleting,
            refl,
          );
      creates_sqs = λ q id first queue none new granted n y ey deleting.
          let with_half = a.making_sq (half_from Submission first s) in
          let before = ring_at 0 n (next_tail s.entries) (change q with_half s.host.queues) y ey in (
            serving_ring s 0 (next_tail s.entries) (change q with_half s.host.queues) (serving_change s q with_half s.host.queues (λ x ex d. absurd (true≢false (sym d))) own) n y ey deleting,
            not_changed q with_half s.host.queues (λ x. refl) n before.0 before.1 (ap is_deleting (sym before.2) ∙ deleting),
          );
      retires = λ q queue none at deleted n y ey deleting. (
        serving_change s q a.retired s.host.queues (λ x ex d. absurd (true≢false (sym d))) own n y ey deleting,
        not_changed q a.retired s.host.queues (λ x. refl) n y ey deleting,
      );
      forges = λ q slot bytes queue none at n y ey deleting. (own n y ey deleting, refl);
      resets = λ n y ey deleting. absurd (true≢false (sym deleting ∙ reset_deletes_none s n y ey));
    })

serving_event : (s : State) (e : Event) (reply : Reply) → Accepts s e reply → HoldsPart (host_part s) → (q : ℕ) (y : HostQueue) → host_queue (a.after s e reply) q ≡ Some y → is_deleting y.state ≡ true → InService s q × (renews_by q e reply ≡ false)
serving_event s e reply ok holds q y ey deleting = elim (cases_Bool (IsController e)) [
  | inl c ↦ ((y, sym (ap (λ (part : HostPart). slice_get part.host.queues q) (part_controller s e reply c)) ∙ ey, serves_deleting y.state deleting), (grind arith))
  | inr c ↦ serving_host s e reply ok c holds q y ey deleting
]

-- The invariant

abbrev pub GoneTold : List Made → List HostQueue → List ServedQueue → Type 0
GoneTold done hs qs = (q : ℕ) (x : HostQueue) (at : ServedQueue) → slice_get hs q ≡ Some x → in_service x.state ≡ true → slice_get qs q ≡ Some at → is_absent at.state ≡ true → DeletedSince q done

-- with the step itself made: a queue that is live is there, so the host asked for the deletion of an absent one that is in service
pub gone_on : (done : List Made) (s : State) (e : Event) (reply : Reply) → Accepts s e reply → Stood s → Stood (a.after s e reply) → AllByRecursion (DeletionFetched done) s.controller.jobs → GoneTold done s.host.queues s.controller.queues
    → GoneTold (done ++ made_of s e reply ∷ []) (a.after s e reply).host.queues (a.after s e reply).controller.queues
gone_on done s e reply ok stood stood' jobs h q y at ey serves eat absent =
    let left = deleting (is_live y.state) refl in
    let before = serving_event s e reply ok stood.grounds.stands.0 q y ey left in
    let so = absent_event (λ k. (x : HostQueue) → host_queue s k ≡ Some x → in_service x.state ≡ true → DeletedSince k done) s e reply ok (no_reset s e reply ok q y ey left)
    (λ k cid j found c x ex serves. (grind (arith, all-found, is_job, eqb-true, found, c))) (λ k at' e' absent' x ex serves'. h k x at' ex serves' e' absent') q at eat absent in
    deleted_longer q done (made_of s e reply) before.1 (so before.0.0 before.0.1 before.0.2)
  where
    deleting : (b : Bool) → is_live y.state ≡ b → is_deleting y.state ≡ true
    deleting true live =
        let gone : gone_at (a.after s e reply).controller.queues q ≡ true = ap (λ (o : Option ServedQueue). option_map_or (λ d. is_absent d.state) o true) eat ∙ absent in
        absurd (true≢false (sym gone ∙ live_is_there (a.after s e reply) stood'.grounds.fit q y ey live))
    deleting false far = (grind (arith, serves, far))

-- Where statuses come from: those of completions and of held commands, along a run.

-- a command's completion with a status, its cause left aside
pub record CompletedIn (earlier : List Made) (q cid : ℕ) (st : Status) : Type 0 where
  pub before : List Made
  pub completion : Made
  pub between : List Made
  pub parts : earlier ≡ before ++ completion ∷ between
  pub given : status_given completion q cid ≡ Some st
  pub since : list_any (submits q cid) between ≡ false

abbrev pub EndedIn : List Made → ℕ → ℕ → Status → Type 0
EndedIn earlier q cid st = CompletedIn earlier q cid st ⊎ WasLost earlier q cid st ⊎ WasLostByReset earlier q cid st

none_more : (f : Made → Bool) (xs : List Made) (m : Made) → list_any f xs ≡ false → f m ≡ false → list_any f (xs ++ m ∷ []) ≡ false
none_more f [] m none last = rw last refl
none_more f (x ∷ xs) m none last = grind (arith, none_more f xs m)

completed_on : (earlier : List Made) (m : Made) (q cid : ℕ) (st : Status) → submits q cid m ≡ false → CompletedIn earlier q cid st → CompletedIn (earlier ++ m ∷ []) q cid st
completed_on earlier m q cid st far c = record {
  before = c.before;
  completion = c.completion;
  between = c.between ++ m ∷ [];
  parts = ap (λ (xs : List Made). xs ++ m ∷ []) c.parts ∙ append_assoc c.before (c.completion ∷ c.between) (m ∷ []);
  given = c.given;
  since = none_more (submits q cid) c.between m c.since far;
}

lost_on : (earlier : List Made) (m : Made) (q cid : ℕ) (st : Status) → submits q cid m ≡ false → WasLost earlier q cid st → WasLost (earlier ++ m ∷ []) q cid st
lost_on earlier m q cid st far c = record {
  before = c.before;
  retirement = c.retirement;
  between = c.between ++ m ∷ [];
  parts = ap (λ (xs : List Made). xs ++ m ∷ []) c.parts ∙ append_assoc c.before (c.retirement ∷ c.between) (m ∷ []);
  status = c.status;
  retired = c.retired;
  submitted = c.submitted;
  since = ap not (none_more (submits q cid) c.between m (not-true (list_any (submits q cid) c.between) c.since) far);
  deleted = c.deleted;
}

reset_on : (earlier : List Made) (m : Made) (q cid : ℕ) (st : Status) → submits q cid m ≡ false → WasLostByReset earlier q cid st → WasLostByReset (earlier ++ m ∷ []) q cid st
reset_on earlier m q cid st far c = record {
  before = c.before;
  reset = c.reset;
  between = c.between ++ m ∷ [];
  parts = ap (λ (xs : List Made). xs ++ m ∷ []) c.parts ∙ append_assoc c.before (c.reset ∷ c.between) (m ∷ []);
  status = c.status;
  resets = c.resets;
  submitted = c.submitted;
  since = ap not (none_more (submits q cid) c.between m (not-true (list_any (submits q cid) c.between) c.since) far);
}

ended_on : (earlier : List Made) (m : Made) (q cid : ℕ) (st : Status) → submits q cid m ≡ false → EndedIn earlier q cid st → EndedIn (earlier ++ m ∷ []) q cid st
ended_on earlier m q cid st far (inl c) = inl (completed_on earlier m q cid st far c)
ended_on earlier m q cid st far (inr (inl c)) = inr (inl (lost_on earlier m q cid st far c))
ended_on earlier m q cid st far (inr (inr c)) = inr (inr (reset_on earlier m q cid st far c))

-- Which commands a submit can't be of

refused_no_submit : (e : Event) (why : Refusal) (touched : List ℕ) (q cid : ℕ) → submits_by q cid e (events.Refused why touched) ≡ false
refused_no_submit e why touched q cid = grind arith

refused_no_renewal : (e : Event) (why : Refusal) (touched : List ℕ) (q : ℕ) → renews_by q e (events.Refused why touched) ≡ false
refused_no_renewal e why touched q = grind arith

-- an accepted submit is of a drafted command
not_submitted : (s : State) (e : Event) (reply : Reply) → Accepts s e reply → (q cid : ℕ) → ((r : Record) → record_at s.host q cid ≡ Some r → is_drafted r.phase ≡ false) → submits_by q cid e reply ≡ false
not_submitted s e reply ok q cid others = grind arith

-- Answers

-- a completion is that of a submitted command
completion_sent : (s : State) → Stood s → (q : ℕ) (an : PostedCompletion) → In an (list_at (λ at. at.completions) s.controller.queues q) → (r : Record) × (record_at s.host q an.cid ≡ Some r) × (is_submitted r.phase ≡ true)
completion_sent s stood q an within = grind (arith, total, completions_at, eq-eqb, sent_found)

sent_not_drafted : (ph : Phase) → is_submitted ph ≡ true → is_drafted ph ≡ false
sent_not_drafted ph e = grind arith

held_not_drafted : (ph : Phase) → is_held ph ≡ true → is_drafted ph ≡ false
held_not_drafted ph e = grind arith

abbrev pub CompletionTold : List Made → ℕ → PostedCompletion → Type 0
CompletionTold done q an = CompletedIn done q an.cid an.status

abbrev pub CompletionsTold : List Made → ℕ → List ServedQueue → Type 0
CompletionsTold done q qs = AllByRecursion (CompletionTold done q) (list_at (λ at. at.completions) qs q)

-- where a step submits none of their commands
completions_longer : (done : List Made) (s : State) (m : Made) (q : ℕ) → ((an : PostedCompletion) → In an (list_at (λ at. at.completions) s.controller.queues q) → submits q an.cid m ≡ false) → CompletionsTold done q s.controller.queues → CompletionsTold (done ++ m ∷ []) q s.controller.queues
completions_longer done s m q far h =
    all_in (CompletionTold done q) (CompletionTold (done ++ m ∷ []) q) (list_at (λ at. at.completions) s.controller.queues q) (λ an within c. completed_on done m q an.cid an.status (far an within) c) h

completion_not_submitted : (s : State) (e : Event) (reply : Reply) → Accepts s e reply → Stood s → (q : ℕ) (an : PostedCompletion) → In an (list_at (λ at. at.completions) s.controller.queues q) → submits_by q an.cid e reply ≡ false
completion_not_submitted s e reply ok stood q an within =
    let r = completion_sent s stood q an within in
    not_submitted s e reply ok q an.cid (λ r0 at. sent_not_drafted r0.phase (subst (λ (x : Record). is_submitted x.phase ≡ true) (some_is (sym r.1 ∙ at)) r.2))

completes_by : (s : State) (reply : Reply) (q cid : ℕ) (j : Job) → Accepts s (events.Complete q cid) reply → job_at s q cid ≡ Some j → status_by s (events.Complete q cid) reply q cid ≡ Some (a.final_status s j)
completes_by s reply q cid j ok at = grind arith

completes_at : (s : State) (e : Event) (reply : Reply) (q cid : ℕ) (j : Job) → Accepts s e reply → e ≡ events.Complete q cid → job_at s q cid ≡ Some j → status_by s e reply q cid ≡ Some (a.final_status s j)
completes_at s e reply q cid j ok is at =
    subst (λ (x : Event). status_by s x reply q cid ≡ Some (a.final_status s j)) (sym is) (completes_by s reply q cid j (subst (λ (x : Event). Accepts s x reply) is ok) at)

completions_turn : (done : List Made) (s : State) (e : Event) (reply : Reply) → Accepts s e reply → (q : ℕ) → QueueMove (λ at. at.completions) (CompletionTold (done ++ made_of s e reply ∷ []) q) q s e
completions_turn done s e reply ok q = record {
  posts = λ d entry at e' built here h. h;
  sends = λ entry at z h. h;
  rings = λ rung at h. h;
  reaps = λ at h. all_drop_one (CompletionTold (done ++ made_of s e reply ∷ []) q) at.completions h;
  fetches = λ rung at h. h;
  stops = λ at h. h;
  drops = λ at h. tt;
  makes_completion = λ at h. tt;
  makes_submission = λ at h. tt;
  clears = λ at h. h;
  empties = (tt, tt);
  completes = λ cid j head at e' job h.
      all_append (CompletionTold (done ++ made_of s e reply ∷ []) q) at.completions (record { cid = cid; status = a.final_status s j; dw0 = j.dw0; sq_head = head } ∷ []) h
      (record { before = done; completion = made_of s e reply; between = []; parts = refl; given = completes_at s e reply q cid j ok e' job; since = refl }, tt);
}

completions_on : (done : List Made) (s : State) (e : Event) (reply : Reply) → Accepts s e reply → Stood s → (q : ℕ) → CompletionsTold done q s.controller.queues → CompletionsTold (done ++ made_of s e reply ∷ []) q (a.after s e reply).controller.queues
completions_on done s e reply ok stood q h =
    queues_event (λ at. at.completions) (CompletionTold (done ++ made_of s e reply ∷ []) q) q s e reply (completions_turn done s e reply ok q) ok stood
    (completions_longer done s (made_of s e reply) q (λ an within. completion_not_submitted s e reply ok stood q an within) h)

-- the oldest is among them
pub first_told : (Q : PostedCompletion → Type 0) (qs : List ServedQueue) (q : ℕ) (an : PostedCompletion) → option_and_then (λ (queue : ServedQueue). front_completion queue.completions) (slice_get qs q) ≡ Some an → AllByRecursion Q (list_at (λ at. at.completions) qs q) → Q an
first_told Q qs q an first h = grind (arith, some_is)

-- Held commands

abbrev pub HeldTold : List Made → Record → Type 0
HeldTold done r = is_held r.phase ≡ true → (st : Status) → r.status ≡ Some st → EndedIn done r.q r.cid st

abbrev Known : State → List Made → Record → Type 0
Known s done r = Member s r × HeldTold done r

is_itself : (r : Record) → is_at r.q r.cid r ≡ true
is_itself r = rw (eq-eqb r.q r.q refl, eq-eqb r.cid r.cid refl) refl

-- a queue that is retired was deleted
pub deleted_before : (done : List Made) (s : State) (q : ℕ) → Stood s → GoneTold done s.host.queues s.controller.queues → refusal_of s (events.Retire q) ≡ None → DeletedSince q done
deleted_before done s q stood gone none = grind (arith, queue_found, unrefused, pair_at, deleted_is_gone, is_over, deleted_is, deleted_serves)

-- a record of the machine, submitted
sent_there : (s : State) → Stood s → (r : Record) → In r s.host.records → is_submitted r.phase ≡ true → record_is (λ r. is_submitted r.phase) s r.q r.cid ≡ true
sent_there s stood r within sub =
    let w : ℕ → ℕ = λ c. one (c == r.cid) in
    let mine : sent r.q w r ≡ 1 = rw (eq-eqb r.q r.q refl, sub) (ap one (eq-eqb r.cid r.cid refl)) in
    let f = sent_found r.q r.cid s.host.records (omega (arith, mine, within (sent r.q w))) (stood.grounds.stands.0.once r.q r.cid) in
    ap (λ (o : Option Record). option_map_or (λ r. is_submitted r.phase) o false) f.1 ∙ f.2

-- what a step makes of the held commands that it leaves
held_stays : (done : List Made) (s : State) (e : Event) (reply : Reply) → Accepts s e reply → (r : Record) → Known s done r → HeldTold (done ++ made_of s e reply ∷ []) r
held_stays done s e reply ok r k held st is =
    ended_on done (made_of s e reply) r.q r.cid st
    (not_submitted s e reply ok r.q r.cid (λ r0 at. subst (λ (x : Record). is_drafted x.phase ≡ false) (k.0.only r.q r.cid r0 at (is_itself r)) (held_not_drafted r.phase held))) (k.1 held st is)

-- a reap holds one with the status that its completion gave
reaped_told : (done : List Made) (s : State) (e : Event) (reply : Reply) → Accepts s e reply → s.trusted ≡ true → Stood s → ((q : ℕ) → (q == 0) ≡ false → CompletionsTold done q s.controller.queues)
    → (q cid : ℕ) (st : Status) (request : Request) (r : Record) → named (reaped s q) ≡ Some cid → status_in (reaped s q) ≡ Some st → record_at s.host q cid ≡ Some r → r.work ≡ Io request → Known s done r
    → CompletedIn (done ++ made_of s e reply ∷ []) r.q r.cid st
reaped_told done s e reply ok t stood answers q cid st request r n is at w k =
    let an = reaped_completion s q cid t n in
    let ids = ids_of s q cid r at in
    let other : (q == 0) ≡ false = ap (λ (x : ℕ). x == 0) (sym ids.0) ∙ subst (λ (x : Work). OwnsFit Modelled r.q x (pages_of r)) w k.0.fits in
    let told = first_told (CompletionTold (done ++ made_of s e reply ∷ []) q) s.controller.queues q an.0 an.1
    (completions_longer done s (made_of s e reply) q (λ x within. completion_not_submitted s e reply ok stood q x within) (answers q other)) in
    let status : an.0.status ≡ st = told_entry s q (entry_of q an.0) st (sym (ap (λ (o : Option ComEntry). status_in (option_map_or (reaped_entry s q) o Empty)) an.3) ∙ is) in
    subst (λ (x : ℕ). CompletedIn (done ++ made_of s e reply ∷ []) x r.cid st) (sym ids.0)
    (subst (λ (x : ℕ). CompletedIn (done ++ made_of s e reply ∷ []) q x st) (an.2 ∙ sym ids.1)
    (subst (CompletedIn (done ++ made_of s e reply ∷ []) q an.0.cid) status told))

-- a retirement loses those of its queue, and a reset all of them
lost_told : (done : List Made) (s : State) → Stood s → GoneTold done s.host.queues s.controller.queues → (q : ℕ) (r : Record) → refusal_of s (events.Retire q) ≡ None → In r s.host.records → r.q ≡ q → is_submitted r.phase ≡ true
    → WasLost (done ++ made_of s (events.Retire q) events.Accepted ∷ []) r.q r.cid ABORTED_SQ_DELETION
lost_told done s stood gone q r none within rq sub = record {
  before = done;
  retirement = made_of s (events.Retire q) events.Accepted;
  between = [];
  parts = refl;
  status = refl;
  retired = eq-eqb q r.q (sym rq);
  submitted = sent_there s stood r within sub;
  since = refl;
  deleted = subst (λ (n : ℕ). DeletedSince n done) (sym rq) (deleted_before done s q stood gone none);
}

reset_told : (done : List Made) (s : State) → Stood s → (r : Record) → In r s.host.records → is_submitted r.phase ≡ true → WasLostByReset (done ++ made_of s events.Reset events.Accepted ∷ []) r.q r.cid ABORTED_SQ_DELETION
reset_told done s stood r within sub = record { before = done; reset = made_of s events.Reset events.Accepted; between = []; parts = refl; status = refl; resets = refl; submitted = sent_there s stood r within sub; since = refl }

abbrev KnownIn : State → List Made → Record → Type 0
KnownIn s done r = In r s.host.records × Known s done r

held_host : (done : List Made) (s : State) (e : Event) (reply : Reply) → Accepts s e reply → IsController e ≡ false → s.trusted ≡ true → Stood s → ((q : ℕ) → (q == 0) ≡ false → CompletionsTold done q s.controller.queues)
    → GoneTold done s.host.queues s.controller.queues → AllByRecursion (KnownIn s done) s.host.records → AllByRecursion (HeldTold (done ++ made_of s e reply ∷ [])) (a.after s e reply).host.records
held_host done s e reply ok c trusted stood answers gone h =
    let less : (e : Event) (reply : Reply) → Accepts s e reply → (q cid : ℕ) → AllByRecursion (HeldTold (done ++ made_of s e reply ∷ [])) (without_record q cid s.host.records) =
    λ e reply ok q cid. all-filter (HeldTold (done ++ made_of s e reply ∷ [])) (λ r. not (is_at q cid r)) s.host.records (still e reply ok) in
    let began : (e : Event) (reply : Reply) → Accepts s e reply → (new : Record) → HeldTold (done ++ made_of s e reply ∷ []) new → AllByRecursion (HeldTold (done ++ made_of s e reply ∷ [])) (s.host.records ++ new ∷ []) =
    λ e reply ok new own. all_append (HeldTold (done ++ made_of s e reply ∷ [])) s.host.records (new ∷ []) (still e reply ok) (own, tt) in
    let sends : (e : Event) (id : ℕ) → Accepts s e (events.Sent id) → (adm : AdminKind) → AllByRecursion (HeldTold (done ++ made_of s e (events.Sent id) ∷ [])) (s.host.records ++ sent_record adm id ∷ []) =
    λ e id ok adm. began e (events.Sent id) ok (sent_record adm id) (λ held. absurd (true≢false (sym held))) in
    host_moves (λ (e : Event) (reply : Reply) (t : State). Accepts s e reply → AllByRecursion (HeldTold (done ++ made_of s e reply ∷ [])) t.host.records) s e reply ok c
    (record {
      reserves = λ q request d none is ok. began (events.Reserve q request) (events.Reserved d) ok (drafted_record d) (λ held. absurd (true≢false (sym held)));
      submits = λ d entry r none built its live ok. moved (events.Submit d) events.Accepted ok d.q d.cid a.submitted (λ r'. refl);
      cancels = λ d r its ok. less (events.Cancel d) events.Accepted ok d.q d.cid;
      rings = λ q none ok. still (events.Ring q) events.Accepted ok;
      rests = λ q is ok. still (events.Reap q) (events.Reaps Empty) ok;
      rejects = λ q why is ok. still (events.Reap q) (events.Reaps (Rejected why)) ok;
      tells = λ q cid st what e r request t heard w ok.
          all_with (KnownIn s done) (HeldTold (done ++ made_of s (events.Reap q) (events.Reaps what) ∷ [])) q cid (a.held st e.hints) s.host.records r heard.found (stood.grounds.stands.0.once q cid)
          (λ x far k. held_stays done s (events.Reap q) (events.Reaps what) ok x k.1)
          (λ k held st' same. inl (subst (CompletedIn (done ++ made_of s (events.Reap q) (events.Reaps what) ∷ []) r.q r.cid) (some_is same)
          (reaped_told done s (events.Reap q) (events.Reaps what) ok trusted stood answers q cid st request r (ap named (sym t.is) ∙ t.names) (ap status_in (sym t.is) ∙ t.status) heard.found w k.1))) h;
      hears = λ q cid st what e r adm t heard w quiet unmade ok. less (events.Reap q) (events.Reaps what) ok q cid;
      notes = λ q cid st what e r k t heard w ok. less (events.Reap q) (events.Reaps what) ok q cid;
      frees = λ q cid st what e r k queue t heard w at alone good ok. less (events.Reap q) (events.Reaps what) ok q cid;
      makes_cq = λ q cid st what e r k n base vector t heard w good ok. less (events.Reap q) (events.Reaps what) ok q cid;
      unmakes_cq = λ q cid st what e r k n base vector queue t heard w at bad ok. less (events.Reap q) (events.Reaps what) ok q cid;
      makes_sq = λ q cid st what e r k n base t heard w good ok. less (events.Reap q) (events.Reaps what) ok q cid;
      unmakes_sq = λ q cid st what e r k n base queue t heard w at bad ok. less (events.Reap q) (events.Reaps what) ok q cid;
      collects = λ q cid r f at held is ok. moved (events.Collect q cid) (events.Collects f) ok q cid a.collected (λ r'. refl);
      releases = λ f r its ok. less (events.Release f) events.Accepted ok f.q f.cid;
      aborts = λ q cid id none new ok. sends (events.Abort q cid) id ok (Abort q cid);
      asks = λ q id queue none new live ok. sends (events.DeleteSq q) id ok (DeleteSq q);
      drops = λ q id none new ok. sends (events.DeleteCq q) id ok (DeleteCq q);
      creates_cqs = λ q vector id first queue none new granted ok. sends (events.CreateCq q vector) id ok (creates_cq q vector first s);
      creates_sqs = λ q id first queue none new granted ok. sends (events.CreateSq q) id ok (creates_sq q first s);
      retires = λ q queue none at deleted ok. all_map (KnownIn s done) (HeldTold (done ++ made_of s (events.Retire q) events.Accepted ∷ [])) (a.lost q) s.host.records (λ r k. retired q r none ok k ((r.q == q) && is_submitted r.phase) refl) h;
      forges = λ q slot bytes queue none at ok. still (events.Forge q slot bytes) events.Accepted ok;
      resets = λ ok. all_reset (KnownIn s done) (HeldTold (done ++ made_of s events.Reset events.Accepted ∷ [])) (λ r io k. reset r ok k) s.host.records h;
    }) ok
  where
    still : (e : Event) (reply : Reply) → Accepts s e reply → AllByRecursion (HeldTold (done ++ made_of s e reply ∷ [])) s.host.records
    still e reply ok = all_in (KnownIn s done) (HeldTold (done ++ made_of s e reply ∷ [])) s.host.records (λ r within k. held_stays done s e reply ok r k.1) h

    -- a command that is no longer held
    moved : (e : Event) (reply : Reply) → Accepts s e reply → (q cid : ℕ) (f : Record → Record) → ((r : Record) → is_held (f r).phase ≡ false) → AllByRecursion (HeldTold (done ++ made_of s e reply ∷ [])) (with_record q cid f s.host.records)
    moved e reply ok q cid f free =
        all_map (HeldTold (done ++ made_of s e reply ∷ [])) (HeldTold (done ++ made_of s e reply ∷ [])) (λ r. if is_at q cid r then f r else r) s.host.records (λ r k. each r (is_at q cid r) k) (still e reply ok)
      where
        each : (r : Record) (b : Bool) → HeldTold (done ++ made_of s e reply ∷ []) r → HeldTold (done ++ made_of s e reply ∷ []) (if b then f r else r)
        each r true k = λ held. absurd (true≢false (sym held ∙ free r))
        each r false k = k

    retired : (q : ℕ) (r : Record) → refusal_of s (events.Retire q) ≡ None → Accepts s (events.Retire q) events.Accepted → KnownIn s done r → (b : Bool) → ((r.q == q) && is_submitted r.phase) ≡ b
        → HeldTold (done ++ made_of s (events.Retire q) events.Accepted ∷ []) (if b then a.aborted r else r)
    retired q r none ok k true is = λ held st same.
        let parts = and_parts (r.q == q) (is_submitted r.phase) is in
        inr (inl (subst (WasLost (done ++ made_of s (events.Retire q) events.Accepted ∷ []) r.q r.cid) (some_is same) (lost_told done s stood gone q r none k.0 (eqb-true r.q q parts.0) parts.1)))
    retired q r none ok k false is = held_stays done s (events.Retire q) events.Accepted ok r k.1

    reset : (r : Record) → Accepts s events.Reset events.Accepted → KnownIn s done r → HeldTold (done ++ made_of s events.Reset events.Accepted ∷ []) (a.lost_anywhere r)
    reset r ok k =
        lost_by (HeldTold (done ++ made_of s events.Reset events.Accepted ∷ [])) r (λ quiet. held_stays done s events.Reset events.Accepted ok r k.1)
        (λ sub held st same. inr (inr (subst (WasLostByReset (done ++ made_of s events.Reset events.Accepted ∷ []) r.q r.cid) (some_is same) (reset_told done s stood r k.0 sub))))

held_event : (done : List Made) (s : State) (e : Event) (reply : Reply) → Accepts s e reply → s.trusted ≡ true → Stood s → ((q : ℕ) → (q == 0) ≡ false → CompletionsTold done q s.controller.queues)
    → GoneTold done s.host.queues s.controller.queues → AllByRecursion (KnownIn s done) s.host.records → AllByRecursion (HeldTold (done ++ made_of s e reply ∷ [])) (a.after s e reply).host.records
held_event done s e reply ok trusted stood answers gone h = by_side (IsController e) refl
  where
    by_side : (b : Bool) → IsController e ≡ b → AllByRecursion (HeldTold (done ++ made_of s e reply ∷ [])) (a.after s e reply).host.records
    by_side true c = subst (λ (part : HostPart). AllByRecursion (HeldTold (done ++ made_of s e reply ∷ [])) part.host.records) (sym (part_controller s e reply c))
        (all_in (KnownIn s done) (HeldTold (done ++ made_of s e reply ∷ [])) s.host.records (λ r within k. held_stays done s e reply ok r k.1) h)
    by_side false c = held_host done s e reply ok c trusted stood answers gone h

-- All of it

pub record Told (done : List Made) (s : State) : Type 0 where
  pub stood : Stood s
  pub completions : (q : ℕ) → (q == 0) ≡ false → CompletionsTold done q s.controller.queues
  pub held : AllByRecursion (HeldTold done) s.host.records
  pub deletions : AllByRecursion (DeletionFetched done) s.controller.jobs
  pub gone : GoneTold done s.host.queues s.controller.queues

told_on : (done : List Made) (s : State) (e : Event) (reply : Reply) → IsProper e → Accepts s e reply → s.trusted ≡ true → Told done s → Told (done ++ made_of s e reply ∷ []) (a.after s e reply)
told_on done s e reply proper ok t h = record {
  stood = stood_on s e reply proper ok t h.stood;
  completions = λ q other. completions_on done s e reply ok h.stood q (h.completions q other);
  held = held_event done s e reply ok t h.stood h.completions h.gone (all_in_both (HeldTold done) (Member s) (KnownIn s done) s.host.records (λ r within m k. (within, (m, k))) (members s h.stood) h.held);
  deletions = deletions_on done s e reply ok h.stood h.deletions;
  gone = gone_on done s e reply ok h.stood (stood_on s e reply proper ok t h.stood) h.deletions h.gone;
}

told_refused : (done : List Made) (s : State) (e : Event) (why : Refusal) (touched : List ℕ) → Told done s → Told (done ++ made_of s e (events.Refused why touched) ∷ []) s
told_refused done s e why touched h = record {
  stood = h.stood;
  completions = λ q other. completions_longer done s (made_of s e (events.Refused why touched)) q (λ an within. refused_no_submit e why touched q an.cid) (h.completions q other);
  held = all_in (HeldTold done) (HeldTold (done ++ made_of s e (events.Refused why touched) ∷ [])) s.host.records
      (λ r within k held st is. ended_on done (made_of s e (events.Refused why touched)) r.q r.cid st (refused_no_submit e why touched r.q r.cid) (k held st is)) h.held;
  deletions = all_in (DeletionFetched done) (DeletionFetched (done ++ made_of s e (events.Refused why touched) ∷ [])) s.controller.jobs
      (λ j within k z is0. deleted_longer (named_queue j.entry) done (made_of s e (events.Refused why touched)) (refused_no_renewal e why touched (named_queue j.entry)) (k z is0)) h.deletions;
  gone = λ q x at ex serves e' absent. deleted_longer q done (made_of s e (events.Refused why touched)) (refused_no_renewal e why touched q) (h.gone q x at ex serves e' absent);
}

pub told_carried : Carried Told
told_carried = record { refused = told_refused; taken = told_on }

nothing_completed : (k q : ℕ) → list_at (λ at. at.completions) (replicate k opened) q ≡ []
nothing_completed (suc k) (suc q) = nothing_completed k q
nothing_completed k q = refl

pub told_at_opening : (pages queues n s : ℕ) (image : List ℕ) → Opens pages queues n s → Told [] (opening pages queues n s image)
told_at_opening pages queues n s image opens = record {
  stood = stood_at_opening pages queues n s image opens;
  completions = λ q other. subst (AllByRecursion (CompletionTold [] q)) (sym (nothing_completed (queues + 1) q)) tt;
  held = tt;
  deletions = tt;
  gone = λ q x at ex serves e absent. absurd (true≢false (sym absent ∙ ap (λ (x : ServedQueue). is_absent x.state) (opened_lists (queues + 1) q at e)));
}
