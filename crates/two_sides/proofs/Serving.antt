-- Queues that are served.
use Rattle.machine_model.specs.declared.words.HostState.TheVariants as states
use Rattle.machine_model.specs.After as a
use Rattle.machine_model.specs.Events as events
use Rattle.std.proofs.Common.{◌≡◌, ℕ, zero, suc, ◌-◌, ◌==◌, ◌||◌, Bool, true, false, Option, Some, None, List, [], ◌∷◌, ◌++◌, drop, slice_get, refl, ap, sym, ◌∙◌, subst, inl, inr, arith, ◌+◌, ◌<◌, ◌&&◌, eqb-true, ◌%◌, not, length, MatchBool}
use Rattle.std.{proofs.lemmas.Bool.{true≢false, eqb-false, not-false, or_parts}, specs.{List.{list_any, AllByRecursion}, Option.option_map_or}}
use Rattle.machine_model.proofs.{Counting.{one, total}, Kept.asked_as_heard, Moves.{creates_cq, creates_sq, half_from, host_moves}}
use Rattle.machine_model.proofs.{Owned.{awaited_at, at_other, HoldsPart, holds_from_sound, reset_state}, Steps.{absent_state, managed_by, Accepts, unrefused}}
use Rattle.machine_model.{proofs.TokensKept.controller_same, specs.After.{change, after}}
use Rattle.machine_model.specs.{Agreeing.{SidesAgree, QueuesFit, EntryKnown, deletes_sq, is_absent_at, is_kind}, Events.{Event, Reply}}
use Rattle.machine_model.specs.Refusals.{in_service, is_deleting, is_live, next_rung, has_cq, is_changing, refusal_of}
use Rattle.machine_model.specs.{State.{State, HostQueue, ServedQueue, Record, Job}, Step.{IsController, host_part, Step}, declared.words.HostState.HostState}
use Rattle.entry_codec.specs.declared.{admin_opcode.TheConstants.DELETE_IO_CQ, completion.ComEntry.ComEntry, status.Status.Status, submission.SubEntry.SubEntry}
use Rattle.two_sides.proofs.{Agreed.{agreed_there, step_keeps_agreement}, Along.trusted_step_by}
use Rattle.two_sides.proofs.ControllerMoves.{cleared, posted_completion, posts_completion, complete_by, fetch_by, finished, walk_by}
use Rattle.two_sides.proofs.{Standing.{waiting, waiting_same, waiting_other, far_suc as ne_zero, taken_entry, io_other}, Tokens.{awaited_below, small}}
use Rattle.two_sides.specs.{Deletions.{AreBefore, CompletionsServe, asks_cq_deletion, asks_sq_deletion}, Sides.Sides, Stepping.LeavesPages, Ties.IsWorld}
use Rattle.queue_pair.specs.Rings.{HostRing, next_head, next_tail, knowing}
use Rattle.admin_commands.specs.{Entries.{named_queue, admin_entry}, Verdicts.is_absent, declared.AdminKind.AdminKind}
use Rattle.admin_commands.specs.declared.{AdminKind.TheVariants.{Abort, DeleteSq, DeleteCq}, SqState.TheVariants.Stopping}
use Rattle.page_memory.{proofs.Bytes.told, specs.{Memory.Memory, Pages.{Pages, byte_at}, declared.page.Half.TheVariants.{Submission, Completion}}}
use Rattle.slot_table.proofs.Rows.{option_is}

-- Queues that are deleted and keep their completion queues: what a change of one queue, or of the entries of queue 0, leaves of that.

-- whether the controller has a completion queue of a number, or no queue of it at all
abbrev pub keeps_at : List ServedQueue → ℕ → Bool
keeps_at ds q = option_map_or (λ d. d.cq_there) (slice_get ds q) true

-- of each queue that is being deleted, over a list of entries of queue 0
pub record Serve (hs : List HostQueue) (ds : List ServedQueue) (un : List SubEntry) : Type 0 where
  pub keeps : (q : ℕ) → awaited_at is_deleting hs q ≡ true → keeps_at ds q ≡ true
  pub order : (q : ℕ) → awaited_at is_deleting hs q ≡ true → AreBefore (asks_cq_deletion q) (asks_sq_deletion q) un

abbrev pub ServeS : State → Type 0
ServeS s = Serve s.host.queues s.controller.queues (waiting s.controller.queues)

-- As the public statement says it

found_awaited : (test : HostState → Bool) (hs : List HostQueue) (q : ℕ) → awaited_at test hs q ≡ true → (h : HostQueue) × (slice_get hs q ≡ Some h) × (test h.state ≡ true)
found_awaited test hs q w = elim (option_is (slice_get hs q)) [ inl e ↦ let w = rw e at w in absurd (true≢false (sym w)) | inr (h, e) ↦ let w = rw e at w in (h, e, w) ]

awaited_found : (test : HostState → Bool) (hs : List HostQueue) (q : ℕ) (h : HostQueue) → slice_get hs q ≡ Some h → test h.state ≡ true → awaited_at test hs q ≡ true
awaited_found test hs q h e is = ap (λ (o : Option HostQueue). option_map_or (λ h. test h.state) o false) e ∙ is

pub serve_of : (s : State) → CompletionsServe s → ServeS s
serve_of s serve = record {
  keeps = λ q w. let (h, at, deleting) = found_awaited is_deleting s.host.queues q w in by (slice_get s.controller.queues q) (λ d f. serve.serves q h d at f (grind arith)) refl;
  order = λ q w. let (h, at, deleting) = found_awaited is_deleting s.host.queues q w in serve.order q h at deleting;
}
  where
    by : {o : Option ServedQueue} (p : Option ServedQueue) → ((d : ServedQueue) → o ≡ Some d → d.cq_there ≡ true) → o ≡ p → option_map_or (λ d. d.cq_there) p true ≡ true
    by f has e = grind arith

-- the machine's part of a queue fits the host's
fits_at : (n q : ℕ) (hs : List HostQueue) (ds : List ServedQueue) (h : HostQueue) (d : ServedQueue) → QueuesFit n hs ds → slice_get hs q ≡ Some h → slice_get ds q ≡ Some d → is_absent d.state ≡ false → d.cq_there ≡ true
fits_at n q [] ds h d fits e f there = absurd cc
fits_at n q (x ∷ hs) [] h d fits e f there = absurd fits
fits_at n zero (x ∷ hs) (y ∷ ds) h d fits e f there =
    let controller : y ≡ d = cc in
    subst (λ (z : ServedQueue). z.cq_there ≡ true) controller (fits.0.half (subst (λ (z : ServedQueue). is_absent z.state ≡ false) (sym controller) there))
fits_at n (suc q) (x ∷ hs) (y ∷ ds) h d fits e f there = fits_at n q hs ds h d fits.1 e f there

-- a live queue has its submission queue at the controller, and so its completion queue
pub live_keeps : (s : State) → SidesAgree s → (q : ℕ) (h : HostQueue) (d : ServedQueue) → slice_get s.host.queues q ≡ Some h → slice_get s.controller.queues q ≡ Some d → is_live h.state ≡ true → d.cq_there ≡ true
live_keeps s agree q h d e f live =
    fits_at s.entries q s.host.queues s.controller.queues h d agree.pairs e f
    (sym (ap (λ (o : Option ServedQueue). option_map_or (λ x. is_absent x.state) o true) f) ∙ agreed_there s q h agree e live)

pub live_keeps_at : (s : State) → SidesAgree s → (q : ℕ) (h : HostQueue) → slice_get s.host.queues q ≡ Some h → is_live h.state ≡ true → keeps_at s.controller.queues q ≡ true
live_keeps_at s agree q h e live = by (slice_get s.controller.queues q) (λ d f. live_keeps s agree q h d e f live) refl
  where
    by : {o : Option ServedQueue} (p : Option ServedQueue) → ((d : ServedQueue) → o ≡ Some d → d.cq_there ≡ true) → o ≡ p → option_map_or (λ d. d.cq_there) p true ≡ true
    by None has e = refl
    by (Some d) has e = has d e

pub serve_back : (s : State) → SidesAgree s → ServeS s → CompletionsServe s
serve_back s agree h = record {
  serves = λ q x d e f. by_state q x d e f x.state refl;
  order = λ q x e deleting. h.order q (awaited_found is_deleting s.host.queues q x e deleting);
}
  where
    kept : (q : ℕ) (x : HostQueue) (d : ServedQueue) → slice_get s.host.queues q ≡ Some x → slice_get s.controller.queues q ≡ Some d → is_deleting x.state ≡ true → d.cq_there ≡ true
    kept q x d e f deleting = sym (ap (λ (o : Option ServedQueue). option_map_or (λ d. d.cq_there) o true) f) ∙ h.keeps q (awaited_found is_deleting s.host.queues q x e deleting)

    by_state : (q : ℕ) (x : HostQueue) (d : ServedQueue) → slice_get s.host.queues q ≡ Some x → slice_get s.controller.queues q ≡ Some d → (st : HostState) → x.state ≡ st → in_service st ≡ true → d.cq_there ≡ true
    by_state q x d e f states.Live is live = live_keeps s agree q x d e f (ap is_live is)
    by_state q x d e f (states.Deleting noted) is live = kept q x d e f (ap is_deleting is)
    by_state q x d e f st is live = absurd (true≢false (sym live))

-- The host's queues

pub still_awaited : (test : HostState → Bool) (f : HostQueue → HostQueue) (k : ℕ) (hs : List HostQueue) → ((h : HostQueue) → slice_get hs k ≡ Some h → test (f h).state ≡ true → test h.state ≡ true)
    → (q : ℕ) → awaited_at test (change k f hs) q ≡ true → awaited_at test hs q ≡ true
still_awaited test f zero (h ∷ hs) was zero w = was h refl w
still_awaited test f (suc k) (h ∷ hs) was (suc q) w = still_awaited test f k hs was q w
still_awaited test f k x was q w = w

pub serve_host : (f : HostQueue → HostQueue) (k : ℕ) (hs : List HostQueue) (ds : List ServedQueue) (un : List SubEntry) → ((h : HostQueue) → slice_get hs k ≡ Some h → is_deleting (f h).state ≡ true → is_deleting h.state ≡ true)
    → Serve hs ds un → Serve (change k f hs) ds un
serve_host f k hs ds un was h = record { keeps = λ q w. h.keeps q (still_awaited is_deleting f k hs was q w); order = λ q w. h.order q (still_awaited is_deleting f k hs was q w) }

pub serve_ring : (g : HostRing → HostRing) (k : ℕ) (hs : List HostQueue) (ds : List ServedQueue) (un : List SubEntry) → Serve hs ds un → Serve (change k (λ x. record x { ring = g x.ring }) hs) ds un
serve_ring g k hs ds un h = serve_host (λ x. record x { ring = g x.ring }) k hs ds un (λ x e w. w) h

-- The controller's queues

pub keeps_still : (g : ServedQueue → ServedQueue) (k : ℕ) (ds : List ServedQueue) → ((d : ServedQueue) → d.cq_there ≡ true → (g d).cq_there ≡ true) → (q : ℕ) → keeps_at ds q ≡ true → keeps_at (change k g ds) q ≡ true
keeps_still g zero (d ∷ ds) stays zero h = stays d h
keeps_still g (suc k) (d ∷ ds) stays (suc q) h = keeps_still g k ds stays q h
keeps_still g k x stays q h = h

pub keeps_other : (g : ServedQueue → ServedQueue) (k : ℕ) (ds : List ServedQueue) (q : ℕ) → (k ≡ q → ⊥) → keeps_at (change k g ds) q ≡ keeps_at ds q
keeps_other g zero (d ∷ ds) zero far = absurd (far refl)
keeps_other g (suc k) (d ∷ ds) (suc q) far = keeps_other g k ds q (λ e. far (ap suc e))
keeps_other g k x q far = refl

pub serve_controller : (g : ServedQueue → ServedQueue) (k : ℕ) (hs : List HostQueue) (ds : List ServedQueue) (un : List SubEntry) → ((d : ServedQueue) → d.cq_there ≡ true → (g d).cq_there ≡ true) → Serve hs ds un → Serve hs (change k g ds) un
serve_controller g k hs ds un stays h = record { keeps = λ q w. keeps_still g k ds stays q (h.keeps q w); order = h.order }

-- its entries stay, or it is not queue 0
pub serve_same : (g : ServedQueue → ServedQueue) (k : ℕ) (hs : List HostQueue) (ds : List ServedQueue) → ((d : ServedQueue) → d.cq_there ≡ true → (g d).cq_there ≡ true) → ((d : ServedQueue) → (g d).unfetched ≡ d.unfetched)
    → Serve hs ds (waiting ds) → Serve hs (change k g ds) (waiting (change k g ds))
serve_same g k hs ds stays same h = subst (Serve hs (change k g ds)) (sym (waiting_same g same k ds)) (serve_controller g k hs ds (waiting ds) stays h)

pub serve_other : (g : ServedQueue → ServedQueue) (k : ℕ) (hs : List HostQueue) (ds : List ServedQueue) → ((d : ServedQueue) → d.cq_there ≡ true → (g d).cq_there ≡ true) → (k == 0) ≡ false
    → Serve hs ds (waiting ds) → Serve hs (change k g ds) (waiting (change k g ds))
serve_other g k hs ds stays other h = subst (Serve hs (change k g ds)) (sym (waiting_other g k ds other)) (serve_controller g k hs ds (waiting ds) stays h)

-- The entries of queue 0

pub before_less : (first later : SubEntry → Bool) (un : List SubEntry) → AreBefore first later un → AreBefore first later (drop 1 un)
before_less first later [] h = tt
before_less first later (e ∷ un) h = h.1

any_more : (test : SubEntry → Bool) (un : List SubEntry) (x : SubEntry) → list_any test un ≡ true → list_any test (un ++ x ∷ []) ≡ true
any_more test [] x h = absurd (true≢false (sym h))
any_more test (e ∷ un) x h = by_test (test e) h (any_more test un x)
  where
    by_test : (b : Bool) → (b || list_any test un) ≡ true → (list_any test un ≡ true → list_any test (un ++ x ∷ []) ≡ true) → (b || list_any test (un ++ x ∷ [])) ≡ true
    by_test true h more = refl
    by_test false h more = more h

any_last : (test : SubEntry → Bool) (un : List SubEntry) (x : SubEntry) → test x ≡ true → list_any test (un ++ x ∷ []) ≡ true
any_last test [] x is = ap (λ (b : Bool). b || false) is
any_last test (e ∷ un) x is = grind (arith, any_last test un x is)

-- another entry comes after them, and then the entry that has to come after them all
pub before_more : (first later : SubEntry → Bool) (un : List SubEntry) (x : SubEntry) → first x ≡ false → AreBefore first later un → AreBefore first later (un ++ x ∷ [])
before_more first later [] x far h = (λ is. absurd (true≢false (sym is ∙ far)), tt)
before_more first later (e ∷ un) x far h = (λ is. any_more later un x (h.0 is), before_more first later un x far h.1)

pub before_last : (first later : SubEntry → Bool) (un : List SubEntry) (x : SubEntry) → first x ≡ false → later x ≡ true → AreBefore first later (un ++ x ∷ [])
before_last first later [] x far is = (λ w. absurd (true≢false (sym w ∙ far)), tt)
before_last first later (e ∷ un) x far is = (λ w. any_last later un x is, before_last first later un x far is)

abbrev pub posted_on : SubEntry → ServedQueue → ServedQueue
posted_on x at = record at { unfetched = at.unfetched ++ x ∷ [] }

pub posted_by : (Q : List SubEntry → Type 0) (x : SubEntry) (ds : List ServedQueue) → Q [] → ((un : List SubEntry) → waiting ds ≡ un → Q (un ++ x ∷ [])) → Q (waiting (change 0 (posted_on x) ds))
posted_by Q x [] none more = none
posted_by Q x (d ∷ ds) none more = more d.unfetched refl

pub serve_posted : (x : SubEntry) (hs : List HostQueue) (ds : List ServedQueue) → ((q : ℕ) → awaited_at is_deleting hs q ≡ true → asks_cq_deletion q x ≡ false) → Serve hs ds (waiting ds)
    → Serve hs (change 0 (posted_on x) ds) (waiting (change 0 (posted_on x) ds))
serve_posted x hs ds far h = record {
  keeps = λ q w. keeps_still (posted_on x) 0 ds (λ d there. there) q (h.keeps q w);
  order = λ q w. posted_by (AreBefore (asks_cq_deletion q) (asks_sq_deletion q)) x ds tt
      (λ un e. before_more (asks_cq_deletion q) (asks_sq_deletion q) un x (far q w) (subst (AreBefore (asks_cq_deletion q) (asks_sq_deletion q)) e (h.order q w)));
}

-- one is taken, and the queue is emptied
abbrev pub taken_from : ServedQueue → ServedQueue
taken_from at = record at { unfetched = drop 1 at.unfetched; rung = at.rung - 1 }

waiting_less : (ds : List ServedQueue) → waiting (change 0 taken_from ds) ≡ drop 1 (waiting ds)
waiting_less [] = refl
waiting_less (d ∷ ds) = refl

pub serve_taken : (k : ℕ) (hs : List HostQueue) (ds : List ServedQueue) → Serve hs ds (waiting ds) → Serve hs (change k taken_from ds) (waiting (change k taken_from ds))
serve_taken zero hs ds h = record {
  keeps = λ q w. keeps_still taken_from zero ds (λ d there. there) q (h.keeps q w);
  order = λ q w. subst (AreBefore (asks_cq_deletion q) (asks_sq_deletion q)) (sym (waiting_less ds)) (before_less (asks_cq_deletion q) (asks_sq_deletion q) (waiting ds) (h.order q w));
}
serve_taken (suc k) hs ds h = serve_other taken_from (suc k) hs ds (λ d there. there) (ne_zero k) h

pub serve_cleared : (k : ℕ) (hs : List HostQueue) (ds : List ServedQueue) → Serve hs ds (waiting ds) → Serve hs (change k cleared ds) (waiting (change k cleared ds))
serve_cleared zero hs [] h = h
serve_cleared zero hs (d ∷ ds) h = record { keeps = λ q w. keeps_still cleared zero (d ∷ ds) (λ x there. there) q (h.keeps q w); order = λ q w. tt }
serve_cleared (suc k) hs ds h = serve_other cleared (suc k) hs ds (λ d there. there) (ne_zero k) h

-- Each event of the controller keeps the completion queues of the queues that are deleted.

-- an entry that asks for the deletion of a submission queue is an admin command that is not fetched
asked_unmade : (rs : List Record) (q : ℕ) (un : List SubEntry) → AllByRecursion (EntryKnown rs) un → list_any (asks_sq_deletion q) un ≡ true → 0 < total (λ e. one (is_kind (deletes_sq q) rs e.cid)) un
asked_unmade rs q [] all any = absurd (true≢false (sym any))
asked_unmade rs q (e ∷ un) all any = by_deletion (asks_sq_deletion q e) refl any (λ later. asked_unmade rs q un all.1 later)
  where
    by_deletion : (b : Bool) → asks_sq_deletion q e ≡ b → (b || list_any (asks_sq_deletion q) un) ≡ true → (list_any (asks_sq_deletion q) un ≡ true → 0 < total (λ e. one (is_kind (deletes_sq q) rs e.cid)) un) → 0 < one (is_kind (deletes_sq q) rs e.cid) + total (λ e. one (is_kind (deletes_sq q) rs e.cid)) un
    by_deletion b is any later = grind arith

completed_serve : (q : ℕ) (cid : ℕ) (st : Status) (dw0 : ℕ) (t : State) → ServeS t → ServeS (posts_completion q cid st dw0 t)
completed_serve q cid st dw0 t h = serve_same (λ at. record at { completions = at.completions ++ posted_completion q cid st dw0 t ∷ [] }) q t.host.queues t.controller.queues (λ x there. there) (λ x. refl) h

fetch_serves : (s : State) (q : ℕ) → SidesAgree s → ServeS s → ServeS (a.after_fetch q s)
fetch_serves s q agree h =
    fetch_by ServeS s q h
    (λ e next con. completed_serve q e.cid _ 0 (a.taken_off q s) (serve_taken q hs ds h))
    (λ e next con z. managed_by ServeS e (a.taken_off 0 s)
    (record {
      refuses = λ st bad. off;
      aborts = λ is8 walks. off;
      is_late = λ is8. off;
      stops = λ is0 q0 runs. serve_same (λ at. record at { state = Stopping }) (named_queue e) hs ds0 (λ x there. there) (λ x. refl) off;
      drops = λ is4 q0 has gone. dropped e (subst (λ (k : ℕ). next_rung s k ≡ Some e) z next) is4 q0 gone;
      makes_completion = λ is5 q0 none. serve_other a.completion_made (named_queue e) hs ds0 (λ x there. refl) q0 off;
      makes_submission = λ is1 q0 gone has. serve_other a.submission_made (named_queue e) hs ds0 (λ x there. there) q0 off;
    }))
    (λ e next con other. serve_taken q hs ds h)
  where
    hs : List HostQueue
    hs = s.host.queues

    ds : List ServedQueue
    ds = s.controller.queues

    ds0 : List ServedQueue
    ds0 = change 0 taken_from ds

    Before : ℕ → List SubEntry → Type 0
    Before z un = AreBefore (asks_cq_deletion z) (asks_sq_deletion z) un

    off : Serve hs ds0 (waiting ds0)
    off = serve_taken 0 hs ds h

    -- a queue that is deleted has its submission queue, where the deletion of its completion queue is fetched
    served : (e : SubEntry) (z : ℕ) → next_rung s 0 ≡ Some e → (e.opcode == DELETE_IO_CQ) ≡ true → (named_queue e == z) ≡ true → awaited_at is_deleting hs z ≡ true → is_absent_at ds z ≡ false
    served e z next is4 its w =
        let split = taken_entry ds e next in
        let rs = s.host.records in
        let known = subst (AllByRecursion (EntryKnown rs)) split agree.admin_commands.entries in
        let asks : asks_cq_deletion z e ≡ true = ap (λ (b : Bool). b && (named_queue e == z)) is4 ∙ its in
        let all : total (λ e. one (is_kind (deletes_sq z) rs e.cid)) (waiting ds) ≡ one (is_kind (deletes_sq z) rs e.cid) + total (λ e. one (is_kind (deletes_sq z) rs e.cid)) (waiting ds0) =
        ap (total (λ (e : SubEntry). one (is_kind (deletes_sq z) rs e.cid))) split in
        agree.tokens.there z (awaited_below is_deleting hs z w) (omega (arith, asked_unmade rs z (waiting ds0) known.1 ((subst (Before z) split (h.order z w)).0 asks), all))

    dropped : (e : SubEntry) → next_rung s 0 ≡ Some e → (e.opcode == DELETE_IO_CQ) ≡ true → (named_queue e == 0) ≡ false → is_absent (a.sq_state (a.taken_off 0 s) (named_queue e)) ≡ true
        → Serve hs (change (named_queue e) a.dropped ds0) (waiting (change (named_queue e) a.dropped ds0))
    dropped e next is4 q0 gone = record {
      keeps = λ z w. by z w (named_queue e == z) refl;
      order = λ z w. subst (Before z) (sym (waiting_other a.dropped (named_queue e) ds0 q0)) (off.order z w);
    }
      where
        by : (z : ℕ) → awaited_at is_deleting hs z ≡ true → (b : Bool) → (named_queue e == z) ≡ b → keeps_at (change (named_queue e) a.dropped ds0) z ≡ true
        by z w false far = keeps_other a.dropped (named_queue e) ds0 z (eqb-false (named_queue e) z far) ∙ off.keeps z w
        by z w true its =
            let absent : is_absent_at ds z ≡ true =
            sym (controller_same (λ at. is_absent at.state) true taken_from 0 ds (λ d ed. refl) z) ∙ subst (λ (k : ℕ). is_absent_at ds0 k ≡ true) (eqb-true (named_queue e) z its) (absent_state (a.taken_off 0 s) (named_queue e) gone) in
            absurd (true≢false (sym absent ∙ served e z next is4 its w))

pub serve_controller_event : (s : State) (e : Event) (reply : Reply) → Accepts s e reply → IsController e ≡ true → SidesAgree s → ServeS s → ServeS (a.after s e reply)
serve_controller_event s (events.Fetch q) (events.Fetched cid touched) ok c agree h = fetch_serves s q agree h
serve_controller_event s (events.Walk q cid) (events.Walked o touched) ok c agree h = walk_by ServeS s q cid h (λ j act at u. h)
serve_controller_event s (events.Complete q cid) (events.Completed touched) ok c agree h =
    complete_by ServeS s q cid h
    (λ j at c. completed_serve q cid (a.final_status s j) j.dw0 (a.on_served_queue (named_queue j.entry) _ (finished q cid j s)) (serve_cleared (named_queue j.entry) s.host.queues s.controller.queues h))
    (λ j at c. completed_serve q cid (a.final_status s j) j.dw0 (finished q cid j s) h)
serve_controller_event s (events.Fetch q) reply ok c agree h = absurd ok.1
serve_controller_event s (events.Walk q cid) reply ok c agree h = absurd ok.1
serve_controller_event s (events.Complete q cid) reply ok c agree h = absurd ok.1
serve_controller_event s e reply ok c agree h = absurd (true≢false (sym c))

-- Each event of the host keeps the completion queues of the queues that are deleted.

differ : (x y : ℕ) (b : Bool) → (x ≡ y → b ≡ true) → b ≡ false → (x == y) ≡ false
differ x y b same stays = grind arith

-- after a reset no queue is being deleted
pub serve_reset : (hs : List HostQueue) (ds : List ServedQueue) → Serve (a.reset_queues hs) (a.reset_served_queues ds) (waiting (a.reset_served_queues ds))
serve_reset hs ds =
    record {
      keeps = λ q deleting. absurd (true≢false (sym deleting ∙ reset_state is_deleting refl refl hs q));
      order = λ q deleting. absurd (true≢false (sym deleting ∙ reset_state is_deleting refl refl hs q));
    }

pub serve_host_event : (s : State) (e : Event) (reply : Reply) → Accepts s e reply → IsController e ≡ false → SidesAgree s → ServeS s → ServeS (a.after s e reply)
serve_host_event s e reply ok c agree h =
    let holds : HoldsPart (host_part s) = holds_from_sound s agree.sound in
    host_moves (λ (e : Event) (reply : Reply) (u : State). ServeS u) s e reply ok c
    (record {
      reserves = λ q request d none is. h;
      submits = λ d entry r none built its live.
          serve_ring (next_tail s.entries) d.q hs (change d.q (posted_on entry) ds) (waiting (change d.q (posted_on entry) ds))
          (serve_other (posted_on entry) d.q hs ds (λ x there. there) (io_other s d.q d.cid r its.asked.0 agree.modelled holds its.found its.asked.1) h);
      cancels = λ d r its. h;
      rings = λ q none. serve_same (λ at. record at { rung = length at.unfetched }) q hs ds (λ x there. there) (λ x. refl) h;
      rests = λ q is. h;
      rejects = λ q why is. consumed q;
      tells = λ q cid st what e r request told heard w. heard_serve q e;
      hears = λ q cid st what e r adm told heard w quiet unmade. heard_serve q e;
      notes = λ q cid st what e r k told heard w. turned q e k (λ x. record x { state = _ })
          (λ x ex deleting. ap is_deleting (asked_as_heard s q cid st e r k holds heard w x ex));
      frees = λ q cid st what e r k queue told heard w at alone good. turned q e k a.gone (λ x ex deleting. absurd (true≢false (sym deleting)));
      makes_cq = λ q cid st what e r k n base vector told heard w good. turned q e k a.half_made (λ x ex deleting. absurd (true≢false (sym deleting)));
      unmakes_cq = λ q cid st what e r k n base vector queue told heard w at bad. turned q e k a.gone (λ x ex deleting. absurd (true≢false (sym deleting)));
      makes_sq = λ q cid st what e r k n base told heard w good. turned q e k a.live (λ x ex deleting. absurd (true≢false (sym deleting)));
      unmakes_sq = λ q cid st what e r k n base queue told heard w at bad. turned q e k a.unmade_sq (λ x ex deleting. absurd (true≢false (sym deleting)));
      collects = λ q cid r f at held is. h;
      releases = λ f r its. h;
      aborts = λ q cid id none new. sent (Abort q cid) id (λ z w. refl);
      asks = λ q id queue none new live. asked q id queue live.there live.live;
      drops = λ q id none new. sent (DeleteCq q) id (λ z w. dropping q z none w);
      creates_cqs = λ q vector id first queue none new granted.
          serve_ring (next_tail s.entries) 0 (change q (a.making_cq (half_from Completion first s)) hs) (posted (creates_cq q vector first s) id) (waiting (posted (creates_cq q vector first s) id))
          (serve_host (a.making_cq (half_from Completion first s)) q hs (posted (creates_cq q vector first s) id) (waiting (posted (creates_cq q vector first s) id)) (λ x ex deleting. absurd (true≢false (sym deleting)))
          (serve_posted (admin_entry (creates_cq q vector first s) id) hs ds (λ z w. refl) h));
      creates_sqs = λ q id first queue none new granted.
          serve_ring (next_tail s.entries) 0 (change q (a.making_sq (half_from Submission first s)) hs) (posted (creates_sq q first s) id) (waiting (posted (creates_sq q first s) id))
          (serve_host (a.making_sq (half_from Submission first s)) q hs (posted (creates_sq q first s) id) (waiting (posted (creates_sq q first s) id)) (λ x ex deleting. absurd (true≢false (sym deleting)))
          (serve_posted (admin_entry (creates_sq q first s) id) hs ds (λ z w. refl) h));
      retires = λ q queue none at deleted. serve_host a.retired q hs ds (waiting ds) (λ x ex deleting. absurd (true≢false (sym deleting))) h;
      forges = λ q slot bytes queue none at. h;
      resets = serve_reset hs ds;
    })
  where
    hs : List HostQueue
    hs = s.host.queues

    ds : List ServedQueue
    ds = s.controller.queues

    posted : AdminKind → ℕ → List ServedQueue
    posted adm id = change 0 (posted_on (admin_entry adm id)) ds

    reaped : ServedQueue → ServedQueue
    reaped at = record at { completions = drop 1 at.completions }

    consumed : (q : ℕ) → Serve (a.consumed q s).host.queues (change q reaped ds) (waiting (change q reaped ds))
    consumed q = serve_ring (next_head s.entries) q hs (change q reaped ds) (waiting (change q reaped ds)) (serve_same reaped q hs ds (λ x there. there) (λ x. refl) h)

    heard_serve : (q : ℕ) (e : ComEntry) → Serve (a.heard q e s).host.queues (change q reaped ds) (waiting (change q reaped ds))
    heard_serve q e = serve_ring (knowing e.sqhd) q (a.consumed q s).host.queues (change q reaped ds) (waiting (change q reaped ds)) (consumed q)

    turned : (q : ℕ) (e : ComEntry) (k : ℕ) (f : HostQueue → HostQueue) → ((x : HostQueue) → slice_get (a.heard q e s).host.queues k ≡ Some x → is_deleting (f x).state ≡ true → is_deleting x.state ≡ true)
        → Serve (change k f (a.heard q e s).host.queues) (change q reaped ds) (waiting (change q reaped ds))
    turned q e k f was = serve_host f k (a.heard q e s).host.queues (change q reaped ds) (waiting (change q reaped ds)) was (heard_serve q e)

    sent : (adm : AdminKind) (id : ℕ) → ((q : ℕ) → awaited_at is_deleting hs q ≡ true → asks_cq_deletion q (admin_entry adm id) ≡ false)
        → Serve (change 0 (λ x. record x { ring = next_tail s.entries x.ring }) hs) (posted adm id) (waiting (posted adm id))
    sent adm id far = serve_ring (next_tail s.entries) 0 hs (posted adm id) (waiting (posted adm id)) (serve_posted (admin_entry adm id) hs ds far h)

    -- a completion queue is not deleted while its submission queue is
    dropping : (q z : ℕ) → refusal_of s (events.DeleteCq q) ≡ None → awaited_at is_deleting hs z ≡ true → ((q % 65536) == z) ≡ false
    dropping q z none w =
        let causes = unrefused s (events.DeleteCq q) none in
        let has : awaited_at has_cq hs q ≡ true = not-false _ (or_parts (q == 0) (not (awaited_at has_cq hs q)) causes.0).1 in
        let still : awaited_at is_changing hs q ≡ false = (or_parts (awaited_at is_changing hs q) _ causes.1.0).0 in
        let same = small q (length hs) (awaited_below has_cq hs q has) agree.few_queues in
        -- a queue that is deleted is one that changes
        differ (q % 65536) z (awaited_at is_changing hs q) (λ e. grind arith) still

    -- the deletion of a live queue's submission side
    asked : (q id : ℕ) (queue : HostQueue) → slice_get hs q ≡ Some queue → queue.state ≡ states.Live
        → Serve (change q a.deleting (change 0 (λ x. record x { ring = next_tail s.entries x.ring }) hs)) (posted (DeleteSq q) id) (waiting (posted (DeleteSq q) id))
    asked q id queue at live = record { keeps = λ z w. keeps z w (q == z) refl; order = λ z w. order z w (q == z) refl }
      where
        hs1 : List HostQueue
        hs1 = change 0 (λ x. record x { ring = next_tail s.entries x.ring }) hs

        x : SubEntry
        x = admin_entry (DeleteSq q) id

        was : (z : ℕ) → awaited_at is_deleting (change q a.deleting hs1) z ≡ true → (q == z) ≡ false → awaited_at is_deleting hs z ≡ true
        was z w far = still_awaited is_deleting (λ x. record x { ring = next_tail s.entries x.ring }) 0 hs (λ x e w. w) z (sym (at_other is_deleting a.deleting q hs1 z (eqb-false q z far)) ∙ w)

        keeps : (z : ℕ) → awaited_at is_deleting (change q a.deleting hs1) z ≡ true → (b : Bool) → (q == z) ≡ b → keeps_at (posted (DeleteSq q) id) z ≡ true
        keeps z w true e = keeps_still (posted_on x) 0 ds (λ d there. there) z (subst (λ (k : ℕ). keeps_at ds k ≡ true) (eqb-true q z e) (live_keeps_at s agree q queue at (ap is_live live)))
        keeps z w false e = keeps_still (posted_on x) 0 ds (λ d there. there) z (h.keeps z (was z w e))

        names : (z : ℕ) → (q == z) ≡ true → asks_sq_deletion z x ≡ true
        names z e = ap (λ (k : ℕ). k == z) (small q (length hs) (awaited_below is_live hs q (ap (λ (o : Option HostQueue). option_map_or (λ h. is_live h.state) o false) at ∙ ap is_live live)) agree.few_queues) ∙ e

        order : (z : ℕ) → awaited_at is_deleting (change q a.deleting hs1) z ≡ true → (b : Bool) → (q == z) ≡ b → AreBefore (asks_cq_deletion z) (asks_sq_deletion z) (waiting (posted (DeleteSq q) id))
        order z w true e = posted_by (AreBefore (asks_cq_deletion z) (asks_sq_deletion z)) x ds tt (λ un is. before_last (asks_cq_deletion z) (asks_sq_deletion z) un x refl (names z e))
        order z w false e =
            posted_by (AreBefore (asks_cq_deletion z) (asks_sq_deletion z)) x ds tt
            (λ un is. before_more (asks_cq_deletion z) (asks_sq_deletion z) un x refl (subst (AreBefore (asks_cq_deletion z) (asks_sq_deletion z)) is (h.order z (was z w e))))

-- Each step keeps the completion queue of a queue in service, as long as nothing is forged.

accepted : (s : State) (e : Event) (reply : Reply) → Accepts s e reply → SidesAgree s → ServeS s → (b : Bool) → IsController e ≡ b → ServeS (after s e reply)
accepted s e reply ok agree h true c = serve_controller_event s e reply ok c agree h
accepted s e reply ok agree h false c = serve_host_event s e reply ok c agree h

pub step_keeps_serving : (old : State) (e : Event) (reply : Reply) (new : State) → Step old e reply new → old.trusted ≡ true → new.trusted ≡ true → SidesAgree old → CompletionsServe old → CompletionsServe new
step_keeps_serving old e reply new step t u agree serve =
    serve_back new ((step_keeps_agreement old e reply new step u).1 agree)
    (trusted_step_by (λ (e : Event) (reply : Reply) (s : State). ServeS s) old (λ e why touched. serve_of old serve) (λ e reply proper ok. accepted old e reply ok agree (serve_of old serve) (IsController e) refl) e reply new step t u)

-- The controller's calls as steps of the machine: exact where nothing was forged, and of the machine's shape elsewhere.

pub either_by : (b : Bool) (A B : Type 0) → (b ≡ true → A) → (b ≡ false → B) → MatchBool (b || false) A B
either_by true A B f g = f refl
either_by false A B f g = g refl

-- pages that show the same bytes are the same
pub same_pages : (s : Sides) (pages : Pages) → IsWorld s → LeavesPages s.pages pages → byte_at pages ≡ byte_at s.pages → pages ≡ s.pages
same_pages s pages world leaves e = told pages s.pages leaves.whole world.sides.over.pool.whole leaves.count (λ place. ap (λ (m : Memory). m place) e)

-- the machine, with what a call of the controller makes of it
abbrev pub with_served : State → Pages → List ServedQueue → List Job → List ℕ → State
with_served s pages queues jobs image = record s { memory = pages; controller = record { queues = queues; jobs = jobs; image = image } }
