-- Tokens from step to step.
use Rattle.machine_model.specs.After as a
use Rattle.std.proofs.Common.{◌≡◌, ℕ, zero, suc, ◌+◌, ◌<◌, ◌≤◌, ◌==◌, Bool, true, false, not, ◌&&◌, Option, Some, None, List, [], ◌∷◌, ◌++◌, length, slice_get, refl, ap, sym, ◌∙◌, arith, subst, eqb-true, eq-eqb, ◌-◌, map}
use Rattle.std.{proofs.lemmas.Bool.{true≢false, eqb-false}, specs.{List.AllByRecursion, Option.option_map_or}}
use Rattle.admin_commands.specs.{Entries.named_queue, Verdicts.is_absent, declared.AdminKind.AdminKind}
use Rattle.entry_codec.specs.{Status.is_success, declared.{admin_opcode.TheConstants.{DELETE_IO_CQ, CREATE_IO_CQ, CREATE_IO_SQ}, status.Status.Status}}
use Rattle.entry_codec.specs.declared.{status.TheConstants.Status.ABORTED_SQ_DELETION, submission.SubEntry.SubEntry}
use Rattle.io_commands.specs.Asked.{Request}
use Rattle.machine_model.proofs.{Counting.{one, total-append, total, get_changed, get_other}, Owned.lost_by, Sound.small}
use Rattle.machine_model.proofs.Tokens.{gone_at, there_at, Named, Fewer, is_kind, succeeds, unmade, completed_well, done_well, deletes_sq, deletes_cq, creates_cq, creates_sq, failing, succeeding}
use Rattle.machine_model.specs.After.{change, dropped, completion_made, submission_made}
use Rattle.machine_model.specs.Agreeing.{TokensGoRound, knows_deleted_at, is_gone_at, is_live_at, waiting, admin_completions, QueuesFit, is_absent_at, has_completions_at, completions_at, CommandsStandOnce, AreHeadsBehind, IsHeadBehind, sent_count}
use Rattle.machine_model.specs.{Claims.AdminLives, Commands.{Work, Io, Management}, Refusals.{is_live, in_service, is_submitted, has_sq, has_cq}}
use Rattle.machine_model.specs.Standing.{CommandStands, StandsAs, IsSized, unfetched_at}
use Rattle.machine_model.specs.State.{HostQueue, ServedQueue, Record, Job, PostedCompletion, HostState, Live, Held}
use Rattle.page_memory.specs.{Pages.Pages, declared.page.Half.TheVariants.{Submission, Completion}}
use Rattle.queue_pair.specs.{Memory.half_pages}

-- The controller's events keep the tokens of what is deleted and made.

-- The tokens, by the entries, jobs and completions of queue 0
pub record TokensHeld (rs : List Record) (hs : List HostQueue) (ds : List ServedQueue) (un : List SubEntry) (js : List Job) (ans : List PostedCompletion) : Type 0 where
  pub submission : (q : ℕ) → one (not (gone_at ds q)) + (completed_well (deletes_sq q) rs ans + (one (knows_deleted_at hs q) + unmade (creates_sq q) rs un js ans)) ≤ 1
  pub completion : (q : ℕ) → one (there_at ds q) + (done_well (deletes_cq q) rs js ans + (one (is_gone_at hs q) + unmade (creates_cq q) rs un js ans)) ≤ 1
  pub there : (q : ℕ) → q < length hs → 0 < one (is_live_at hs q) + (unmade (deletes_sq q) rs un js ans + done_well (creates_sq q) rs js ans) → gone_at ds q ≡ false

pub tokens_of : (rs : List Record) (hs : List HostQueue) (ds : List ServedQueue) (js : List Job) → TokensGoRound rs hs ds js → TokensHeld rs hs ds (waiting ds) js (admin_completions ds)
tokens_of rs hs ds js h = record { submission = h.submission; completion = h.completion; there = h.there }

pub tokens_to : (rs : List Record) (hs : List HostQueue) (ds : List ServedQueue) (js : List Job) → TokensHeld rs hs ds (waiting ds) js (admin_completions ds) → TokensGoRound rs hs ds js
tokens_to rs hs ds js h = record { submission = h.submission; completion = h.completion; there = h.there }

-- no more of each count
pub tokens_fewer : (rs rs' : List Record) (hs : List HostQueue) (ds : List ServedQueue) (un un' : List SubEntry) (js js' : List Job) (ans ans' : List PostedCompletion)
    → Fewer rs un js ans rs' un' js' ans' → TokensHeld rs hs ds un js ans → TokensHeld rs' hs ds un' js' ans'
tokens_fewer rs rs' hs ds un un' js js' ans ans' few h = record {
  submission = λ q. omega (arith, h.submission q, few.completed (deletes_sq q), few.unmade (creates_sq q));
  completion = λ q. omega (arith, h.completion q, few.done (deletes_cq q), few.unmade (creates_cq q));
  there = λ q inside some. h.there q inside (omega (arith, some, few.unmade (deletes_sq q), few.done (creates_sq q)));
}

-- queues of the controller, their presence left alone
pub tokens_controller : (rs : List Record) (hs : List HostQueue) (ds ds' : List ServedQueue) (un : List SubEntry) (js : List Job) (ans : List PostedCompletion)
    → ((q : ℕ) → gone_at ds' q ≡ gone_at ds q) → ((q : ℕ) → there_at ds' q ≡ there_at ds q) → TokensHeld rs hs ds un js ans → TokensHeld rs hs ds' un js ans
tokens_controller rs hs ds ds' un js ans gone there h = record {
  submission = λ q. omega (arith, h.submission q, ap (λ (b : Bool). one (not b)) (gone q));
  completion = λ q. omega (arith, h.completion q, ap one (there q));
  there = λ q inside some. gone q ∙ h.there q inside some;
}

pub controller_same : {A : Type 0} (g : ServedQueue → A) (nothing : A) (f : ServedQueue → ServedQueue) (k : ℕ) (ds : List ServedQueue) → ((d : ServedQueue) → slice_get ds k ≡ Some d → g (f d) ≡ g d) → (q : ℕ)
    → option_map_or g (slice_get (change k f ds) q) nothing ≡ option_map_or g (slice_get ds q) nothing
controller_same g nothing f zero (d ∷ ds) same zero = same d refl
controller_same g nothing f (suc k) (d ∷ ds) same (suc q) = controller_same g nothing f k ds same q
controller_same g nothing f k ds same q = refl

pub controller_other : {A : Type 0} (g : ServedQueue → A) (nothing : A) (f : ServedQueue → ServedQueue) (k : ℕ) (ds : List ServedQueue) (q : ℕ) → (k == q) ≡ false → option_map_or g (slice_get (change k f ds) q) nothing ≡ option_map_or g (slice_get ds q) nothing
controller_other g nothing f k ds q far = ap (λ (o : Option ServedQueue). option_map_or g o nothing) (get_other k f ds q (eqb-false k q far))

-- what a changed queue says, whether it is there or not
controller_here : {A : Type 0} (g : ServedQueue → A) (nothing : A) (f : ServedQueue → ServedQueue) (k : ℕ) (ds : List ServedQueue) (v : A) → ((d : ServedQueue) → g (f d) ≡ v) → (x : ServedQueue) → slice_get ds k ≡ Some x → option_map_or g (slice_get (change k f ds) k) nothing ≡ v
controller_here g nothing f k ds v is x e = ap (λ (o : Option ServedQueue). option_map_or g o nothing) (get_changed k f ds x e) ∙ is x

-- An entry is fetched

-- its kind counts as a failed job's, or as one that succeeded
pub record Fetched (rs : List Record) (e : SubEntry) (un : List SubEntry) (js js' : List Job) (ans : List PostedCompletion) (ok : Bool) : Type 0 where
  pub unmade : (test : AdminKind → Bool) → unmade test rs un js' ans + one (is_kind test rs e.cid && ok) ≡ unmade test rs (e ∷ un) js ans
  pub done : (test : AdminKind → Bool) → done_well test rs js' ans ≡ done_well test rs js ans + one (is_kind test rs e.cid && ok)

pub fetched : (rs : List Record) (e : SubEntry) (un : List SubEntry) (js : List Job) (ans : List PostedCompletion) (j : Job) (st : Status) → j.q ≡ 0 → j.entry ≡ e → j.verdict ≡ Some st
    → Fetched rs e un js (js ++ j ∷ []) ans (is_success st)
fetched rs e un js ans j st jq je jv = record {
  unmade = λ test. omega (arith, total-append (failing test rs) js (j ∷ []), ap one (fails test), split (is_kind test rs e.cid) (is_success st));
  done = λ test. omega (arith, total-append (succeeding test rs) js (j ∷ []), ap one (wins test));
}
  where
    fails : (test : AdminKind → Bool) → ((j.q == 0) && is_kind test rs j.entry.cid && not (succeeds j)) ≡ (is_kind test rs e.cid && not (is_success st))
    fails test = rw (eq-eqb j.q 0 jq, je, jv) refl

    wins : (test : AdminKind → Bool) → ((j.q == 0) && is_kind test rs j.entry.cid && succeeds j) ≡ (is_kind test rs e.cid && is_success st)
    wins test = rw (eq-eqb j.q 0 jq, je, jv) refl

    split : (a b : Bool) → one (a && not b) + one (a && b) ≡ one a
    split a b = grind arith

-- no kind that counts succeeds
pub tokens_plain : (rs : List Record) (hs : List HostQueue) (ds : List ServedQueue) (e : SubEntry) (un : List SubEntry) (js js' : List Job) (ans : List PostedCompletion) (ok : Bool) → Fetched rs e un js js' ans ok
    → ((q : ℕ) → (is_kind (deletes_cq q) rs e.cid && ok) ≡ false) → ((q : ℕ) → (is_kind (creates_sq q) rs e.cid && ok) ≡ false) → TokensHeld rs hs ds (e ∷ un) js ans → TokensHeld rs hs ds un js' ans
tokens_plain rs hs ds e un js js' ans ok f cq sq h = record {
  submission = λ q. omega (arith, h.submission q, f.unmade (creates_sq q));
  completion = λ q. omega (arith, h.completion q, f.unmade (creates_cq q), f.done (deletes_cq q), ap one (cq q));
  there = λ q inside some. h.there q inside (omega (arith, some, f.unmade (deletes_sq q), f.done (creates_sq q), ap one (sq q)));
}

-- a completion queue is dropped: it was there
pub tokens_drop : (rs : List Record) (hs : List HostQueue) (ds : List ServedQueue) (e : SubEntry) (un : List SubEntry) (js js' : List Job) (ans : List PostedCompletion) → Fetched rs e un js js' ans true
    → Named rs e → (e.opcode == DELETE_IO_CQ) ≡ true → there_at ds (named_queue e) ≡ true → TokensHeld rs hs ds (e ∷ un) js ans → TokensHeld rs hs (change (named_queue e) dropped ds) un js' ans
tokens_drop rs hs ds e un js js' ans f names is has h =
    let k = named_queue e in
    let same : (q : ℕ) → gone_at (change (named_queue e) dropped ds) q ≡ gone_at ds q = λ q. controller_same (λ at. is_absent at.state) true dropped (named_queue e) ds (λ d ed. refl) q in
    let sq : (q : ℕ) → (is_kind (creates_sq q) rs e.cid && true) ≡ false = λ q. rw (names.creates_sq q, eqb-true e.opcode DELETE_IO_CQ is) refl in
    record {
      submission = λ q. omega (arith, h.submission q, f.unmade (creates_sq q), ap (λ (b : Bool). one (not b)) (same q));
      completion = λ q. completes q (named_queue e == q) refl;
      there = λ q inside some. same q ∙ h.there q inside (omega (arith, some, f.unmade (deletes_sq q), f.done (creates_sq q), ap one (sq q)));
    }
  where
    its : (q : ℕ) (b : Bool) → (named_queue e == q) ≡ b → (is_kind (deletes_cq q) rs e.cid && true) ≡ b
    its q b at = grind arith

    away : (x : Option ServedQueue) → slice_get ds (named_queue e) ≡ x → there_at (change (named_queue e) dropped ds) (named_queue e) ≡ false
    away None at = absurd (true≢false (sym has ∙ ap (λ (o : Option ServedQueue). option_map_or (λ at. at.cq_there) o false) at))
    away (Some x) at = controller_here (λ at. at.cq_there) false dropped (named_queue e) ds false (λ d. refl) x at

    completes : (q : ℕ) (b : Bool) → (named_queue e == q) ≡ b
        → one (there_at (change (named_queue e) dropped ds) q) + (done_well (deletes_cq q) rs js' ans + (one (is_gone_at hs q) + unmade (creates_cq q) rs un js' ans)) ≤ 1
    completes q true at =
        let is' : named_queue e ≡ q = eqb-true (named_queue e) q at in
        let off : there_at (change (named_queue e) dropped ds) q ≡ false = subst (λ (z : ℕ). there_at (change (named_queue e) dropped ds) z ≡ false) is' (away (slice_get ds (named_queue e)) refl) in
        let was : there_at ds q ≡ true = subst (λ (z : ℕ). there_at ds z ≡ true) is' has in
        omega (arith, h.completion q, f.unmade (creates_cq q), f.done (deletes_cq q), ap one (its q true at), ap one off, ap one was)
    completes q false at =
        omega (arith, h.completion q, f.unmade (creates_cq q), f.done (deletes_cq q), ap one (its q false at), ap one (controller_other (λ (at : ServedQueue). at.cq_there) false dropped (named_queue e) ds q at))

-- one is made: it was not there
pub tokens_completion : (rs : List Record) (hs : List HostQueue) (ds : List ServedQueue) (e : SubEntry) (un : List SubEntry) (js js' : List Job) (ans : List PostedCompletion) → Fetched rs e un js js' ans true
    → Named rs e → (e.opcode == CREATE_IO_CQ) ≡ true → there_at ds (named_queue e) ≡ false → TokensHeld rs hs ds (e ∷ un) js ans → TokensHeld rs hs (change (named_queue e) completion_made ds) un js' ans
tokens_completion rs hs ds e un js js' ans f names is has h =
    let same : (q : ℕ) → gone_at (change (named_queue e) completion_made ds) q ≡ gone_at ds q =
    λ q. controller_same (λ at. is_absent at.state) true completion_made (named_queue e) ds (λ d ed. refl) q in
    let sq : (q : ℕ) → (is_kind (creates_sq q) rs e.cid && true) ≡ false = λ q. rw (names.creates_sq q, eqb-true e.opcode CREATE_IO_CQ is) refl in
    record {
      submission = λ q. omega (arith, h.submission q, f.unmade (creates_sq q), ap (λ (b : Bool). one (not b)) (same q));
      completion = λ q. completes q (named_queue e == q) refl;
      there = λ q inside some. same q ∙ h.there q inside (omega (arith, some, f.unmade (deletes_sq q), f.done (creates_sq q), ap one (sq q)));
    }
  where
    cq : (q : ℕ) → (is_kind (deletes_cq q) rs e.cid && true) ≡ false
    cq q = rw (names.deletes_cq q, eqb-true e.opcode CREATE_IO_CQ is) refl

    its : (q : ℕ) (b : Bool) → (named_queue e == q) ≡ b → (is_kind (creates_cq q) rs e.cid && true) ≡ b
    its q b at = grind arith

    completes : (q : ℕ) (b : Bool) → (named_queue e == q) ≡ b
        → one (there_at (change (named_queue e) completion_made ds) q) + (done_well (deletes_cq q) rs js' ans + (one (is_gone_at hs q) + unmade (creates_cq q) rs un js' ans)) ≤ 1
    completes q true at =
        let was : there_at ds q ≡ false = subst (λ (z : ℕ). there_at ds z ≡ false) (eqb-true (named_queue e) q at) has in
        omega (arith, h.completion q, f.unmade (creates_cq q), f.done (deletes_cq q), ap one (cq q), ap one (its q true at), ap one was, small (there_at (change (named_queue e) completion_made ds) q))
    completes q false at = grind (arith, unmade, creates_cq, deletes_cq, controller_other)

-- a submission queue is made: it was not there
pub tokens_submission : (rs : List Record) (hs : List HostQueue) (ds : List ServedQueue) (e : SubEntry) (un : List SubEntry) (js js' : List Job) (ans : List PostedCompletion) → length ds ≡ length hs → Fetched rs e un js js' ans true
    → Named rs e → (e.opcode == CREATE_IO_SQ) ≡ true → gone_at ds (named_queue e) ≡ true → TokensHeld rs hs ds (e ∷ un) js ans → TokensHeld rs hs (change (named_queue e) submission_made ds) un js' ans
tokens_submission rs hs ds e un js js' ans long f names is has h =
    let cq : (q : ℕ) → (is_kind (deletes_cq q) rs e.cid && true) ≡ false = λ q. rw (names.deletes_cq q, eqb-true e.opcode CREATE_IO_SQ is) refl in
    record {
      submission = λ q. submits q (named_queue e == q) refl;
      completion = λ q. omega (arith, h.completion q, f.unmade (creates_cq q), f.done (deletes_cq q), ap one (cq q), ap one (controller_same (λ at. at.cq_there) false submission_made (named_queue e) ds (λ d ed. refl) q));
      there = λ q inside some. comes q inside (named_queue e == q) refl some;
    }
  where
    its : (q : ℕ) (b : Bool) → (named_queue e == q) ≡ b → (is_kind (creates_sq q) rs e.cid && true) ≡ b
    its q b at = grind arith

    submits : (q : ℕ) (b : Bool) → (named_queue e == q) ≡ b
        → one (not (gone_at (change (named_queue e) submission_made ds) q)) + (completed_well (deletes_sq q) rs ans + (one (knows_deleted_at hs q) + unmade (creates_sq q) rs un js' ans)) ≤ 1
    submits q true at = grind (arith, gone_at, true, eqb-true, unmade, creates_sq, small)
    submits q false at = grind (arith, unmade, creates_sq, controller_other)

    found : (q : ℕ) → q < length ds → (o : Option ServedQueue) → slice_get ds q ≡ o → (x : ServedQueue) × (slice_get ds q ≡ Some x)
    found q inside (Some x) e = (x, e)
    found q inside None e = absurd (outside ds q inside e)
      where
        outside : (ds : List ServedQueue) (q : ℕ) → q < length ds → slice_get ds q ≡ None → ⊥
        outside [] q inside e = omega (arith, inside)
        outside (d ∷ ds) zero inside e = absurd cc
        outside (d ∷ ds) (suc q) inside e = outside ds q (omega (arith, inside)) e

    comes : (q : ℕ) → q < length hs → (b : Bool) → (named_queue e == q) ≡ b → 0 < one (is_live_at hs q) + (unmade (deletes_sq q) rs un js' ans + done_well (creates_sq q) rs js' ans)
        → gone_at (change (named_queue e) submission_made ds) q ≡ false
    comes q inside true at some =
        let x = found q (omega (arith, inside, long)) (slice_get ds q) refl in
        subst (λ (z : ℕ). gone_at (change z submission_made ds) q ≡ false) (sym (eqb-true (named_queue e) q at)) (controller_here (λ (at : ServedQueue). is_absent at.state) true submission_made q ds false (λ d. refl) x.0 x.1)
    comes q inside false at some = grind (arith, controller_other, true, unmade, deletes_sq, creates_sq, false)

-- The controller after a reset: nothing waits there, and both sides fit.

-- Nothing waits

pub no_unfetched : (ds : List ServedQueue) (q : ℕ) → unfetched_at (a.reset_served_queues ds) q ≡ []
no_unfetched [] q = refl
no_unfetched (d ∷ ds) zero = refl
no_unfetched (d ∷ ds) (suc q) = rest ds q
  where
    rest : (ds : List ServedQueue) (q : ℕ) → unfetched_at (map (λ other. a.no_served_queue) ds) q ≡ []
    rest (d ∷ ds) (suc q) = rest ds q
    rest ds q = refl

pub no_completions_at : (ds : List ServedQueue) (q : ℕ) → completions_at (a.reset_served_queues ds) q ≡ []
no_completions_at [] q = refl
no_completions_at (d ∷ ds) zero = refl
no_completions_at (d ∷ ds) (suc q) = rest ds q
  where
    rest : (ds : List ServedQueue) (q : ℕ) → completions_at (map (λ other. a.no_served_queue) ds) q ≡ []
    rest (d ∷ ds) (suc q) = rest ds q
    rest ds q = refl

-- Queue by queue

-- the halves of queue 0 are whole
pub record AreAdminHalves (n : ℕ) (hs : List HostQueue) : Type 0 where
  pub sub : (x : HostQueue) → slice_get hs 0 ≡ Some x → length x.sq_pages ≡ half_pages n Submission
  pub comp : (x : HostQueue) → slice_get hs 0 ≡ Some x → length x.cq_pages ≡ half_pages n Completion

pub same_length : (n : ℕ) (hs : List HostQueue) (ds : List ServedQueue) → QueuesFit n hs ds → length ds ≡ length hs
same_length n [] [] p = refl
same_length n (x ∷ hs) (d ∷ ds) p = ap suc (same_length n hs ds p.1)
same_length n hs ds p = absurd p

pub live_is : (st : HostState) → is_live st ≡ true → st ≡ Live
live_is st e = grind arith

pub halves_fit : (n : ℕ) (hs : List HostQueue) (ds : List ServedQueue) → QueuesFit n hs ds → AdminLives hs → AreAdminHalves n hs
halves_fit n [] ds p lives = record { sub = λ x e. absurd cc; comp = λ x e. absurd cc }
halves_fit n (y ∷ hs) [] p lives = absurd p
halves_fit n (y ∷ hs) (d ∷ ds) p lives = record {
  sub = λ x e. let same : y ≡ x = cc in subst (λ (z : HostQueue). length z.sq_pages ≡ half_pages n Submission) same (p.0.sub (ap has_sq (live_is y.state lives)));
  comp = λ x e. let same : y ≡ x = cc in subst (λ (z : HostQueue). length z.cq_pages ≡ half_pages n Completion) same (p.0.comp (ap has_cq (live_is y.state lives)));
}

pub reset_pairs : (n : ℕ) (hs : List HostQueue) (ds : List ServedQueue) → length ds ≡ length hs → AreAdminHalves n hs → QueuesFit n (a.reset_queues hs) (a.reset_served_queues ds)
reset_pairs n [] [] same whole = tt
reset_pairs n [] (d ∷ ds) same whole = absurd cc
reset_pairs n (x ∷ hs) [] same whole = absurd cc
reset_pairs n (x ∷ hs) (d ∷ ds) same whole = (
  record {
    sub = λ o. whole.sub x refl;
    comp = λ o. whole.comp x refl;
    half = λ o. refl;
    emptied = λ o. refl;
    unfetched = λ o. refl;
    completions = λ o. refl;
    fresh = λ o. refl;
  },
  rest hs ds (omega (arith, same)),
)
  where
    rest : (hs : List HostQueue) (ds : List ServedQueue) → length ds ≡ length hs → QueuesFit n (map (λ other. a.no_queue) hs) (map (λ other. a.no_served_queue) ds)
    rest [] [] same = tt
    rest (x ∷ hs) (d ∷ ds) same = (
      record {
        sub = λ o. absurd (true≢false (sym o));
        comp = λ o. absurd (true≢false (sym o));
        half = λ o. absurd (true≢false o);
        emptied = λ o. refl;
        unfetched = λ o. refl;
        completions = λ o. refl;
        fresh = λ o. refl;
      },
      rest hs ds (omega (arith, same)),
    )
    rest hs ds same = absurd cc

-- The tokens of what is deleted and made

absent_past : (ds : List ServedQueue) (q : ℕ) → is_absent_at (map (λ other. a.no_served_queue) ds) q ≡ true
absent_past (d ∷ ds) (suc q) = absent_past ds q
absent_past ds q = refl

no_completions_past : (ds : List ServedQueue) (q : ℕ) → has_completions_at (map (λ other. a.no_served_queue) ds) q ≡ false
no_completions_past (d ∷ ds) (suc q) = no_completions_past ds q
no_completions_past ds q = refl

not_live_past : (hs : List HostQueue) (q : ℕ) → is_live_at (map (λ other. a.no_queue) hs) q ≡ false
not_live_past (x ∷ hs) (suc q) = not_live_past hs q
not_live_past hs q = refl

pub reset_tokens : (rs : List Record) (hs : List HostQueue) (ds : List ServedQueue) → length ds ≡ length hs → TokensHeld rs (a.reset_queues hs) (a.reset_served_queues ds) [] [] []
reset_tokens rs hs ds same = record { submission = submission hs ds; completion = completion hs ds; there = there hs ds same }
  where
    submission : (hs : List HostQueue) (ds : List ServedQueue) (q : ℕ) → one (not (is_absent_at (a.reset_served_queues ds) q)) + (0 + (one (knows_deleted_at (a.reset_queues hs) q) + 0)) ≤ 1
    submission hs [] q = omega (arith, small (knows_deleted_at (a.reset_queues hs) q))
    submission [] (d ∷ ds) zero = omega arith
    submission (x ∷ hs) (d ∷ ds) zero = omega arith
    submission hs (d ∷ ds) (suc q) = omega (arith, ap (λ b. one (not b)) (absent_past ds q), small (knows_deleted_at (a.reset_queues hs) (suc q)))

    completion : (hs : List HostQueue) (ds : List ServedQueue) (q : ℕ) → one (has_completions_at (a.reset_served_queues ds) q) + (0 + (one (is_gone_at (a.reset_queues hs) q) + 0)) ≤ 1
    completion hs [] q = omega (arith, small (is_gone_at (a.reset_queues hs) q))
    completion [] (d ∷ ds) zero = omega arith
    completion (x ∷ hs) (d ∷ ds) zero = omega arith
    completion hs (d ∷ ds) (suc q) = omega (arith, ap one (no_completions_past ds q), small (is_gone_at (a.reset_queues hs) (suc q)))

    there : (hs : List HostQueue) (ds : List ServedQueue) → length ds ≡ length hs → (q : ℕ) → q < length (a.reset_queues hs) → 0 < one (is_live_at (a.reset_queues hs) q) + (0 + 0) → is_absent_at (a.reset_served_queues ds) q ≡ false
    there [] ds same q inside some = absurd (omega (arith, inside))
    there (x ∷ hs) [] same q inside some = absurd cc
    there (x ∷ hs) (d ∷ ds) same zero inside some = refl
    there (x ∷ hs) (d ∷ ds) same (suc q) inside some = absurd (omega (arith, some, ap one (not_live_past hs q)))

-- Commands

-- what is said of a command that is not submitted
abbrev pub IsSizedIfIo : Record → Type 0
IsSizedIfIo r = (request : Request) → r.work ≡ Io request → IsSized r request

stands_quiet : (m : Pages) (ds : List ServedQueue) (js : List Job) (r : Record) (w : Work) → is_submitted r.phase ≡ false → ((request : Request) → w ≡ Io request → IsSized r request) → StandsAs m ds js r w
stands_quiet m ds js r (Io request) quiet sized = (sized request refl, λ sub. absurd (true≢false (sym sub ∙ quiet)))
stands_quiet m ds js r (Management adm) quiet sized = tt

pub sized_of : (m : Pages) (ds : List ServedQueue) (js : List Job) (r : Record) → CommandStands m ds js r → IsSizedIfIo r
sized_of m ds js r stands request w = (subst (λ (x : Work). StandsAs m ds js r x) w stands).0

pub reset_command : (m : Pages) (ds : List ServedQueue) (js : List Job) (r : Record) → IsSizedIfIo r → CommandStands m ds js (a.lost_anywhere r)
reset_command m ds js r sized =
    lost_by (λ (x : Record). CommandStands m ds js x) r (λ quiet. stands_quiet m ds js r r.work quiet sized)
    (λ sub. stands_quiet m ds js (a.aborted r) r.work refl
    (λ request w. let is = sized request w in record { fits = is.fits; good = is.good; blocks = is.blocks; size = is.size; pages = is.pages }))

pub reset_places : (hs : List HostQueue) (rs : List Record) (ds : List ServedQueue) → CommandsStandOnce hs rs (a.reset_served_queues ds) []
reset_places hs rs ds q w = grind (arith, total, no_completions_at, no_unfetched)

-- Heads

no_service_past : (hs : List HostQueue) (q : ℕ) (queue : HostQueue) → slice_get (map (λ other. a.no_queue) hs) q ≡ Some queue → in_service queue.state ≡ false
no_service_past [] q queue e = absurd cc
no_service_past (x ∷ hs) zero queue e = let same : a.no_queue ≡ queue = cc in ap (λ (y : HostQueue). in_service y.state) (sym same)
no_service_past (x ∷ hs) (suc q) queue e = no_service_past hs q queue e

pub reset_heads : (n : ℕ) (hs : List HostQueue) (rs : List Record) (ds : List ServedQueue) → AllByRecursion (λ r. r.cid < n - 1) rs → AreHeadsBehind n (a.reset_queues hs) rs (a.reset_served_queues ds)
reset_heads n hs rs ds ids = record { ids = ids; behind = behind hs }
  where
    behind : (hs : List HostQueue) (q : ℕ) (queue : HostQueue) → slice_get (a.reset_queues hs) q ≡ Some queue → in_service queue.state ≡ true → IsHeadBehind n (sent_count q rs) queue (completions_at (a.reset_served_queues ds) q)
    behind [] q queue e serves = absurd cc
    behind (x ∷ hs) zero queue e serves =
        let same : a.reset_admin x ≡ queue = cc in
        subst (λ ans. IsHeadBehind n (sent_count 0 rs) queue ans) (sym (no_completions_at ds 0))
        (subst (λ y. IsHeadBehind n (sent_count 0 rs) y []) same (record { known = (omega arith); completions = tt }))
    behind (x ∷ hs) (suc q) queue e serves = absurd (true≢false (sym serves ∙ no_service_past hs q queue e))
