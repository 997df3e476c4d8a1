-- Members of lists, and what the host provided.
use Rattle.machine_model.specs.After as a
use Rattle.machine_model.specs.Events as events
use Rattle.std.proofs.Common.{◌≡◌, ℕ, zero, suc, ◌+◌, ◌<◌, ◌≤◌, ◌==◌, Bool, true, false, ◌&&◌, Some, List, [], ◌∷◌, ◌++◌, map, filter, find, slice_get, drop, if◌then◌else◌, refl, sym, ◌∙◌, arith, subst, not, slice_index, ap, eqb-true, eq-eqb, inl, inr, Option, None, length}
use Rattle.std.{proofs.lemmas.{Bool.{true≢false, eqb-false, cases_Bool, not-false}, List.length-map}, specs.{List.AllByRecursion, Option.option_map_or}}
use Rattle.machine_model.proofs.{Counting.{get_changed, get_other, all_changed}, Headline.{fits_pool, holds_at_opening}}
use Rattle.machine_model.proofs.Kept.{completions_awaited, submissions_awaited, asked_as_heard, making_cq_as_heard, making_sq_as_heard, ring_at, alone_has_no_sq, live_in_use, reaped_in_use}
use Rattle.machine_model.proofs.Moves.{host_moves, drafted_record, sent_record, half_from, creates_cq, creates_sq, grants_cq, grants_sq}
use Rattle.machine_model.proofs.Owned.{HoldsPart, Awaited, awaits, at_found, at_changed, all_reset, lost_keeps, holds_from_sound, all_reset_queues, lost_by}
use Rattle.machine_model.proofs.{Sound.{creations_event, still_live, host_event}, Steps.{Accepts, IsKept, each_step, each_run, unrefused}, TokensKept.live_is}
use Rattle.machine_model.specs.{Always.{LieAt, NamesItsHalf, LieTogether, HasHalves, IsProvided, IsHostProvided}, Claims.{CreationsFit, AdminLives}}
use Rattle.machine_model.specs.{Events.{Event, Reply}, Opening.queues_from}
use Rattle.machine_model.specs.Refusals.{is_submitted, is_making_cq, is_making_sq, creates_cq_of, creates_sq_of, refusal_of, host_queue, in_state, has_sq, has_cq, is_live, is_reaped, is_making}
use Rattle.machine_model.specs.{State.{Record, is_at, with_record, State, HostQueue, without_record}, Step.{host_part, IsController, HostPart, IsNewIdentifier}}
use Rattle.machine_model.specs.{Weights.{one, total, here}, Work.Work, declared.words.HostState.HostState}
use Rattle.machine_model.specs.declared.words.{HostState.TheVariants.{Live, Deleting, Retired, MakingCq, HalfMade, MakingSq}, Phase.TheVariants.Held}
use Rattle.machine_model.specs.declared.words.Work.TheVariants.{Io, Management}
use Rattle.admin_commands.specs.declared.AdminKind.{AdminKind, TheVariants.{Abort, DeleteSq, DeleteCq, CreateCq, CreateSq}}
use Rattle.entry_codec.specs.{Status.is_success, declared.{completion.ComEntry.ComEntry, status.TheConstants.Status.ABORTED_SQ_DELETION}}
use Rattle.io_commands.specs.{Asked.Request, Requests.{data_count, joined_parts}, Values.numbers_of}
use Rattle.page_ledger.specs.Owners.{pages_from}
use Rattle.page_memory.specs.declared.page.Half.{Half, TheVariants.{Submission, Completion}}
use Rattle.queue_pair.specs.{Members.change, Memory.half_pages, Rings.{HostRing, next_tail, next_head, knowing}}
use Rattle.two_sides.specs.Provided.{each_step_provides, every_run_provides}
use Rattle.sgl_chain.specs.Chains.{pages_needed}
use Rattle.page_memory.proofs.Lists.{all-at, all-found, all-filter, some_is}
pub use Rattle.machine_model.specs.Weights.{sent}

-- Members of lists, told by sums: what is in a list counts at most as much as all of it, whatever is counted.

abbrev pub In : {A : Type 0} → A → List A → Type 0
In {A} x xs = (w : A → ℕ) → w x ≤ total w xs

pub in_first : {A : Type 0} (x : A) (xs : List A) → In x (x ∷ xs)
in_first x xs w = omega arith

pub in_rest : {A : Type 0} (x y : A) (xs : List A) → In x xs → In x (y ∷ xs)
in_rest x y xs h w = omega (arith, h w)

-- each member may be taken for one
pub all_in : {A : Type 0} (P Q : A → Type 0) (xs : List A) → ((x : A) → In x xs → P x → Q x) → AllByRecursion P xs → AllByRecursion Q xs
all_in P Q [] f all = tt
all_in P Q (x ∷ xs) f all = (f x (in_first x xs) all.0, all_in P Q xs (λ y h p. f y (in_rest y x xs h) p) all.1)

pub all_of : {A : Type 0} (Q : A → Type 0) (xs : List A) → ((x : A) → In x xs → Q x) → AllByRecursion Q xs
all_of Q [] f = tt
all_of Q (x ∷ xs) f = (f x (in_first x xs), all_of Q xs (λ y h. f y (in_rest y x xs h)))

pub in_at : {A : Type 0} (xs : List A) (k : ℕ) (x : A) → slice_get xs k ≡ Some x → In x xs
in_at [] k x e = absurd cc
in_at (y ∷ xs) zero x e = let same : y ≡ x = cc in subst (λ z. In z (y ∷ xs)) same (in_first y xs)
in_at (y ∷ xs) (suc k) x e = in_rest x y xs (in_at xs k x e)

pub in_found : {A : Type 0} (test : A → Bool) (xs : List A) (x : A) → find test xs ≡ Some x → In x xs
in_found test [] x e = absurd cc
in_found test (y ∷ xs) x e = by_test (test y) e (in_found test xs x)
  where
    by_test : (b : Bool) → (if b then Some y else find test xs) ≡ Some x → (find test xs ≡ Some x → In x xs) → In x (y ∷ xs)
    by_test true e ih = let same : y ≡ x = cc in subst (λ z. In z (y ∷ xs)) same (in_first y xs)
    by_test false e ih = in_rest x y xs (ih e)

-- each member by its index
pub all_indexed : {A : Type 0} (P Q : A → Type 0) (xs : List A) → ((k : ℕ) (x : A) → slice_get xs k ≡ Some x → P x → Q x) → AllByRecursion P xs → AllByRecursion Q xs
all_indexed P Q [] f all = tt
all_indexed P Q (x ∷ xs) f all = (f 0 x refl all.0, all_indexed P Q xs (λ k y e p. f (suc k) y e p) all.1)

-- with what else holds of all
pub all_in_both : {A : Type 0} (P X Q : A → Type 0) (xs : List A) → ((x : A) → In x xs → X x → P x → Q x) → AllByRecursion X xs → AllByRecursion P xs → AllByRecursion Q xs
all_in_both P X Q [] f also all = tt
all_in_both P X Q (x ∷ xs) f also all = (f x (in_first x xs) also.0 all.0, all_in_both P X Q xs (λ y h x' p. f y (in_rest y x xs h) x' p) also.1 all.1)

-- What holds of all, as a list changes

pub all_append : {A : Type 0} (P : A → Type 0) (xs ys : List A) → AllByRecursion P xs → AllByRecursion P ys → AllByRecursion P (xs ++ ys)
all_append P [] ys a b = b
all_append P (x ∷ xs) ys a b = (a.0, all_append P xs ys a.1 b)

pub all_drop_one : {A : Type 0} (P : A → Type 0) (xs : List A) → AllByRecursion P xs → AllByRecursion P (drop 1 xs)
all_drop_one P [] all = tt
all_drop_one P (x ∷ xs) all = all.1

pub all_map : {A : Type 0} (P Q : A → Type 0) (f : A → A) (xs : List A) → ((x : A) → P x → Q (f x)) → AllByRecursion P xs → AllByRecursion Q (map f xs)
all_map P Q f [] step all = tt
all_map P Q f (x ∷ xs) step all = (step x all.0, all_map P Q f xs step all.1)

-- The record of a command

-- where one passes a test, it is the only one
pub only_found : {A : Type 0} (test : A → Bool) (xs : List A) (x0 : A) → find test xs ≡ Some x0 → total (λ x. one (test x)) xs < 2 → AllByRecursion (λ x. test x ≡ true → x ≡ x0) xs
only_found {A} test [] x0 e once = tt
only_found {A} test (r ∷ rs) x0 e once = by_test (test r) refl e once (λ e' o. only_found test rs x0 e' o)
  where
    none : (rs : List A) → total (λ x. one (test x)) rs ≡ 0 → AllByRecursion (λ x. test x ≡ true → x ≡ x0) rs
    none [] n = tt
    none (x ∷ rs) n = ((λ t. absurd (some x t n)), none rs (omega (arith, n)))
      where
        some : (x : A) → test x ≡ true → one (test x) + total (λ x. one (test x)) rs ≡ 0 → ⊥
        some x t n = let n' : one true + total (λ x. one (test x)) rs ≡ 0 = rw t at n in omega (arith, n')

    by_test : (b : Bool) → test r ≡ b → (if b then Some r else find test rs) ≡ Some x0 → one b + total (λ x. one (test x)) rs < 2
        → (find test rs ≡ Some x0 → total (λ x. one (test x)) rs < 2 → AllByRecursion (λ x. test x ≡ true → x ≡ x0) rs) → AllByRecursion (λ x. test x ≡ true → x ≡ x0) (r ∷ rs)
    by_test true t e once ih = ((λ z. some_is e), none rs (omega (arith, once)))
    by_test false t e once ih = ((λ z. absurd (true≢false (sym z ∙ t))), ih e (omega (arith, once)))

-- where its identifier is outstanding once, a record is the only one
pub is_found : (q cid : ℕ) (rs : List Record) (r0 : Record) → find (is_at q cid) rs ≡ Some r0 → total (here q cid) rs < 2 → AllByRecursion (λ r. is_at q cid r ≡ true → r ≡ r0) rs
is_found q cid rs r0 e once = only_found (is_at q cid) rs r0 e once

pub all_with : (P Q : Record → Type 0) (q cid : ℕ) (f : Record → Record) (rs : List Record) (r0 : Record) → find (is_at q cid) rs ≡ Some r0 → total (here q cid) rs < 2
    → ((r : Record) → is_at q cid r ≡ false → P r → Q r) → (P r0 → Q (f r0)) → AllByRecursion P rs → AllByRecursion Q (with_record q cid f rs)
all_with P Q q cid f rs r0 e once others own all = along_records rs (is_found q cid rs r0 e once) all
  where
    one_of : (r : Record) (b : Bool) → is_at q cid r ≡ b → (is_at q cid r ≡ true → r ≡ r0) → P r → Q (if b then f r else r)
    one_of r true t same p = subst (λ x. Q (f x)) (sym (same t)) (own (subst P (same t) p))
    one_of r false t same p = others r t p

    along_records : (xs : List Record) → AllByRecursion (λ r. is_at q cid r ≡ true → r ≡ r0) xs → AllByRecursion P xs → AllByRecursion Q (with_record q cid f xs)
    along_records [] same all = tt
    along_records (x ∷ xs) same all = (one_of x (is_at q cid x) refl same.0 all.0, along_records xs same.1 all.1)

-- where a submitted command of an identifier counts, its record is found
pub sent_found : (q cid : ℕ) (rs : List Record) → 0 < total (sent q (λ c. one (c == cid))) rs → total (here q cid) rs < 2 → (r : Record) × (find (is_at q cid) rs ≡ Some r) × (is_submitted r.phase ≡ true)
sent_found q cid [] some once = absurd (omega (arith, some))
sent_found q cid (r ∷ rs) some once = record_found (r.q == q) (r.cid == cid) (is_submitted r.phase) refl some once (λ s o. sent_found q cid rs s o)
  where
    less : (rs : List Record) → total (sent q (λ c. one (c == cid))) rs ≤ total (here q cid) rs
    less [] = omega arith
    less (x ∷ rs) = omega (arith, less rs, each (x.q == q) (is_submitted x.phase) (x.cid == cid))
      where
        each : (a b c : Bool) → (if a && b then one c else 0) ≤ one (a && c)
        each a b c = grind arith

    record_found : (a b c : Bool) → is_submitted r.phase ≡ c → 0 < (if a && c then one b else 0) + total (sent q (λ c. one (c == cid))) rs → one (a && b) + total (here q cid) rs < 2
        → (0 < total (sent q (λ c. one (c == cid))) rs → total (here q cid) rs < 2 → (x : Record) × (find (is_at q cid) rs ≡ Some x) × (is_submitted x.phase ≡ true))
        → (x : Record) × ((if a && b then Some r else find (is_at q cid) rs) ≡ Some x) × (is_submitted x.phase ≡ true)
    record_found true true true e some once ih = (r, refl, e)
    record_found true true false e some once ih = absurd (omega (arith, some, once, less rs))
    record_found true false c e some once ih = ih (omega (arith, some, nothing c)) (omega (arith, once))
      where
        nothing : (c : Bool) → (if true && c then one false else 0) ≡ 0
        nothing c = grind arith
    record_found false b c e some once ih = ih (omega (arith, some)) (omega (arith, once))

-- Every event of the host leaves each creation that is outstanding with the name of the half that was granted for it.

abbrev pub Names : ℕ → List HostQueue → Record → Type 0
Names n hs r = NamesItsHalf n hs r.work

abbrev pub NamesAll : ℕ → List HostQueue → List Record → Type 0
NamesAll n hs rs = AllByRecursion (Names n hs) rs

-- Queues that change

-- what a queue becomes has the pages that a creation of its half names
pub record LeavesNamed (k : ℕ) (f : HostQueue → HostQueue) (hs : List HostQueue) (w : Work) : Type 0 where
  pub cq : creates_cq_of k w ≡ true → (x : HostQueue) → slice_get hs k ≡ Some x → (f x).cq_pages ≡ x.cq_pages
  pub sq : creates_sq_of k w ≡ true → (x : HostQueue) → slice_get hs k ≡ Some x → (f x).sq_pages ≡ x.sq_pages

-- the queue of a half that is named, and what it has of it
named_queue : (n : ℕ) (half : Half) (pages : HostQueue → List ℕ) (k q : ℕ) (f : HostQueue → HostQueue) (hs : List HostQueue) (base : ℕ)
    → ((k ≡ q) → (x : HostQueue) → slice_get hs k ≡ Some x → pages (f x) ≡ pages x)
    → (queue : HostQueue) × (slice_get hs q ≡ Some queue) × LieAt n half base (pages queue)
    → (queue : HostQueue) × (slice_get (change k f hs) q ≡ Some queue) × LieAt n half base (pages queue)
named_queue n half pages k q f hs base same (queue, at, lies) = elim (cases_Bool (k == q)) [
  | inl e ↦
      let is : k ≡ q = eqb-true k q e in
      let here : slice_get hs k ≡ Some queue = subst (λ (z : ℕ). slice_get hs z ≡ Some queue) (sym is) at in
      (f queue, subst (λ (z : ℕ). slice_get (change k f hs) z ≡ Some (f queue)) is (get_changed k f hs queue here), subst (LieAt n half base) (sym (same is queue here)) lies)
  | inr e ↦ (queue, get_other k f hs q (eqb-false k q e) ∙ at, lies)
]

names_changed : (n k : ℕ) (f : HostQueue → HostQueue) (hs : List HostQueue) (w : Work) → LeavesNamed k f hs w → NamesItsHalf n hs w → NamesItsHalf n (change k f hs) w
names_changed n k f hs (Management (CreateCq q size base vector)) leaves h = let x = named_queue n Completion (λ x. x.cq_pages) k q f hs base (λ same x e. leaves.cq (eq-eqb q k (sym same)) x e) (h.1, h.2, h.3) in (h.0, x.0, x.1, x.2)
names_changed n k f hs (Management (CreateSq q size base)) leaves h = let x = named_queue n Submission (λ x. x.sq_pages) k q f hs base (λ same x e. leaves.sq (eq-eqb q k (sym same)) x e) (h.1, h.2, h.3) in (h.0, x.0, x.1, x.2)
names_changed n k f hs work leaves h = tt

names_queues : (n k : ℕ) (f : HostQueue → HostQueue) (hs : List HostQueue) (rs : List Record) → ((r : Record) → In r rs → LeavesNamed k f hs r.work) → NamesAll n hs rs → NamesAll n (change k f hs) rs
names_queues n k f hs rs leaves all = all_in (Names n hs) (Names n (change k f hs)) rs (λ r within h. names_changed n k f hs r.work (leaves r within) h) all

-- where no page changes
names_still : (n k : ℕ) (f : HostQueue → HostQueue) (hs : List HostQueue) (rs : List Record) → ((x : HostQueue) → (f x).cq_pages ≡ x.cq_pages) → ((x : HostQueue) → (f x).sq_pages ≡ x.sq_pages) → NamesAll n hs rs → NamesAll n (change k f hs) rs
names_still n k f hs rs cq sq all = names_queues n k f hs rs (λ r within. record { cq = λ is x e. cq x; sq = λ is x e. sq x }) all

names_ring : (n k : ℕ) (g : HostRing → HostRing) (hs : List HostQueue) (rs : List Record) → NamesAll n hs rs → NamesAll n (change k (λ x. record x { ring = g x.ring }) hs) rs
names_ring n k g hs rs all = names_still n k (λ x. record x { ring = g x.ring }) hs rs (λ x. refl) (λ x. refl) all

-- no creation of a half is outstanding whose queue does not wait for it, before or after a change
none_before : (of : ℕ → Work → Bool) (test : HostState → Bool) (rs : List Record) (hs : List HostQueue) (k : ℕ) (x : HostQueue) (r : Record) → Awaited of test rs hs → slice_get hs k ≡ Some x → test x.state ≡ false → In r rs → of k r.work ≡ true → ⊥
none_before of test rs hs k x r h at quiet within is = omega (arith, within (awaits of k), h k, ap one is, ap one (at_found test hs k x at), ap one quiet)

none_after : (of : ℕ → Work → Bool) (test : HostState → Bool) (rs : List Record) (k : ℕ) (f : HostQueue → HostQueue) (hs : List HostQueue) (x : HostQueue) (r : Record) → Awaited of test rs (change k f hs) → slice_get hs k ≡ Some x → test (f x).state ≡ false
    → In r rs → of k r.work ≡ true → ⊥
none_after of test rs k f hs x r h at quiet within is = omega (arith, within (awaits of k), h k, ap one is, ap one (at_changed test f k hs x at), ap one quiet)

-- The half that is granted

lies_at : (n : ℕ) (half : Half) (first : ℕ) → LieAt n half (a.base_of (pages_from first (half_pages n half))) (pages_from first (half_pages n half))
lies_at n half first =
    let begins_at_first : (count : ℕ) → pages_from first count ≡ pages_from (slice_index (pages_from first count) 0) count = λ count. grind arith in
    record { first = slice_index (pages_from first (half_pages n half)) 0; begins = refl; consecutive = begins_at_first (half_pages n half) }

-- Each event

abbrev CreationsAwaited : State → Type 0
CreationsAwaited s = Awaited creates_cq_of is_making_cq s.host.records s.host.queues × Awaited creates_sq_of is_making_sq s.host.records s.host.queues

abbrev NamesS : State → Type 0
NamesS s = NamesAll s.entries s.host.queues s.host.records

pub names_event : (s : State) (e : Event) (reply : Reply) → Accepts s e reply → IsController e ≡ false → HoldsPart (host_part s) → NamesS s → NamesS (a.after s e reply)
names_event s e reply ok c holds h =
    let without : (q cid : ℕ) → NamesAll s.entries s.host.queues (without_record q cid s.host.records) = λ q cid.
    all-filter (Names s.entries s.host.queues) (λ r. not (is_at q cid r)) s.host.records h in
    let began : (new : Record) (hs : List HostQueue) → Names s.entries hs new → NamesAll s.entries hs s.host.records → NamesAll s.entries hs (s.host.records ++ new ∷ []) = λ new hs own all.
    all_append (Names s.entries hs) s.host.records (new ∷ []) all (own, tt) in
    let told : (q : ℕ) (e : ComEntry) (rs : List Record) → NamesAll s.entries s.host.queues rs → NamesAll s.entries (a.heard q e s).host.queues rs = λ q e rs all.
    names_ring s.entries q (knowing e.sqhd) (change q (λ x. record x { ring = next_head s.entries x.ring }) s.host.queues) rs (names_ring s.entries q (next_head s.entries) s.host.queues rs all) in
    let sent : (adm : AdminKind) (id : ℕ) (hs : List HostQueue) → NamesItsHalf s.entries hs (Management adm) → NamesAll s.entries hs s.host.records
    → NamesAll s.entries (change 0 (λ x. record x { ring = next_tail s.entries x.ring }) hs) (s.host.records ++ sent_record adm id ∷ []) = λ adm id hs own all.
    names_ring s.entries 0 (next_tail s.entries) hs (s.host.records ++ sent_record adm id ∷ []) (began (sent_record adm id) hs own all) in
    -- a completion half is given back only where none is being made
    let freed : (q cid : ℕ) (e : ComEntry) (k : ℕ) → Awaited creates_cq_of is_making_cq (without_record q cid s.host.records) (change k a.gone (a.heard q e s).host.queues)
    → NamesAll s.entries (change k a.gone (a.heard q e s).host.queues) (without_record q cid s.host.records) = λ q cid e k fit.
    names_queues s.entries k a.gone (a.heard q e s).host.queues (without_record q cid s.host.records)
    (λ r within. record {
      cq = λ is x ex. absurd (none_after creates_cq_of is_making_cq (without_record q cid s.host.records) k a.gone (a.heard q e s).host.queues x r fit ex refl within is);
      sq = λ is x ex. refl;
    }) (told q e (without_record q cid s.host.records) (without q cid)) in
    let fits : CreationsFit (a.after s e reply).host = creations_event s e reply ok c holds in
    host_moves (λ (e : Event) (reply : Reply) (t : State). CreationsAwaited t → NamesS t) s e reply ok c
    (record {
      reserves = λ q request d none is fit. began (drafted_record d) s.host.queues tt h;
      submits = λ d entry r none built its live fit. names_ring s.entries d.q (next_tail s.entries) s.host.queues (with_record d.q d.cid a.submitted s.host.records) (with d.q d.cid a.submitted (λ r p. p));
      cancels = λ d r its fit. without d.q d.cid;
      rings = λ q none fit. h;
      rests = λ q is fit. h;
      rejects = λ q why is fit. names_ring s.entries q (next_head s.entries) s.host.queues s.host.records h;
      tells = λ q cid st what e r request t heard w fit. told q e (with_record q cid (a.held st e.hints) s.host.records) (with q cid (a.held st e.hints) (λ r' p. p));
      hears = λ q cid st what e r adm t heard w quiet unmade fit. told q e (without_record q cid s.host.records) (without q cid);
      notes = λ q cid st what e r k t heard w fit.
          names_still s.entries k (λ queue. record queue { state = if is_success st then Deleting true else Live }) (a.heard q e s).host.queues (without_record q cid s.host.records) (λ x. refl) (λ x. refl) (told q e (without_record q cid s.host.records) (without q cid));
      frees = λ q cid st what e r k queue t heard w at alone good fit. freed q cid e k fit.0;
      makes_cq = λ q cid st what e r k n base vector t heard w good fit.
          names_still s.entries k a.half_made (a.heard q e s).host.queues (without_record q cid s.host.records) (λ x. refl) (λ x. refl) (told q e (without_record q cid s.host.records) (without q cid));
      unmakes_cq = λ q cid st what e r k n base vector queue t heard w at bad fit. freed q cid e k fit.0;
      makes_sq = λ q cid st what e r k n base t heard w good fit.
          names_still s.entries k a.live (a.heard q e s).host.queues (without_record q cid s.host.records) (λ x. refl) (λ x. refl) (told q e (without_record q cid s.host.records) (without q cid));
      unmakes_sq = λ q cid st what e r k n base queue t heard w at bad fit.
          names_queues s.entries k a.unmade_sq (a.heard q e s).host.queues (without_record q cid s.host.records)
          (λ r' within. record {
            cq = λ is x ex. refl;
            sq = λ is x ex. absurd (none_after creates_sq_of is_making_sq (without_record q cid s.host.records) k a.unmade_sq (a.heard q e s).host.queues x r' fit.1 ex refl within is);
          }) (told q e (without_record q cid s.host.records) (without q cid));
      collects = λ q cid r f at held is fit. with q cid a.collected (λ r' p. p);
      releases = λ f r its fit. without f.q f.cid;
      aborts = λ q cid id none new fit. sent (Abort q cid) id s.host.queues tt h;
      asks = λ q id queue none new live fit.
          names_still s.entries q a.deleting (change 0 (λ x. record x { ring = next_tail s.entries x.ring }) s.host.queues) (s.host.records ++ sent_record (DeleteSq q) id ∷ []) (λ x. refl) (λ x. refl) (sent (DeleteSq q) id s.host.queues tt h);
      drops = λ q id none new fit. sent (DeleteCq q) id s.host.queues tt h;
      creates_cqs = λ q vector id first queue none new granted fit.
          let with_half = a.making_cq (half_from Completion first s) in
          sent (creates_cq q vector first s) id (grants_cq q first s).host.queues (refl, with_half queue, get_changed q with_half s.host.queues queue granted.there, lies_at s.entries Completion first)
          (names_queues s.entries q with_half s.host.queues s.host.records
          (λ r within. record {
            cq = λ is x ex. absurd (none_before creates_cq_of is_making_cq s.host.records s.host.queues q queue r (completions_awaited s.host holds.creations) granted.there (ap is_making_cq granted.state) within is);
            sq = λ is x ex. refl;
          }) h);
      creates_sqs = λ q id first queue none new granted fit.
          let with_half = a.making_sq (half_from Submission first s) in
          sent (creates_sq q first s) id (grants_sq q first s).host.queues (refl, with_half queue, get_changed q with_half s.host.queues queue granted.there, lies_at s.entries Submission first)
          (names_queues s.entries q with_half s.host.queues s.host.records
          (λ r within. record {
            cq = λ is x ex. refl;
            sq = λ is x ex. absurd (none_before creates_sq_of is_making_sq s.host.records s.host.queues q queue r (submissions_awaited s.host holds.creations) granted.there (ap is_making_sq granted.state) within is);
          }) h);
      retires = λ q queue none at deleted fit.
          names_queues s.entries q a.retired s.host.queues (map (a.lost q) s.host.records)
          (λ r within. record {
            cq = λ is x ex. refl;
            sq = λ is x ex. absurd (none_after creates_sq_of is_making_sq (map (a.lost q) s.host.records) q a.retired s.host.queues x r fit.1 ex refl within is);
          })
          (all_map (Names s.entries s.host.queues) (Names s.entries s.host.queues) (a.lost q) s.host.records (λ r p. lose r ((r.q == q) && is_submitted r.phase) p) h);
      forges = λ q slot bytes queue none at fit. h;
      resets = λ fit. all_reset (Names s.entries s.host.queues) (Names s.entries (a.reset_queues s.host.queues)) (λ r io n. names_io (a.lost_anywhere r).work (ap a.is_of_io (lost_keeps.work r) ∙ io)) s.host.records h;
    })
    (completions_awaited (a.after s e reply).host fits, submissions_awaited (a.after s e reply).host fits)
  where
    names_io : (w : Work) → a.is_of_io w ≡ true → NamesItsHalf s.entries (a.reset_queues s.host.queues) w
    names_io (Io request) io = tt
    names_io (Management adm) io = absurd (true≢false (sym io))

    with : (q cid : ℕ) (f : Record → Record) → ((r : Record) → Names s.entries s.host.queues r → Names s.entries s.host.queues (f r)) → NamesAll s.entries s.host.queues (with_record q cid f s.host.records)
    with q cid f each = all_map (Names s.entries s.host.queues) (Names s.entries s.host.queues) (λ r. if is_at q cid r then f r else r) s.host.records (λ r p. by_match r (is_at q cid r) p) h
      where
        by_match : (r : Record) (b : Bool) → Names s.entries s.host.queues r → Names s.entries s.host.queues (if b then f r else r)
        by_match r true p = each r p
        by_match r false p = p

    lose : (r : Record) (b : Bool) → Names s.entries s.host.queues r → Names s.entries s.host.queues (if b then a.aborted r else r)
    lose r true p = p
    lose r false p = p

-- Every step leaves the host's queues their halves, and its commands their pages.

abbrev ProvidedS : State → Type 0
ProvidedS s = (IsHostProvided (host_part s).entries (host_part s).segment (host_part s).host)

-- Records that change

all_with_provided : (n g q cid : ℕ) (f : Record → Record) → ((r : Record) → IsProvided n g r → IsProvided n g (f r)) → (rs : List Record) → AllByRecursion (IsProvided n g) rs → AllByRecursion (IsProvided n g) (with_record q cid f rs)
all_with_provided n g q cid f each rs all = all_map (IsProvided n g) (IsProvided n g) (λ r. if is_at q cid r then f r else r) rs (λ r h. by_match r (is_at q cid r) h) all
  where
    by_match : (r : Record) (b : Bool) → IsProvided n g r → IsProvided n g (if b then f r else r)
    by_match r true h = each r h
    by_match r false h = h

-- Queues that change

-- rings move only where both are in use
queues_ring : (n k : ℕ) (g : HostRing → HostRing) (hs : List HostQueue) → ((x : HostQueue) → slice_get hs k ≡ Some x → is_making x.state ≡ false) → AllByRecursion (HasHalves n) hs → AllByRecursion (HasHalves n) (change k (λ x. record x { ring = g x.ring }) hs)
queues_ring n k g hs used h =
    all_changed (HasHalves n) k (λ x. record x { ring = g x.ring }) hs (λ x e p. record { submission = p.submission; completion = p.completion; fresh = λ making. absurd (true≢false (sym making ∙ used x e)) }) h

half_same : (n : ℕ) (half : Half) (before after : Bool) (pages : List ℕ) → before ≡ after → LieTogether (if before then half_pages n half else 0) pages → LieTogether (if after then half_pages n half else 0) pages
half_same n half before after pages e h = (h.0, h.1 ∙ ap (λ b. pages_from h.0 (if b then half_pages n half else 0)) e)

-- another state in which it has the same halves, and whose rings are no newer
in_state_of : (n : ℕ) (x : HostQueue) (was st : HostState) → x.state ≡ was → has_sq was ≡ has_sq st → has_cq was ≡ has_cq st → (is_making st ≡ true → is_making was ≡ true) → HasHalves n x → HasHalves n (record x { state = st })
in_state_of n x was st is sq cq making h = record {
  submission = half_same n Submission (has_sq x.state) (has_sq st) x.sq_pages (ap has_sq is ∙ sq) h.submission;
  completion = half_same n Completion (has_cq x.state) (has_cq st) x.cq_pages (ap has_cq is ∙ cq) h.completion;
  fresh = λ m. h.fresh (ap is_making is ∙ making m);
}

noted : (n : ℕ) (x : HostQueue) (b : Bool) → x.state ≡ Deleting false → HasHalves n x → HasHalves n (record x { state = if b then Deleting true else Live })
noted n x true is h = in_state_of n x (Deleting false) (Deleting true) is refl refl (λ m. m) h
noted n x false is h = in_state_of n x (Deleting false) Live is refl refl (λ m. m) h

-- one half less, of a queue that has only the other or none
without_sq : (n : ℕ) (x : HostQueue) (st : HostState) → has_sq st ≡ false → has_cq x.state ≡ has_cq st → (is_making st ≡ true → is_making x.state ≡ true) → HasHalves n x → HasHalves n (record x { state = st; sq_pages = [] })
without_sq n x st sq cq making h = record {
  submission = (0, sym (ap (λ b. pages_from 0 (if b then half_pages n Submission else 0)) sq));
  completion = half_same n Completion (has_cq x.state) (has_cq st) x.cq_pages cq h.completion;
  fresh = λ m. h.fresh (making m);
}

without_cq : (n : ℕ) (x : HostQueue) → has_sq x.state ≡ false → HasHalves n x → HasHalves n (a.gone x)
without_cq n x sq h = record { submission = half_same n Submission (has_sq x.state) false x.sq_pages sq h.submission; completion = (0, refl); fresh = λ m. absurd (true≢false (sym m)) }

-- Which queues are in use

in_use : (test : HostState → Bool) → ((st : HostState) → test st ≡ true → is_making st ≡ false) → (s : State) (q : ℕ) → in_state test s q ≡ true → (x : HostQueue) → host_queue s q ≡ Some x → is_making x.state ≡ false
in_use test used s q is x at = used x.state (sym (ap (λ (o : Option HostQueue). option_map_or (λ queue. test queue.state) o false) at) ∙ is)

reaps : (s : State) (q : ℕ) → refusal_of s (events.Reap q) ≡ None → in_state is_reaped s q ≡ true
reaps s q none = not-false _ (unrefused s (events.Reap q) none).0

admin_in_use : (hs : List HostQueue) → AdminLives hs → (x : HostQueue) → slice_get hs 0 ≡ Some x → is_making x.state ≡ false
admin_in_use hs lives x at = live_in_use x.state (sym (ap (λ (o : Option HostQueue). option_map_or (λ queue. is_live queue.state) o true) at) ∙ lives)

-- Every event of the host

-- its halves and pages
abbrev HasAll : State → Type 0
HasAll s = AllByRecursion (HasHalves s.entries) s.host.queues × AllByRecursion (IsProvided s.entries s.segment) s.host.records

provided_host : (s : State) (e : Event) (reply : Reply) → Accepts s e reply → IsController e ≡ false → HoldsPart (host_part s) → ProvidedS s → HasAll (a.after s e reply)
provided_host s e reply ok c holds h =
    let with : (q cid : ℕ) (f : Record → Record) → ((r : Record) → IsProvided s.entries s.segment r → IsProvided s.entries s.segment (f r)) → AllByRecursion (IsProvided s.entries s.segment) (with_record q cid f s.host.records) = λ q cid f each.
    all_with_provided s.entries s.segment q cid f each s.host.records h.commands in
    let began : (new : Record) → IsProvided s.entries s.segment new → AllByRecursion (IsProvided s.entries s.segment) (s.host.records ++ new ∷ []) = λ new is.
    all_append (IsProvided s.entries s.segment) s.host.records (new ∷ []) h.commands (is, tt) in
    let sent : (adm : AdminKind) (id : ℕ) (hs : List HostQueue) → IsNewIdentifier s 0 id → ((x : HostQueue) → slice_get hs 0 ≡ Some x → is_making x.state ≡ false) → AllByRecursion (HasHalves s.entries) hs
    → AllByRecursion (HasHalves s.entries) (change 0 (λ x. record x { ring = next_tail s.entries x.ring }) hs) × AllByRecursion (IsProvided s.entries s.segment) (s.host.records ++ sent_record adm id ∷ []) = λ adm id hs new used all.
    (queues_ring s.entries 0 (next_tail s.entries) hs used all, began (sent_record adm id) (record { identifier = new.in_range; pages = tt })) in
    host_moves (λ (e : Event) (reply : Reply) (t : State). refusal_of s e ≡ None → HasAll t) s e reply ok c
    (record {
      reserves = λ q request d none is n. (
        h.queues,
        began (drafted_record d) (
            record {
              identifier = is.identifier.in_range;
              pages = (
                length-map d.data_pages (λ (page : ℕ × List ℕ). page.0) ∙ is.data_pages ∙ ap (λ (x : Request). data_count x.pieces) (sym is.request),
                length-map d.chain_pages (λ (page : ℕ × List ℕ). page.0) ∙ is.chain_pages ∙ ap (λ (x : Request). pages_needed (length (joined_parts x.pieces (numbers_of d.data_pages))) s.segment) (sym is.request),
              );
            }
            ),
      );
      submits = λ d entry r none built its live n. (queues_ring s.entries d.q (next_tail s.entries) s.host.queues (in_use is_live live_in_use s d.q live) h.queues, with d.q d.cid a.submitted (λ x p. record { identifier = p.identifier; pages = p.pages }));
      cancels = λ d r its n. (h.queues, without d.q d.cid);
      rings = λ q none n. (h.queues, h.commands);
      rests = λ q is n. (h.queues, h.commands);
      rejects = λ q why is n. (queues_ring s.entries q (next_head s.entries) s.host.queues (in_use is_reaped reaped_in_use s q (reaps s q n)) h.queues, h.commands);
      tells = λ q cid st what e r request t heard w n. (told q e n, with q cid (a.held st e.hints) (λ x p. record { identifier = p.identifier; pages = p.pages }));
      hears = λ q cid st what e r adm t heard w quiet unmade n. (told q e n, without q cid);
      notes = λ q cid st what e r k t heard w n. behind q cid e n k (λ queue. record queue { state = if is_success st then Deleting true else Live })
          (λ x ex p. noted s.entries x (is_success st) (asked_as_heard s q cid st e r k holds heard w x ex) p);
      frees = λ q cid st what e r k queue t heard w at alone good n. behind q cid e n k a.gone
          (λ x ex p. let same : queue ≡ x = cc (at, ex) in without_cq s.entries x (ap (λ (y : HostQueue). has_sq y.state) (sym same) ∙ alone_has_no_sq queue.state alone) p);
      makes_cq = λ q cid st what e r k size base vector t heard w good n. behind q cid e n k a.half_made
          (λ x ex p. in_state_of s.entries x MakingCq HalfMade (making_cq_as_heard s q cid st e r k size base vector holds heard w x ex) refl refl (λ m. refl) p);
      unmakes_cq = λ q cid st what e r k size base vector queue t heard w at bad n. behind q cid e n k a.gone
          (λ x ex p. without_cq s.entries x (ap has_sq (making_cq_as_heard s q cid st e r k size base vector holds heard w x ex)) p);
      makes_sq = λ q cid st what e r k size base t heard w good n. behind q cid e n k a.live
          (λ x ex p. in_state_of s.entries x MakingSq Live (making_sq_as_heard s q cid st e r k size base holds heard w x ex) refl refl (λ m. absurd (true≢false (sym m))) p);
      unmakes_sq = λ q cid st what e r k size base queue t heard w at bad n. behind q cid e n k a.unmade_sq
          (λ x ex p. let is = making_sq_as_heard s q cid st e r k size base holds heard w x ex in without_sq s.entries x HalfMade refl (ap has_cq is) (λ m. ap is_making is) p);
      collects = λ q cid r f at held is n. (h.queues, with q cid a.collected (λ x p. record { identifier = p.identifier; pages = p.pages }));
      releases = λ f r its n. (h.queues, without f.q f.cid);
      aborts = λ q cid id none new n. sent (Abort q cid) id s.host.queues new (admin_in_use s.host.queues holds.admin) h.queues;
      asks = λ q id queue none new live n.
          let sends = sent (DeleteSq q) id s.host.queues new (admin_in_use s.host.queues holds.admin) h.queues in (
            all_changed (HasHalves s.entries) q a.deleting (change 0 (λ x. record x { ring = next_tail s.entries x.ring }) s.host.queues)
                (λ y ey p. in_state_of s.entries y Live (Deleting false) (still_live s q 0 (next_tail s.entries) queue y live ey) refl refl (λ m. m) p) sends.0,
            sends.1,
          );
      drops = λ q id none new n. sent (DeleteCq q) id s.host.queues new (admin_in_use s.host.queues holds.admin) h.queues;
      creates_cqs = λ q vector id first queue none new granted n.
          let with_half = a.making_cq (half_from Completion first s) in
          sent (creates_cq q vector first s) id (change q with_half s.host.queues) new (still_in_use q with_half granted.other)
          (all_changed (HasHalves s.entries) q with_half s.host.queues
          (λ x ex p. let same : queue ≡ x = cc (granted.there, ex) in record {
            submission = half_same s.entries Submission (has_sq x.state) false x.sq_pages (ap (λ (y : HostQueue). has_sq y.state) (sym same) ∙ ap has_sq granted.state) p.submission;
            completion = (first, refl);
            fresh = λ m. refl;
          }) h.queues);
      creates_sqs = λ q id first queue none new granted n.
          let with_half = a.making_sq (half_from Submission first s) in
          sent (creates_sq q first s) id (change q with_half s.host.queues) new (still_in_use q with_half granted.other)
          (all_changed (HasHalves s.entries) q with_half s.host.queues
          (λ x ex p. let same : queue ≡ x = cc (granted.there, ex) in record {
            submission = (first, refl);
            completion = half_same s.entries Completion (has_cq x.state) true x.cq_pages (ap (λ (y : HostQueue). has_cq y.state) (sym same) ∙ ap has_cq granted.state) p.completion;
            fresh = λ m. refl;
          }) h.queues);
      retires = λ q queue none at deleted n. (
        all_changed (HasHalves s.entries) q a.retired s.host.queues
            (λ x ex p. let same : queue ≡ x = cc (at, ex) in without_sq s.entries x Retired refl (ap (λ (y : HostQueue). has_cq y.state) (sym same) ∙ ap has_cq deleted) (λ m. absurd (true≢false (sym m))) p) h.queues,
        all_map (IsProvided s.entries s.segment) (IsProvided s.entries s.segment) (a.lost q) s.host.records (λ r p. lose r ((r.q == q) && is_submitted r.phase) p) h.commands,
      );
      forges = λ q slot bytes queue none at n. (h.queues, h.commands);
      resets = λ n. (
        all_reset_queues (HasHalves s.entries) (HasHalves s.entries) s.host.queues
            (λ x ex p. let live = live_is x.state (sym (ap (λ (o : Option HostQueue). option_map_or (λ queue. is_live queue.state) o true) ex) ∙ holds.admin) in record {
              submission = half_same s.entries Submission (has_sq x.state) true x.sq_pages (ap has_sq live) p.submission;
              completion = half_same s.entries Completion (has_cq x.state) true x.cq_pages (ap has_cq live) p.completion;
              fresh = λ m. refl;
            })
            (record { submission = (0, refl); completion = (0, refl); fresh = λ m. refl }) h.queues,
        all_reset (IsProvided s.entries s.segment) (IsProvided s.entries s.segment)
            (λ r io p. lost_by (IsProvided s.entries s.segment) r (λ quiet. p) (λ sub. record { identifier = p.identifier; pages = p.pages })) s.host.records h.commands,
      );
    })
    ok.0
  where
    without : (q cid : ℕ) → AllByRecursion (IsProvided s.entries s.segment) (without_record q cid s.host.records)
    without q cid = all-filter (IsProvided s.entries s.segment) (λ r. not (is_at q cid r)) s.host.records h.commands

    told : (q : ℕ) (e : ComEntry) → refusal_of s (events.Reap q) ≡ None → AllByRecursion (HasHalves s.entries) (a.heard q e s).host.queues
    told q e none =
        let used = in_use is_reaped reaped_in_use s q (reaps s q none) in
        queues_ring s.entries q (knowing e.sqhd) (change q (λ x. record x { ring = next_head s.entries x.ring }) s.host.queues)
        (λ y ey. let x = ring_at q q (next_head s.entries) s.host.queues y ey in ap is_making x.2 ∙ used x.0 x.1) (queues_ring s.entries q (next_head s.entries) s.host.queues used h.queues)

    behind : (q cid : ℕ) (e : ComEntry) → refusal_of s (events.Reap q) ≡ None → (k : ℕ) (f : HostQueue → HostQueue)
        → ((x : HostQueue) → slice_get (a.heard q e s).host.queues k ≡ Some x → HasHalves s.entries x → HasHalves s.entries (f x))
        → AllByRecursion (HasHalves s.entries) (change k f (a.heard q e s).host.queues) × AllByRecursion (IsProvided s.entries s.segment) (without_record q cid s.host.records)
    behind q cid e n k f each = (all_changed (HasHalves s.entries) k f (a.heard q e s).host.queues each (told q e n), without q cid)

    -- a half for another queue leaves queue 0 in use
    still_in_use : (q : ℕ) (f : HostQueue → HostQueue) → (q == 0) ≡ false → (x : HostQueue) → slice_get (change q f s.host.queues) 0 ≡ Some x → is_making x.state ≡ false
    still_in_use q f other x at = admin_in_use s.host.queues holds.admin x (sym (get_other q f s.host.queues 0 (eqb-false q 0 other)) ∙ at)

    lose : (r : Record) (b : Bool) → IsProvided s.entries s.segment r → IsProvided s.entries s.segment (if b then a.aborted r else r)
    lose r true p = record { identifier = p.identifier; pages = p.pages }
    lose r false p = p

-- As it opens

opened_halves : (page n count : ℕ) → AllByRecursion (HasHalves n) (queues_from page n count)
opened_halves page n zero = tt
opened_halves page n (suc count) = (
  record {
    submission = (page, refl);
    completion = (page + half_pages n Submission, refl);
    fresh = λ m. absurd (true≢false (sym m));
  },
  opened_halves (page + half_pages n Submission + half_pages n Completion) n count,
)

-- The statements

abbrev All : HostPart → Type 0
All part = HoldsPart part × (IsHostProvided part.entries part.segment part.host)

all_events : (s : State) (e : Event) (reply : Reply) → Accepts s e reply → IsController e ≡ false → IsKept All s e reply
all_events s e reply ok c h =
    let both = provided_host s e reply ok c h.0 h.1 in (
      host_event s e reply ok c h.0,
      record { queues = both.0; commands = both.1; creations = names_event s e reply ok c h.0 h.1.creations },
    )

pub steps_provide : each_step_provides
steps_provide old e reply new step sound provided = (each_step All all_events old e reply new step (holds_from_sound old sound, provided)).1

pub runs_provide : every_run_provides
runs_provide pages queues n s image es replies new opens run =
    (each_run All all_events _ es replies new run
    (holds_at_opening pages queues n s image (fits_pool pages queues n s opens), record { queues = opened_halves 0 n (queues + 1); commands = tt; creations = tt })).1
