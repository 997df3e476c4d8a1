-- What stands in a bench's lists, and what a step of it changes.
use Rattle.machine_model.specs.After as a
use Rattle.machine_model.specs.Events as events
use Rattle.machine_model.specs.declared.words.Refusal.TheVariants as refusals
use Rattle.std.proofs.Common.{◌≡◌, Bool, true, false, ◌||◌, List, [], ◌∷◌, ◌++◌, if◌then◌else◌, refl, ap, ap₂, sym, ◌∙◌, MatchBool, Some, find, cond, ℕ, ◌==◌, not, ◌&&◌, Option, None, map, subst, inl, inr, arith}
use Rattle.std.{proofs.lemmas.{Bool.{true≢false, or_right, not-false, or_parts}, List.Folds.list_any-append}}
use Rattle.std.specs.{List.{AllByRecursion, list_any}, Option.{option_and_then, option_map_or}}
use Rattle.host_core.proofs.Outstanding.{one_step, find_more, find_changed, other_than, off_name, apart, found_with, found_without}
use Rattle.host_core.specs.Firsts.{without_first, with_first}
use Rattle.io_commands.specs.{Asked.Request, Values.{FinishedContents, numbers_of}}
use Rattle.admin_commands.specs.declared.AdminKind.TheVariants.{Abort, DeleteSq, DeleteCq}
use Rattle.entry_codec.specs.declared.status.{TheConstants.Status.ABORTED_SQ_DELETION}
use Rattle.entry_codec.specs.declared.hints.TheConstants.Hints.{NONE}
use Rattle.machine_model.proofs.{HostLeaves.io_left, Moves.{creates_cq, creates_sq, host_moves, sent_record}, Steps.{Accepts, part_left, first_fails, found}}
use Rattle.machine_model.specs.{Events.{Event, Reply}, Memory.without_pages}
use Rattle.machine_model.specs.Refusals.{is_submitted, is_drafted, is_held, is_collected, refusal_of, record_is, is_of}
use Rattle.machine_model.specs.State.{State, Record, is_at, record_at, pages_of, with_record, without_record}
use Rattle.machine_model.specs.{Step.{Step, HostPart, IsController, finished_from}, declared.words.Phase.Phase}
use Rattle.machine_model.specs.declared.words.{Phase.TheVariants.{Drafted, Submitted, Held}, Work.TheVariants.{Io}}
use Rattle.std.proofs.lemmas.Bool.{cases_Bool}
use Rattle.page_memory.proofs.Lists.{found_is}

-- Steps of a run that pass a test: when one is added, and split at the last one.

pub any_on : {X : Type 0} (p : X → Bool) (xs : List X) (y : X) → list_any p xs ≡ true → list_any p (xs ++ y ∷ []) ≡ true
any_on p xs y h = list_any-append p xs (y ∷ []) ∙ ap (λ (b : Bool). b || list_any p (y ∷ [])) h

pub any_last : {X : Type 0} (p : X → Bool) (xs : List X) (y : X) → p y ≡ true → list_any p (xs ++ y ∷ []) ≡ true
any_last p xs y h = list_any-append p xs (y ∷ []) ∙ or_right (list_any p xs) (p y || false) (ap (λ (b : Bool). b || false) h)

-- one more element: an earlier one passes, or it does
pub any_of_more : {X : Type 0} (p : X → Bool) (xs : List X) (y : X) (Q : Type 0) → list_any p (xs ++ y ∷ []) ≡ true → (list_any p xs ≡ true → Q) → (p y ≡ true → Q) → Q
any_of_more p xs y Q h early late = grind (arith, sym (list_any-append p xs (y ∷ [])) ∙ h)

pub any_without : {X : Type 0} (p test : X → Bool) (xs : List X) → list_any p (without_first test xs) ≡ true → list_any p xs ≡ true
any_without p test [] h = h
any_without {X} p test (x ∷ xs) h = grind (arith, any_without p test xs, or_right)

pub all_without : {X : Type 0} (P : X → Type 0) (test : X → Bool) (xs : List X) → AllByRecursion P xs → AllByRecursion P (without_first test xs)
all_without P test [] all = tt
all_without {X} P test (x ∷ xs) all = grind (arith, all_without P test xs)

-- the last element that passes
pub record HasLast {X : Type 0} (p : X → Bool) (xs : List X) : Type 0 where
  pub before : List X
  pub last : X
  pub later : List X
  pub parts : xs ≡ before ++ last ∷ later
  pub passes : p last ≡ true
  pub none_later : list_any p later ≡ false

pub split_last : {X : Type 0} (p : X → Bool) (xs : List X) → list_any p xs ≡ true → HasLast p xs
split_last p [] h = absurd (true≢false (sym h))
split_last {X} p (x ∷ xs) h = by_presence (list_any p xs) refl (p x) refl h (split_last p xs)
  where
    by_presence : (c : Bool) → list_any p xs ≡ c → (b : Bool) → p x ≡ b → (b || list_any p xs) ≡ true → (list_any p xs ≡ true → HasLast p xs) → HasLast p (x ∷ xs)
    by_presence true e b here h ih =
        let l = ih e in
        record { before = x ∷ l.before; last = l.last; later = l.later; parts = ap (λ (ys : List X). x ∷ ys) l.parts; passes = l.passes; none_later = l.none_later }
    by_presence false e true here h ih = record { before = []; last = x; later = xs; parts = refl; passes = here; none_later = e }
    by_presence false e false here h ih = absurd (true≢false (sym h ∙ e))

-- Lists of which at most one element passes

pub none_last : {X : Type 0} (p : X → Bool) (xs : List X) (y : X) → list_any p xs ≡ false → p y ≡ false → list_any p (xs ++ y ∷ []) ≡ false
none_last p xs y h k = list_any-append p xs (y ∷ []) ∙ ap₂ (λ (a b : Bool). a || (b || false)) h k

abbrev pub Few : {X : Type 0} → (X → Bool) → List X → Type 0
Few p [] = Unit {0}
Few p (x ∷ xs) = MatchBool (p x) (list_any p xs ≡ false) (Few p xs)

few_none : {X : Type 0} (p : X → Bool) (xs : List X) → list_any p xs ≡ false → Few p xs
few_none p [] h = tt
few_none {X} p (x ∷ xs) h = grind (arith, few_none p xs)

none_without : {X : Type 0} (p test : X → Bool) (xs : List X) → list_any p xs ≡ false → list_any p (without_first test xs) ≡ false
none_without p test xs h = grind (arith, any_without)

pub few_without : {X : Type 0} (p test : X → Bool) (xs : List X) → Few p xs → Few p (without_first test xs)
few_without p test [] h = tt
few_without {X} p test (x ∷ xs) h = grind (arith, few_without p test xs, few_none, none_without)

pub gone : {X : Type 0} (p : X → Bool) (xs : List X) → Few p xs → list_any p (without_first p xs) ≡ false
gone p [] h = refl
gone {X} p (x ∷ xs) h = grind (arith, gone p xs)

pub few_more : {X : Type 0} (p : X → Bool) (xs : List X) (y : X) → Few p xs → (p y ≡ true → list_any p xs ≡ false) → Few p (xs ++ y ∷ [])
few_more p [] y h new = grind arith
few_more {X} p (x ∷ xs) y h new = grind (arith, few_more p xs y, none_last)

-- Lists of which one element is changed, added or taken out: what is found in them.

-- With the first element changed that passes a test

pub any_with : {X : Type 0} (p test : X → Bool) (f : X → X) → ((x : X) → p (f x) ≡ p x) → (xs : List X) → list_any p (with_first test f xs) ≡ list_any p xs
any_with p test f same [] = refl
any_with {X} p test f same (x ∷ xs) = elim (cases_Bool (test x)) [
  | inl e ↦ rw e (ap (λ (c : Bool). c || list_any p xs) (same x))
  | inr e ↦ rw e (ap (λ (c : Bool). p x || c) (any_with p test f same xs))
]

pub few_with : {X : Type 0} (p test : X → Bool) (f : X → X) → ((x : X) → p (f x) ≡ p x) → (xs : List X) → Few p xs → Few p (with_first test f xs)
few_with p test f same [] h = tt
few_with {X} p test f same (x ∷ xs) h = by_tests (test x) (p x) refl h (few_with p test f same xs)
  where
    by_tests : (b c : Bool) → p x ≡ c → MatchBool c (list_any p xs ≡ false) (Few p xs) → (Few p xs → Few p (with_first test f xs)) → Few p (if b then f x ∷ xs else x ∷ with_first test f xs)
    by_tests false true e h ih = rw e (any_with p test f same xs ∙ h)
    by_tests false false e h ih = rw e (ih h)
    by_tests true c e h ih = rw (same x ∙ e) h

pub find_with : {X : Type 0} (p : X → Bool) (f : X → X) → ((x : X) → p (f x) ≡ p x) → (xs : List X) (y : X) → find p xs ≡ Some y → find p (with_first p f xs) ≡ Some (f y)
find_with p f same [] y e = absurd cc
find_with {X} p f same (x ∷ xs) y e = elim (cases_Bool (p x)) [
  | inl is ↦ rw is (let here : x ≡ y = cc in ap (λ (c : Bool). cond c (Some (f x)) (find p xs)) (same x ∙ is) ∙ ap (λ (z : X). Some (f z)) here)
  | inr is ↦ rw is (ap (λ (c : Bool). cond c (Some x) (find p (with_first p f xs))) is ∙ (find_with p f same xs y) (rw is at e))
]

pub find_with_other : {X : Type 0} (p test : X → Bool) (f : X → X) → ((x : X) → p (f x) ≡ p x) → ((x : X) → test x ≡ true → p x ≡ false) → (xs : List X) → find p (with_first test f xs) ≡ find p xs
find_with_other p test f same far [] = refl
find_with_other {X} p test f same far (x ∷ xs) = elim (cases_Bool (test x)) [
  | inl is ↦
      rw is (ap (λ (c : Bool). cond c (Some (f x)) (find p xs)) (same x ∙ far x is) ∙ sym (ap (λ (c : Bool). cond c (Some x) (find p xs)) (far x is)))
  | inr is ↦ rw is (ap (cond (p x) (Some x)) (find_with_other p test f same far xs))
]

-- Without it

pub find_without_other : {X : Type 0} (p test : X → Bool) → ((x : X) → test x ≡ true → p x ≡ false) → (xs : List X) → find p (without_first test xs) ≡ find p xs
find_without_other p test far [] = refl
find_without_other {X} p test far (x ∷ xs) = elim (cases_Bool (test x)) [
  | inl is ↦ rw is (sym (ap (λ (c : Bool). cond c (Some x) (find p xs)) (far x is)))
  | inr is ↦ rw is (ap (cond (p x) (Some x)) (find_without_other p test far xs))
]

-- A drafted command stays so until it is submitted or cancelled, and a collected one until it is released, whatever else happens. A collected command is not collected again before.

-- an I/O command in a phase that passes a test
pub record IsIn (test : Phase → Bool) (r : Record) : Type 0 where
  pub phase : test r.phase ≡ true
  pub request : Request
  pub work : r.work ≡ Io request

-- the record of a name is that of one
abbrev pub StandsIn : (Phase → Bool) → ℕ → ℕ → List Record → Type 0
StandsIn test q cid rs = (r : Record) × (find (is_at q cid) rs ≡ Some r) × IsIn test r

abbrev pub Drafts : ℕ → ℕ → List Record → Type 0
Drafts q cid rs = StandsIn is_drafted q cid rs

abbrev pub Stands : ℕ → ℕ → List Record → Type 0
Stands q cid rs = StandsIn is_collected q cid rs

-- a phase in which the controller has nothing of a command
abbrev Rests : (Phase → Bool) → Type 0
Rests test = (ph : Phase) → test ph ≡ true → (is_submitted ph || is_held ph) ≡ false

drafted_rests : Rests is_drafted
drafted_rests Submitted e = absurd (true≢false (sym e))
drafted_rests Held e = absurd (true≢false (sym e))
drafted_rests x e = refl

collected_rests : Rests is_collected
collected_rests Submitted e = absurd (true≢false (sym e))
collected_rests Held e = absurd (true≢false (sym e))
collected_rests x e = refl

unsubmitted : (test : Phase → Bool) → Rests test → (ph : Phase) → test ph ≡ true → is_submitted ph ≡ false
unsubmitted test rests ph e = (or_parts (is_submitted ph) (is_held ph) (rests ph e)).0

unheld : (test : Phase → Bool) → Rests test → (ph : Phase) → test ph ≡ true → is_held ph ≡ false
unheld test rests ph e = (or_parts (is_submitted ph) (is_held ph) (rests ph e)).1

-- Names and phases

-- a record in another phase is of another name
other_name : (test other : Phase → Bool) → ((ph : Phase) → test ph ≡ true → other ph ≡ false) → (q cid k n : ℕ) (rs : List Record) (s : StandsIn test q cid rs) (x : Record) → find (is_at k n) rs ≡ Some x → other x.phase ≡ true → is_at k n s.0 ≡ false
other_name test other none q cid k n rs (r, at, is) x there in_phase =
    other_than q cid k n rs r at x there (λ same. true≢false (sym in_phase ∙ ap (λ (y : Record). other y.phase) same ∙ none r.phase is.phase))

-- What changes records

stands_with : (test : Phase → Bool) (q cid k n : ℕ) (f : Record → Record) (rs : List Record) → ((x : Record) → is_at q cid (f x) ≡ is_at q cid x) → (s : StandsIn test q cid rs) → is_at k n s.0 ≡ false → StandsIn test q cid (with_record k n f rs)
stands_with test q cid k n f rs same (r, at, is) far = (r, found_with q cid k n rs r at f same ∙ ap (λ (b : Bool). Some (if b then f r else r)) far, is)

stands_without : (test : Phase → Bool) (q cid k n : ℕ) (rs : List Record) → ((k == q) && (n == cid)) ≡ false → StandsIn test q cid rs → StandsIn test q cid (without_record k n rs)
stands_without test q cid k n rs far (r, at, is) = (r, found_without q cid k n rs r at far, is)

stands_lost : (test : Phase → Bool) → Rests test → (q cid k : ℕ) (rs : List Record) → StandsIn test q cid rs → StandsIn test q cid (map (a.lost k) rs)
stands_lost test rests q cid k rs (r, at, is) =
    let stays : (b : Bool) → (b && is_submitted r.phase) ≡ false = λ b. grind arith in
    (r, find_changed (is_at q cid) (a.lost k) (λ x. (grind arith)) rs r at ∙ ap (λ (b : Bool). Some (if b then a.aborted r else r)) (stays (r.q == k)), is)

-- a reset loses what is submitted, and the commands of the admin queue
stands_reset : (test : Phase → Bool) → Rests test → (q cid : ℕ) (s : State) → StandsIn test q cid s.host.records → StandsIn test q cid (a.reset_records s.host.records)
stands_reset test rests q cid s (r, at, is) =
    (r, io_left s q cid r is.request at is.work ∙ ap (λ (b : Bool). Some (if b then a.aborted r else r)) (unsubmitted test rests r.phase is.phase), is)

-- One event

abbrev On : (Phase → Bool) → ℕ → ℕ → State → Type 0
On test q cid s = StandsIn test q cid s.host.records

-- the record that a collection finds
record IsKnown (s : State) (k n : ℕ) : Type 0 where
  command : Record
  is : record_at s.host k n ≡ Some command
  ends : (is_submitted command.phase || is_held command.phase) ≡ true

known : (s : State) (k n : ℕ) → refusal_of s (events.Collect k n) ≡ None → IsKnown s k n
known s k n none =
    let x = found (λ (r : Record). is_submitted r.phase || is_held r.phase) s k n
    (not-false _ (first_fails (not (record_is (λ r. is_submitted r.phase || is_held r.phase) s k n)) refusals.Stranger ((record_is (λ r. is_submitted r.phase) s k n, refusals.NotYet) ∷ []) none)) in
    record { command = x.0; is = x.1; ends = x.2 }

collect_far : (test : Phase → Bool) → Rests test → (q cid k n : ℕ) (s : State) → refusal_of s (events.Collect k n) ≡ None → (h : On test q cid s) → is_at k n h.0 ≡ false
collect_far test rests q cid k n s none h =
    let x = known s k n none in
    other_name test (λ (ph : Phase). is_submitted ph || is_held ph) rests q cid k n s.host.records h x.command x.is x.ends

-- whether a step submits, cancels or releases a command of this name
abbrev names_by : ℕ → ℕ → Event → Reply → Bool
names_by q cid (events.Submit d) events.Accepted = (d.q == q) && (d.cid == cid)
names_by q cid (events.Cancel d) events.Accepted = (d.q == q) && (d.cid == cid)
names_by q cid (events.Release f) events.Accepted = (f.q == q) && (f.cid == cid)
names_by q cid e reply = false

event_stands : (test : Phase → Bool) → Rests test → (q cid : ℕ) (s : State) (e : Event) (reply : Reply) → names_by q cid e reply ≡ false → Accepts s e reply → IsController e ≡ false → On test q cid s → On test q cid (a.after s e reply)
event_stands test rests q cid s e reply far ok c h =
    let more : (new : List Record) → StandsIn test q cid (s.host.records ++ new) = λ new. (h.0, find_more (is_at q cid) s.host.records new h.0 h.1, h.2) in
    let sent : (k n : ℕ) (r : Record) → record_at s.host k n ≡ Some r → is_submitted r.phase ≡ true → is_at k n h.0 ≡ false =
    λ k n r at sub. other_name test is_submitted (unsubmitted test rests) q cid k n s.host.records h r at sub in
    let without : (k n : ℕ) (r : Record) → record_at s.host k n ≡ Some r → is_submitted r.phase ≡ true → StandsIn test q cid (without_record k n s.host.records) =
    λ k n r at sub. stands_without test q cid k n s.host.records (apart q cid k n s.host.records h.0 h.1 (sent k n r at sub)) h in
    host_moves (λ (e : Event) (reply : Reply) (t : State). names_by q cid e reply ≡ false → On test q cid t) s e reply ok c
    (record {
      reserves = λ k request d none is far. more (record { q = d.q; cid = d.cid; phase = Drafted; work = Io d.request; data_pages = numbers_of d.data_pages; chain_pages = numbers_of d.chain_pages; status = None; hints = NONE } ∷ []);
      submits = λ d entry r none built its live far. stands_with test q cid d.q d.cid a.submitted s.host.records (λ x. refl) h (off_name q cid d.q d.cid s.host.records h.0 h.1 far);
      cancels = λ d r its far. stands_without test q cid d.q d.cid s.host.records far h;
      rings = λ k none far. h;
      rests = λ k is far. h;
      rejects = λ k why is far. h;
      tells = λ k n st what e r request t heard w far. stands_with test q cid k n (a.held st e.hints) s.host.records (λ x. refl) h (sent k n r heard.found heard.submitted);
      hears = λ k n st what e r adm t heard w quiet unmade far. without k n r heard.found heard.submitted;
      notes = λ k n st what e r m t heard w far. without k n r heard.found heard.submitted;
      frees = λ k n st what e r m queue t heard w at retired good far. without k n r heard.found heard.submitted;
      makes_cq = λ k n st what e r m size base vector t heard w good far. without k n r heard.found heard.submitted;
      unmakes_cq = λ k n st what e r m size base vector queue t heard w at bad far. without k n r heard.found heard.submitted;
      makes_sq = λ k n st what e r m size base t heard w good far. without k n r heard.found heard.submitted;
      unmakes_sq = λ k n st what e r m size base queue t heard w at bad far. without k n r heard.found heard.submitted;
      collects = λ k n r f at held is far. stands_with test q cid k n a.collected s.host.records (λ x. refl) h (other_name test is_held (unheld test rests) q cid k n s.host.records h r at held);
      releases = λ f r its far. stands_without test q cid f.q f.cid s.host.records far h;
      aborts = λ k n id none new far. more (sent_record (Abort k n) id ∷ []);
      asks = λ k id queue none new live far. more (sent_record (DeleteSq k) id ∷ []);
      drops = λ k id none new far. more (sent_record (DeleteCq k) id ∷ []);
      creates_cqs = λ k vector id first queue none new granted far. more (sent_record (creates_cq k vector first s) id ∷ []);
      creates_sqs = λ k id first queue none new granted far. more (sent_record (creates_sq k first s) id ∷ []);
      retires = λ k queue none at deleted far. stands_lost test rests q cid k s.host.records h;
      forges = λ k slot bytes queue none at far. h;
      resets = λ far. stands_reset test rests q cid s h;
    })
    far

-- One step

rests_on : (test : Phase → Bool) → Rests test → (q cid : ℕ) (s : State) (e : Event) (reply : Reply) (new : State) → Step s e reply new → (Accepts s e reply → names_by q cid e reply ≡ false)
    → StandsIn test q cid s.host.records → StandsIn test q cid new.host.records
rests_on test rests q cid s e reply new step far h =
    one_step (λ (part : HostPart). StandsIn test q cid part.host.records) s e reply new step (λ ok c h. event_stands test rests q cid s e reply (far ok) ok c h) h

-- the record that an event of a draft or of a finished command finds
phase_of : (test : Phase → Bool) (request : Request) (front back : List ℕ) (r : Record) → is_of test request front back r ≡ true → test r.phase ≡ true
phase_of test request front back r fits = grind arith

found_apart : (test other : Phase → Bool) → ((ph : Phase) → test ph ≡ true → other ph ≡ false) → (q cid k n : ℕ) (request : Request) (front back : List ℕ) (s : State)
    → record_is (is_of other request front back) s k n ≡ true → On test q cid s → ((k == q) && (n == cid)) ≡ false
found_apart test other none q cid k n request front back s there h = grind (arith, found, apart, other_name, phase_of)

-- whether a step releases this name
abbrev pub releases_by : ℕ → ℕ → Event → Reply → Bool
releases_by q cid (events.Release f) events.Accepted = (f.q == q) && (f.cid == cid)
releases_by q cid e reply = false

undrafted : (ph : Phase) → is_collected ph ≡ true → is_drafted ph ≡ false
undrafted ph e = grind arith

collected_far : (q cid : ℕ) (s : State) (e : Event) (reply : Reply) → releases_by q cid e reply ≡ false → Stands q cid s.host.records → Accepts s e reply → names_by q cid e reply ≡ false
collected_far q cid s e reply far h ok = grind arith

pub step_stands : (q cid : ℕ) (s : State) (e : Event) (reply : Reply) (new : State) → Step s e reply new → releases_by q cid e reply ≡ false → Stands q cid s.host.records → Stands q cid new.host.records
step_stands q cid s e reply new step far h = rests_on is_collected collected_rests q cid s e reply new step (λ ok. collected_far q cid s e reply far h ok) h

-- whether a step submits or cancels a draft of this name
abbrev pub takes_by : ℕ → ℕ → Event → Reply → Bool
takes_by q cid (events.Submit d) events.Accepted = (d.q == q) && (d.cid == cid)
takes_by q cid (events.Cancel d) events.Accepted = (d.q == q) && (d.cid == cid)
takes_by q cid e reply = false

uncollected : (ph : Phase) → is_drafted ph ≡ true → is_collected ph ≡ false
uncollected ph e = grind arith

drafted_far : (q cid : ℕ) (s : State) (e : Event) (reply : Reply) → takes_by q cid e reply ≡ false → Drafts q cid s.host.records → Accepts s e reply → names_by q cid e reply ≡ false
drafted_far q cid s e reply far h ok = grind arith

pub step_drafts : (q cid : ℕ) (s : State) (e : Event) (reply : Reply) (new : State) → Step s e reply new → takes_by q cid e reply ≡ false → Drafts q cid s.host.records → Drafts q cid new.host.records
step_drafts q cid s e reply new step far h = rests_on is_drafted drafted_rests q cid s e reply new step (λ ok. drafted_far q cid s e reply far h ok) h

accepted : {A : Type 0} (B : Type 0) (b : Bool) → MatchBool (b || true) A B → A
accepted B true h = h
accepted B false h = h

-- a collection finds no collected command, and leaves one
pub not_again : (q cid k n : ℕ) (s new : State) (f : FinishedContents) → Step s (events.Collect k n) (events.Collects f) new → Stands q cid s.host.records → ((k == q) && (n == cid)) ≡ false
not_again q cid k n s new f step h = grind (arith, accepted, apart, collect_far, collected_rests)

-- a finished command is an I/O command's
asked_io : (s : State) (r : Record) (f : FinishedContents) → finished_from s r ≡ Some f → (request : Request) × (r.work ≡ Io request)
asked_io s r f is = grind arith

pub collected_stands : (k n : ℕ) (s new : State) (f : FinishedContents) → Step s (events.Collect k n) (events.Collects f) new → Stands k n new.host.records
collected_stands k n s new f step =
    subst (λ (part : HostPart). Stands k n part.host.records) (sym (part_left s (events.Collect k n) (events.Collects f) new step.2)) (by_record (record_at s.host k n) x.is)
  where
    ok : Accepts s (events.Collect k n) (events.Collects f)
    ok = accepted _ s.trusted step.1

    x : IsKnown s k n
    x = known s k n ok.0

    io : (request : Request) × (x.command.work ≡ Io request)
    io = asked_io s x.command f (ap (option_and_then (finished_from s)) (sym x.is) ∙ ok.1)

    by_record : (o : Option Record) → o ≡ Some x.command → Stands k n (option_map_or (λ r. a.on_records (with_record k n a.collected) (a.on_memory (without_pages (pages_of r)) s)) o s).host.records
    by_record None e = absurd cc
    by_record (Some r) e = (
      a.collected x.command,
      found_with k n k n s.host.records x.command x.is a.collected (λ y. refl)
          ∙ ap (λ (b : Bool). Some (if b then a.collected x.command else x.command)) (found_is (is_at k n) s.host.records x.command x.is),
      record { phase = refl; request = io.0; work = io.1 },
    )
