-- What holds along a run.
use Rattle.machine_model.specs.After as a
use Rattle.machine_model.specs.Events as events
use Rattle.std.proofs.Common.{◌≡◌, Bool, true, false, not, refl, ap, ◌∙◌, inl, inr, ℕ, List, [], ◌∷◌, ◌++◌, sym, subst, append-nil, append_assoc, ◌||◌, IsTrue, map}
use Rattle.std.{proofs.lemmas.{Bool.{true≢false, cases_Bool, or_parts, not-true}, List.Folds.list_any-append}, specs.List.list_any}
use Rattle.machine_model.{proofs.{Moves.host_moves, Steps.{Accepts, part_controller, part_left, permitted, exact}}, specs.{Events.{Event, Reply}, Image.Made}}
use Rattle.machine_model.specs.{Opening.{opening, Opens}, Proper.IsProper, Run.Run, State.State, Step.{Step, IsController, HostPart, forges, resets}}
use Rattle.machine_model.specs.{Trusted.{forges_by, Steps, TrustedRun, is_forgery}, declared.words.Refusal.Refusal}
use Rattle.two_sides.{proofs.Standing.forged_untrusted, specs.{Histories.unforged_runs_end_trusted, InOrder.{has_forgery, runs_are_made}}}

-- The flag of trust: no event but a forgery and a reset changes it, and a reset sets it.

-- An event

flag_event : (s : State) (e : Event) (reply : Reply) → Accepts s e reply → IsController e ≡ false → forges e ≡ false → resets e ≡ false → (a.after s e reply).trusted ≡ s.trusted
flag_event s e reply ok c far other =
    host_moves (λ (e : Event) (reply : Reply) (t : State). forges e ≡ false → resets e ≡ false → t.trusted ≡ s.trusted) s e reply ok c
    (record {
      reserves = λ q request d none is n m. refl;
      submits = λ d entry r none built its live n m. refl;
      cancels = λ d r its n m. refl;
      rings = λ q none n m. refl;
      rests = λ q is n m. refl;
      rejects = λ q why is n m. refl;
      tells = λ q cid st what e r request t heard w n m. refl;
      hears = λ q cid st what e r adm t heard w quiet unmade n m. refl;
      notes = λ q cid st what e r k t heard w n m. refl;
      frees = λ q cid st what e r k queue t heard w at retired good n m. refl;
      makes_cq = λ q cid st what e r k size base vector t heard w good n m. refl;
      unmakes_cq = λ q cid st what e r k size base vector queue t heard w at bad n m. refl;
      makes_sq = λ q cid st what e r k size base t heard w good n m. refl;
      unmakes_sq = λ q cid st what e r k size base queue t heard w at bad n m. refl;
      collects = λ q cid r f at held is n m. refl;
      releases = λ f r its n m. refl;
      aborts = λ q cid id none new n m. refl;
      asks = λ q id queue none new live n m. refl;
      drops = λ q id none new n m. refl;
      creates_cqs = λ q vector id first queue none new granted n m. refl;
      creates_sqs = λ q id first queue none new granted n m. refl;
      retires = λ q queue none at deleted n m. refl;
      forges = λ q slot bytes queue none at n m. absurd (true≢false n);
      resets = λ n m. absurd (true≢false m);
    })
    far other

flag_after : (s : State) (e : Event) (reply : Reply) → Accepts s e reply → forges e ≡ false → resets e ≡ false → (a.after s e reply).trusted ≡ s.trusted
flag_after s e reply ok n m = elim (cases_Bool (IsController e)) [
  | inl c ↦ ap (λ (part : HostPart). part.trusted) (part_controller s e reply c)
  | inr c ↦ flag_event s e reply ok c n m
]

-- A step

pub stays_trusted : (old : State) (e : Event) (reply : Reply) (new : State) → Step old e reply new → forges_by e reply ≡ false → old.trusted ≡ true → new.trusted ≡ true
stays_trusted old e (events.Refused why touched) new step n t = ap (λ (s : State). s.trusted) step.2 ∙ t
stays_trusted old (events.Forge q slot bytes) events.Accepted new step n t = absurd (true≢false n)
stays_trusted old (events.Forge q slot bytes) reply new step n t = absurd (permitted _ old.trusted true t step.1).1
stays_trusted old events.Reset reply new step n t = ap (λ (part : HostPart). part.trusted) (part_left old events.Reset reply new step.2)
stays_trusted old e (events.Reserved d) new step n t =
    ap (λ (part : HostPart). part.trusted) (part_left old e (events.Reserved d) new step.2)
    ∙ flag_after old e (events.Reserved d) (permitted _ old.trusted (not (IsController e)) t step.1) refl refl ∙ t
stays_trusted old e reply new step n t =
    ap (λ (part : HostPart). part.trusted) (part_left old e reply new step.2)
    ∙ flag_after old e reply (permitted _ old.trusted (not (IsController e)) t step.1) refl refl ∙ t

-- Steps that begin in a trusted state and forge nothing: the states between them are trusted.

pub record Unforged (s : State) (made : List Made) : Type 0 where
  pub trusted : s.trusted ≡ true
  pub none : list_any is_forgery made ≡ false

-- after the first of them
pub unforged_next : (m : Made) (made : List Made) (s mid : State) → Step s m.event m.reply mid → Unforged s (m ∷ made) → Unforged mid made
unforged_next m made s mid step u =
    let both = or_parts (is_forgery m) (list_any is_forgery made) u.none in
    record { trusted = stays_trusted s m.event m.reply mid step both.0 u.trusted; none = both.1 }

pub unforged_end : (made : List Made) (s end : State) → Steps s made end → Unforged s made → end.trusted ≡ true
unforged_end [] s end steps u = ap (λ (x : State). x.trusted) steps ∙ u.trusted
unforged_end (m ∷ made) s end (is, mid, step, rest) u = unforged_end made mid end rest (unforged_next m made s mid step u)

-- a prefix of them, and the rest
pub unforged_front : (xs ys : List Made) (s : State) → Unforged s (xs ++ ys) → Unforged s xs
unforged_front xs ys s u =
    record { trusted = u.trusted; none = (or_parts (list_any is_forgery xs) (list_any is_forgery ys) (sym (list_any-append is_forgery xs ys) ∙ u.none)).0 }

pub unforged_back : (xs ys : List Made) (s mid : State) → Steps s xs mid → Unforged s (xs ++ ys) → Unforged mid ys
unforged_back [] ys s mid steps u = subst (λ (x : State). Unforged x ys) (sym steps) u
unforged_back (x ∷ xs) ys s mid (is, next, step, rest) u = unforged_back xs ys next mid rest (unforged_next x (xs ++ ys) s next step u)

-- A run from an opening

pub unforged_run : (image : List ℕ) (made : List Made) (end : State) (run : TrustedRun image made end) → Unforged (opening run.pages run.queues run.entries run.segment image) made
unforged_run image made end run = record { trusted = refl; none = not-true (list_any is_forgery made) run.unforged }

pub trusted_end : unforged_runs_end_trusted
trusted_end image made end run = unforged_end made (opening run.pages run.queues run.entries run.segment image) end run.steps (unforged_run image made end run)

-- What trusted runs keep: one induction over their steps, as they were made.

-- One step

-- a refusal leaves what was, and each accepted event exactly one state
pub trusted_step_by : (Q : Event → Reply → State → Type 0) (old : State) → ((e : Event) (why : Refusal) (touched : List ℕ) → Q e (events.Refused why touched) old)
    → ((e : Event) (reply : Reply) → IsProper e → Accepts old e reply → Q e reply (a.after old e reply))
    → (e : Event) (reply : Reply) (new : State) → Step old e reply new → old.trusted ≡ true → new.trusted ≡ true → Q e reply new
trusted_step_by Q old refused accepted e (events.Refused why touched) new step t u = subst (Q e (events.Refused why touched)) (sym step.2) (refused e why touched)
trusted_step_by Q old refused accepted (events.Forge q slot bytes) reply new step t u =
    let ok = permitted _ old.trusted true t step.1 in
    absurd (true≢false (sym u ∙ (ap (λ (part : HostPart). part.trusted) (part_left old (events.Forge q slot bytes) reply new step.2) ∙ forged_untrusted old q slot bytes ok.0)))
trusted_step_by Q old refused accepted events.Reset reply new step t u =
    subst (Q events.Reset reply) (sym step.2) (accepted events.Reset reply step.0 (permitted _ old.trusted true t step.1))
trusted_step_by Q old refused accepted e (events.Reserved d) new step t u =
    subst (Q e (events.Reserved d)) (sym (exact _ old.trusted t step.2)) (accepted e (events.Reserved d) step.0 (permitted _ old.trusted (not (IsController e)) t step.1))
trusted_step_by Q old refused accepted e reply new step t u =
    subst (Q e reply) (sym (exact _ old.trusted t step.2)) (accepted e reply step.0 (permitted _ old.trusted (not (IsController e)) t step.1))

pub each_proper_step : (Q : State → Type 0)
    → ((s : State) (e : Event) (reply : Reply) → IsProper e → Accepts s e reply → s.trusted ≡ true → Q s → Q (a.after s e reply))
    → (old : State) (e : Event) (reply : Reply) (new : State) → Step old e reply new → old.trusted ≡ true → new.trusted ≡ true → Q old → Q new
each_proper_step Q each old e reply new step t u h = trusted_step_by (λ (e : Event) (reply : Reply) (s : State). Q s) old (λ e why touched. h) (λ e reply proper ok. each old e reply proper ok t h) e reply new step t u

-- What holds of the steps so far, in order, and of the state

abbrev pub made_of : State → Event → Reply → Made
made_of s e reply = record { before = s; event = e; reply = reply }

abbrev pub Keeps : (List Made → State → Type 0) → Type 0
Keeps Q = (done : List Made) (m : Made) (new : State) → Step m.before m.event m.reply new → m.before.trusted ≡ true → new.trusted ≡ true → Q done m.before → Q (done ++ m ∷ []) new

pub record Carried (Q : List Made → State → Type 0) : Type 0 where
  pub refused : (done : List Made) (s : State) (e : Event) (why : Refusal) (touched : List ℕ) → Q done s → Q (done ++ made_of s e (events.Refused why touched) ∷ []) s
  pub taken : (done : List Made) (s : State) (e : Event) (reply : Reply) → IsProper e → Accepts s e reply → s.trusted ≡ true → Q done s → Q (done ++ made_of s e reply ∷ []) (a.after s e reply)

pub keeps : (Q : List Made → State → Type 0) → Carried Q → Keeps Q
keeps Q carried done m new step t u h =
    trusted_step_by (λ (e : Event) (reply : Reply) (s : State). Q (done ++ made_of m.before e reply ∷ []) s) m.before
    (λ e why touched. carried.refused done m.before e why touched h) (λ e reply proper ok. carried.taken done m.before e reply proper ok t h) m.event m.reply new step t u

-- from anywhere
pub along : (Q : List Made → State → Type 0) → Keeps Q → (done made : List Made) (s end : State) → Steps s made end → Unforged s made → Q done s → Q (done ++ made) end
along Q keeps done [] s end steps u h = subst (λ (ys : List Made). Q ys end) (sym (append-nil done)) (subst (Q done) (sym steps) h)
along Q keeps done (m ∷ made) s end (is, mid, step, rest) u h =
    let next = unforged_next m made s mid step u in
    let more = keeps done m mid (subst (λ (x : State). Step x m.event m.reply mid) (sym is) step) (ap (λ (x : State). x.trusted) is ∙ u.trusted) next.trusted (subst (Q done) (sym is) h) in
    subst (λ (ys : List Made). Q ys end) (append_assoc done (m ∷ []) made) (along Q keeps (done ++ m ∷ []) made mid end rest next more)

-- steps in two parts
pub cut : (xs ys : List Made) (s end : State) → Steps s (xs ++ ys) end → (mid : State) × Steps s xs mid × Steps mid ys end
cut [] ys s end steps = (s, refl, steps)
cut (x ∷ xs) ys s end (is, mid, step, rest) = let c = cut xs ys mid end rest in (c.0, (is, mid, step, c.1), c.2)

-- holds before a step
pub record Before (Q : List Made → State → Type 0) (done : List Made) (m : Made) : Type 0 where
  pub holds : Q done m.before
  pub next : State
  pub step : Step m.before m.event m.reply next
  pub trusted : m.before.trusted ≡ true
  pub trusted_next : next.trusted ≡ true

pub before_step : (Q : List Made → State → Type 0) → Keeps Q → (done xs later : List Made) (m : Made) (s end : State) → Steps s (xs ++ m ∷ later) end → Unforged s (xs ++ m ∷ later) → Q done s → Before Q (done ++ xs) m
before_step Q keeps done xs later m s end steps u h =
    let two = cut xs (m ∷ later) s end steps in
    at two.0 two.2 (unforged_back xs (m ∷ later) s two.0 two.1 u) (along Q keeps done xs s two.0 two.1 (unforged_front xs (m ∷ later) s u) h)
  where
    at : (mid : State) → Steps mid (m ∷ later) end → Unforged mid (m ∷ later) → Q (done ++ xs) mid → Before Q (done ++ xs) m
    at mid (is, next, step, rest) u h = record {
      holds = subst (Q (done ++ xs)) (sym is) h;
      next = next;
      step = subst (λ (x : State). Step x m.event m.reply next) (sym is) step;
      trusted = ap (λ (x : State). x.trusted) is ∙ u.trusted;
      trusted_next = (unforged_next m later mid next step u).trusted;
    }

-- From an opening

abbrev pub AtOpenings : List ℕ → (List Made → State → Type 0) → Type 0
AtOpenings image Q = (pages queues n s : ℕ) → Opens pages queues n s → Q [] (opening pages queues n s image)

pub run_along : (Q : List Made → State → Type 0) → Keeps Q → (image : List ℕ) → AtOpenings image Q → (made : List Made) (end : State) → TrustedRun image made end → Q made end
run_along Q keeps image first made end run =
    along Q keeps [] made (opening run.pages run.queues run.entries run.segment image) end run.steps (unforged_run image made end run) (first run.pages run.queues run.entries run.segment run.opens)

pub run_before : (Q : List Made → State → Type 0) → Keeps Q → (image : List ℕ) → AtOpenings image Q → (earlier later : List Made) (m : Made) (end : State) → TrustedRun image (earlier ++ m ∷ later) end → Before Q earlier m
run_before Q keeps image first earlier later m end run =
    before_step Q keeps [] earlier later m (opening run.pages run.queues run.entries run.segment image) end run.steps (unforged_run image (earlier ++ m ∷ later) end run)
    (first run.pages run.queues run.entries run.segment run.opens)

-- what each step keeps, and an opening has, holds at the end of each trusted run
pub along_proper : (Q : State → Type 0)
    → ((s : State) (e : Event) (reply : Reply) → IsProper e → Accepts s e reply → s.trusted ≡ true → Q s → Q (a.after s e reply))
    → ((pages queues n s : ℕ) (image : List ℕ) → Opens pages queues n s → Q (opening pages queues n s image))
    → (image : List ℕ) (made : List Made) (end : State) → TrustedRun image made end → Q end
along_proper Q each first image =
    run_along (λ (done : List Made) (s : State). Q s) (λ done m new step t u h. each_proper_step Q each m.before m.event m.reply new step t u h) image (λ pages queues n s opens. first pages queues n s image opens)

-- A run's steps as they were made.

-- the steps of a run from anywhere
record MadeAs (s : State) (es : List Event) (replies : List Reply) (end : State) : Type 0 where
  pub made : List Made
  pub happened : map (λ m. m.event) made ≡ es
  pub answered : map (λ m. m.reply) made ≡ replies
  pub steps : Steps s made end
  pub forged : list_any is_forgery made ≡ has_forgery es replies

run_made_as : (s : State) (es : List Event) (replies : List Reply) (end : State) → Run s es replies end → MadeAs s es replies end
run_made_as s [] [] end run = record { made = []; happened = refl; answered = refl; steps = run; forged = refl }
run_made_as s (e ∷ es) (reply ∷ replies) end run =
    let rest = run_made_as run.0 es replies end run.2 in
    record {
      made = record { before = s; event = e; reply = reply } ∷ rest.made;
      happened = ap (λ (l : List Event). e ∷ l) rest.happened;
      answered = ap (λ (l : List Reply). reply ∷ l) rest.answered;
      steps = (refl, run.0, run.1, rest.steps);
      forged = ap (λ (b : Bool). forges_by e reply || b) rest.forged;
    }
run_made_as s x y end run = absurd run

pub run_is_made : runs_are_made
run_is_made pages queues n s image es replies end opens bytes run unforged =
    let m = run_made_as (opening pages queues n s image) es replies end run in
    record {
      made = m.made;
      happened = m.happened;
      answered = m.answered;
      run = record {
        pages = pages;
        queues = queues;
        entries = n;
        segment = s;
        opens = opens;
        is_image = bytes;
        steps = m.steps;
        unforged = subst (λ (b : Bool). IsTrue (not b)) (sym m.forged) unforged;
      };
    }
