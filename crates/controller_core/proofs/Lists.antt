-- Lists of which one member is changed or taken out; and each call goes one way.
use Rattle.controller_core.specs.declared.refusal.ControllerRefusal.TheVariants as refusal
use Rattle.std.proofs.Common.{◌≡◌, ℕ, zero, suc, ◌+◌, ◌<◌, ◌≤◌, Bool, true, false, cond, Some, List, [], ◌∷◌, ◌++◌, length, map, filter, drop, get_or, slice_get, slice_set, refl, ap, sym, ◌∙◌, arith, subst, ◌==◌, take, Option, None, if◌then◌else◌, ap₂, eqb-true}
use Rattle.std.{proofs.lemmas.List.{map-append, map-set, Sums.sum_by-cons}, specs.List.{AllByRecursion, count_by}}
use Rattle.std.specs.Option.{option_map_or}
use Rattle.controller_core.specs.{Posting.{completion_by, memory_posted, page_posted}, Completing.{completed, status_of_end}}
use Rattle.controller_core.specs.Contents.{change, Contents, FetchedCommand, FetchedWork, dw0_of_work, is_command}
use Rattle.controller_core.specs.Fetching.{LooksAt, Begins, IsBegun, TakesIn, Takes, RefusedBy, RefusedEntry, is_known, entry_refusal, side_refusal, look_refusal, begun}
use Rattle.controller_core.specs.Laws.{AreAlike, unplaced_command, WalksOneWay, CompletesOneWay, FetchesOneWay, RefusesOneWay, ServedUnlessMemory}
use Rattle.controller_core.specs.{Managing.{command_of, with_taken}, Walking.{DoesUnit, stepped}, declared.command.FetchedWork.TheVariants.Io}
use Rattle.controller_core.specs.declared.{queue.ControllerQueue.ControllerQueue, refusal.ControllerRefusal.ControllerRefusal}
use Rattle.controller_walk.specs.{Units.{Act, Stays, Reads, Moves, Course, Closes, Does}, Walks.{Acts, DoesFirst, LeavesRest}}
use Rattle.controller_walk.specs.declared.walk.WalkState.{WalkState}
use Rattle.entry_codec.specs.declared.{status.TheConstants.Status.COMMAND_ID_CONFLICT, submission.SubEntry.SubEntry}
use Rattle.io_commands.specs.Jobs.{JobContents, job_course, direction_of_entry, verdict_of}
use Rattle.page_memory.{proofs.Lists.{some_is, found_is}, specs.Memory.{Memory}}
use Rattle.queue_pair.specs.{Memory.{entry_at, submission_page}, Rings.ControllerSide}
use Rattle.sgl_descriptor.specs.declared.Direction.{Direction, TheVariants.{Destination, Source}}

-- Lists of which one member is changed or taken out.

-- it goes alone, where identifiers differ
abbrev pub one : Bool → ℕ
one b = cond b 1 0

pub count-cons : {A : Type 0} (p : A → Bool) (x : A) (xs : List A) → count_by p (x ∷ xs) ≡ one (p x) + count_by p xs
count-cons p x xs = sum_by-cons (λ y. cond (p y) 1 0) x xs

pub here_counted : {A : Type 0} (p : A → Bool) (xs : List A) (i : ℕ) (x : A) → slice_get xs i ≡ Some x → p x ≡ true → 0 < count_by p xs
here_counted p [] i x at e = cc
here_counted p (y ∷ xs) zero x at e =
    let same : y ≡ x = cc in
    let t : p y ≡ true = subst (λ z. p z ≡ true) (sym same) e in
    omega (arith, count-cons p y xs, ap one t)
here_counted p (y ∷ xs) (suc i) x at e = omega (arith, count-cons p y xs, here_counted p xs i x at e)

pub count-filter : {A : Type 0} (p f : A → Bool) (xs : List A) → count_by p (filter f xs) ≤ count_by p xs
count-filter p f [] = omega arith
count-filter p f (x ∷ xs) =
    let l = count-filter p f xs in
    elim (f x) as (λ b. count_by p (cond b (x ∷ filter f xs) (filter f xs)) ≤ count_by p (x ∷ xs)) [
      | true ↦ omega (arith, count-cons p x xs, count-cons p x (filter f xs))
      | false ↦ omega (arith, count-cons p x xs)
    ]

pub length-change : {A : Type 0} (k : ℕ) (f : A → A) (xs : List A) → length (change k f xs) ≡ length xs
length-change k f [] = refl
length-change zero f (x ∷ xs) = refl
length-change (suc k) f (x ∷ xs) = ap suc (length-change k f xs)

-- no queue number is past those of 16 bits
pub few_stay : (n m : ℕ) → n ≡ m → m ≤ 65536 → n ≤ 65536
few_stay n m e few = omega (arith, e, few)

at_place : {A : Type 0} (q : ℕ) (f : A → A) (xs : List A) (x y : A) → q < length xs → x ≡ get_or xs q x → y ≡ f x → slice_set xs q y ≡ change q f xs
at_place q f [] x y l e h = absurd (omega arith)
at_place {A = A} zero f (z ∷ xs) x y l e h = ap (λ (w : A). w ∷ xs) (h ∙ ap f e)
at_place {A = A} (suc q) f (z ∷ xs) x y l e h = ap (λ (w : List A). z ∷ w) (at_place q f xs x y (omega arith) e h)

-- a write at a place that was reached by an equal number
pub change_at : {A : Type 0} (q i : ℕ) (f : A → A) (xs : List A) (x y : A) → i ≡ q → i < length xs → x ≡ get_or xs i x → y ≡ f x → slice_set xs i y ≡ change q f xs
change_at q i f xs x y same l e h = at_place i f xs x y l e h ∙ ap (λ (k : ℕ). change k f xs) same

past_end : {A : Type 0} (q : ℕ) (f : A → A) (xs : List A) → length xs ≤ q → xs ≡ change q f xs
past_end q f [] l = refl
past_end zero f (z ∷ xs) l = absurd (omega arith)
past_end {A = A} (suc q) f (z ∷ xs) l = ap (λ (w : List A). z ∷ w) (past_end q f xs (omega arith))

pub change_past : {A : Type 0} (q i : ℕ) (f : A → A) (xs : List A) → i ≡ q → length xs ≤ i → xs ≡ change q f xs
change_past q i f xs same l = past_end i f xs l ∙ ap (λ (k : ℕ). change k f xs) same

-- two changes that bear one another, in either order
pub change-change : {A : Type 0} (j k : ℕ) (f g : A → A) → ((x : A) → f (g x) ≡ g (f x)) → (xs : List A) → change j f (change k g xs) ≡ change k g (change j f xs)
change-change j k f g same [] = refl
change-change zero zero f g same (x ∷ xs) = ap (λ y. y ∷ xs) (same x)
change-change zero (suc k) f g same (x ∷ xs) = refl
change-change (suc j) zero f g same (x ∷ xs) = refl
change-change (suc j) (suc k) f g same (x ∷ xs) = ap (λ ys. x ∷ ys) (change-change j k f g same xs)

pub all_set : {A : Type 0} (P : A → Type 0) (xs : List A) (i : ℕ) (y : A) → AllByRecursion P xs → P y → AllByRecursion P (slice_set xs i y)
all_set P [] i y all h = tt
all_set P (x ∷ xs) zero y all h = (h, all.1)
all_set P (x ∷ xs) (suc i) y all h = (all.0, all_set P xs i y all.1 h)

pub count_set : {A : Type 0} (p : A → Bool) (xs : List A) (i : ℕ) (x y : A) → slice_get xs i ≡ Some x → p y ≡ p x → count_by p (slice_set xs i y) ≡ count_by p xs
count_set p [] i x y at e = refl
count_set p (z ∷ xs) zero x y at e =
    let same : z ≡ x = cc in
    count-cons p y xs ∙ ap (λ (b : Bool). one b + count_by p xs) (e ∙ ap p (sym same)) ∙ sym (count-cons p z xs)
count_set p (z ∷ xs) (suc i) x y at e = count-cons p z (slice_set xs i y) ∙ ap (λ (n : ℕ). one (p z) + n) (count_set p xs i x y at e) ∙ sym (count-cons p z xs)

-- A list of which each member is changed in turn: that of which this many members are changed
abbrev pub swept : {A : Type 0} → (A → A) → ℕ → List A → List A
swept f zero xs = xs
swept f (suc i) [] = []
swept f (suc i) (x ∷ xs) = f x ∷ swept f i xs

pub length-swept : {A : Type 0} (f : A → A) (i : ℕ) (xs : List A) → length (swept f i xs) ≡ length xs
length-swept f zero xs = refl
length-swept f (suc i) [] = refl
length-swept f (suc i) (x ∷ xs) = ap suc (length-swept f i xs)

past : {A : Type 0} (f : A → A) (i : ℕ) (xs : List A) → length xs ≤ i → swept f i xs ≡ map f xs
past f zero [] l = refl
past f zero (x ∷ xs) l = absurd (omega arith)
past f (suc i) [] l = refl
past f (suc i) (x ∷ xs) l = ap (λ ys. f x ∷ ys) (past f i xs (omega arith))

-- all members
pub swept-all : {A : Type 0} (f : A → A) (i : ℕ) (xs ys : List A) → ys ≡ swept f i xs → length ys ≤ i → ys ≡ map f xs
swept-all f i xs ys e l = e ∙ past f i xs (subst (λ (n : ℕ). n ≤ i) (ap length e ∙ length-swept f i xs) l)

-- Each call goes one way.

-- Walks

same_found : {A : Type 0} {o : Option A} {a b : A} → o ≡ Some a → o ≡ Some b → a ≡ b
same_found e f = some_is (sym e ∙ f)

one_act : (dir : Direction) (a : Act) (m n n' : Memory) (b b1 b2 r t t' : List ℕ) → Acts dir a m n b b1 r t → Acts dir a m n' b b2 r t' → (n ≡ n') × (b1 ≡ b2) × (t ≡ t')
one_act dir Stays m n n' b b1 b2 r t t' h g = (h.0.0 ∙ sym g.0.0, h.0.1 ∙ sym g.0.1, h.1 ∙ sym g.1)
one_act dir (Reads place) m n n' b b1 b2 r t t' h g = (h.0.0 ∙ sym g.0.0, h.0.1 ∙ sym g.0.1, h.1 ∙ sym g.1)
one_act Destination (Moves place k offset) m n n' b b1 b2 r t t' h g = (h.0.0.2 ∙ sym g.0.0.2, h.0.1 ∙ sym g.0.1, h.1 ∙ sym g.1)
one_act Source (Moves place k offset) m n n' b b1 b2 r t t' h g =
    let f : h.0.0.0 ≡ g.0.0.0 = same_found h.0.0.1 g.0.0.1 in
    (h.0.1 ∙ sym g.0.1, h.0.0.2 ∙ ap (λ (found : List ℕ). take offset b ++ (found ++ drop (offset + k) b)) f ∙ sym g.0.0.2, h.1 ∙ sym g.1)

one_unit : (c : Course) (dir : Direction) (m n n' : Memory) (b b1 b2 r t t' : List ℕ) (o o' : WalkState) (l l' : Course) → DoesFirst c dir m n b b1 r t → DoesFirst c dir m n' b b2 r t' → LeavesRest c o l → LeavesRest c o' l'
    → (o ≡ o') × (n ≡ n') × (b1 ≡ b2) × (t ≡ t')
one_unit (Closes v) dir m n n' b b1 b2 r t t' o o' l l' h g i j = absurd h
one_unit (Does a rest) dir m n n' b b1 b2 r t t' o o' l l' h g i j = let e = one_act dir a m n n' b b1 b2 r t t' h g in (i.0 ∙ sym j.0, e.0, e.1, e.2)

same_job : (j j' : JobContents) → Io j ≡ Io j' → j ≡ j'
same_job j j' e = cc

-- one place has the one member that passes a test
same_place : {A : Type 0} (p : A → Bool) (xs : List A) (i j : ℕ) (x y : A) → count_by p xs < 2 → slice_get xs i ≡ Some x → p x ≡ true → slice_get xs j ≡ Some y → p y ≡ true → i ≡ j
same_place p [] i j x y few at e at' e' = cc
same_place p (z ∷ xs) zero zero x y few at e at' e' = refl
same_place p (z ∷ xs) zero (suc j) x y few at e at' e' =
    let first : p z ≡ true = subst (λ w. p w ≡ true) (sym (some_is at)) e in
    absurd (omega (arith, few, count-cons p z xs, ap one first, here_counted p xs j y at' e'))
same_place p (z ∷ xs) (suc i) zero x y few at e at' e' =
    let first : p z ≡ true = subst (λ w. p w ≡ true) (sym (some_is at')) e' in
    absurd (omega (arith, few, count-cons p z xs, ap one first, here_counted p xs i x at e))
same_place p (z ∷ xs) (suc i) (suc j) x y few at e at' e' = ap suc (same_place p xs i j x y (omega (arith, few, count-cons p z xs)) at e at' e')

one_job : (m : Memory) (s : List ℕ) (job j j' : JobContents) (o o' : WalkState) (n n' : Memory) (t t' : List ℕ) → DoesUnit m s job o j n t → DoesUnit m s job o' j' n' t' → Io (record j { walk = None }) ≡ Io (record j' { walk = None })
one_job m s job j j' o o' n n' t t' u u' =
    let r = one_unit (job_course m job) (direction_of_entry job.entry) m n n' job.bytes _ _ s t t' o o' _ _ u.does u'.does u.leaves u'.leaves in
    let blocks = u.blocks ∙ sym u'.blocks in
    let entry = u.entry ∙ sym u'.entry in
    let verdict = u.verdict ∙ ap verdict_of r.0 ∙ sym u'.verdict in
    λ i. Io (record { blocks = blocks i; entry = entry i; bytes = r.2 i; walk = None; verdict = verdict i })

pub one_walk : WalksOneWay
one_walk c q cid m s o o' x x' n n' t t' is w w' =
    let a = w.among in
    let a' = w'.among in
    let p : FetchedCommand → Bool = is_command q cid in
    let k : a.command ≡ a'.command = same_found a.found a'.found in
    let job : a'.job ≡ a.job = same_job _ _ (sym a'.work ∙ (subst (λ (y : FetchedCommand). y.work ≡ Io a.job) k a.work)) in
    let u : DoesUnit m s a.job o' a'.job' n' t' = subst (λ (y : JobContents). DoesUnit m s y o' a'.job' n' t') job a'.unit in
    let r = one_unit (job_course m a.job) (direction_of_entry a.job.entry) m n n' a.job.bytes _ _ s t t' o o' _ _ a.unit.does u.does a.unit.leaves u.leaves in
    let place : a.place ≡ a'.place =
    same_place p c.commands a.place a'.place a.command a'.command (is.commands.differ q cid) a.at (found_is p c.commands a.command a.found) a'.at (found_is p c.commands a'.command a'.found) in
    let work = one_job m s a.job a.job' a'.job' o o' n n' t t' a.unit u in
    let command : unplaced_command (stepped a.job' a.command) ≡ unplaced_command (stepped a'.job' a'.command) =
    ap (λ (y : FetchedCommand). unplaced_command (stepped a.job' y)) k ∙ ap (λ (y : FetchedWork). record a'.command { units_done = a'.command.units_done + 1; work = y }) work in (
      r.0,
      record {
        queues = w.queues ∙ sym w'.queues;
        commands = ap (map unplaced_command) a.leaves ∙ map-set unplaced_command c.commands a.place (stepped a.job' a.command)
            ∙ ap₂ (λ (i : ℕ) (y : FetchedCommand). slice_set (map unplaced_command c.commands) i y) place command
            ∙ sym (ap (map unplaced_command) a'.leaves ∙ map-set unplaced_command c.commands a'.place (stepped a'.job' a'.command));
        image = w.image ∙ sym w'.image;
      },
      r.1,
      r.3,
    )

-- Completions

pub one_completion : CompletesOneWay
one_completion c q cid m r x x' n n' t t' w w' =
    let k : w.command ≡ w'.command = same_found w.found w'.found in
    let queue : w.queue ≡ w'.queue = same_found w.here w'.here in (
      w.leaves ∙ ap (λ (y : FetchedCommand). completed q cid y.work c) k ∙ sym w'.leaves,
      w.memory ∙ ap₂ (λ (y : FetchedCommand) (z : ControllerQueue). memory_posted m z.controller (completion_by q cid (status_of_end c.image y.work) (dw0_of_work y.work) z.controller)) k queue ∙ sym w'.memory,
      w.touches ∙ ap (λ (z : ControllerQueue). r ++ page_posted z.controller ∷ []) queue ∙ sym w'.touches,
    )

-- Fetches

one_look : (c : Contents) (m : Memory) (r : List ℕ) (q : ℕ) (e e' : SubEntry) (t t' : List ℕ) → LooksAt c m r q e t → LooksAt c m r q e' t' → (e ≡ e') × (t ≡ t')
one_look c m r q e e' t t' l l' =
    let controller : l.controller ≡ l'.controller = same_found l.here l'.here in (
      same_found l.at (ap (λ (d : ControllerSide). entry_at m d.sq d.ring.head) controller ∙ l'.at),
      l.touches ∙ ap (λ (d : ControllerSide). r ++ submission_page d.sq d.ring.head ∷ []) controller ∙ sym l'.touches,
    )

begun_alike : (image : List ℕ) (e : SubEntry) (q : ℕ) (j j' : JobContents) → IsBegun image e j → IsBegun image e j' → unplaced_command (command_of q (Io j)) ≡ unplaced_command (command_of q (Io j'))
begun_alike image e q j j' b b' =
    let blocks = b.blocks ∙ sym b'.blocks in
    let entry = b.entry ∙ sym b'.entry in
    let bytes = b.bytes ∙ sym b'.bytes in
    let verdict = b.verdict ∙ sym b'.verdict in
    λ i. command_of q (Io (record { blocks = blocks i; entry = entry i; bytes = bytes i; walk = None; verdict = verdict i }))

commands_begun : (c x : Contents) (q : ℕ) (j : JobContents) → x ≡ begun q j c → map unplaced_command x.commands ≡ map unplaced_command c.commands ++ unplaced_command (command_of q (Io j)) ∷ []
commands_begun c x q j is = ap (λ (y : Contents). map unplaced_command y.commands) is ∙ map-append unplaced_command c.commands (command_of q (Io j) ∷ [])

one_begin : (c : Contents) (q : ℕ) (e : SubEntry) (x x' : Contents) → Begins c q e x → Begins c q e x' → AreAlike x x'
one_begin c q e x x' b b' = record {
  queues = ap (λ (y : Contents). y.queues) b.leaves ∙ sym (ap (λ (y : Contents). y.queues) b'.leaves);
  commands = commands_begun c x q b.job b.leaves ∙ ap (λ (y : FetchedCommand). map unplaced_command c.commands ++ y ∷ []) (begun_alike c.image e q b.job b'.job b.is b'.is) ∙ sym (commands_begun c x' q b'.job b'.leaves);
  image = ap (λ (y : Contents). y.image) b.leaves ∙ sym (ap (λ (y : Contents). y.image) b'.leaves);
}

one_taken : (z : Bool) (c : Contents) (pages q : ℕ) (e : SubEntry) (x x' : Contents) → TakesIn z c pages q e x → TakesIn z c pages q e x' → AreAlike x x'
one_taken true c pages q e x x' h g =
    let same = h ∙ sym g in
    record { queues = ap (λ (y : Contents). y.queues) same; commands = ap (λ (y : Contents). map unplaced_command y.commands) same; image = ap (λ (y : Contents). y.image) same }
one_taken false c pages q e x x' h g = one_begin c q e x x' h g

one_take : (b : Bool) (c : Contents) (pages q : ℕ) (e : SubEntry) (m : Memory) (look : List ℕ) (x x' : Contents) (n n' : Memory) (t t' : List ℕ) → Takes b c pages q e m look x n t → Takes b c pages q e m look x' n' t' → AreAlike x x' × (n ≡ n') × (t ≡ t')
one_take true c pages q e m look x x' n n' t t' h g =
    let queue : h.0.queue ≡ g.0.queue = same_found h.0.here g.0.here in (
      record { queues = h.0.leaves ∙ sym g.0.leaves; commands = ap (map unplaced_command) (h.1 ∙ sym g.1); image = h.2 ∙ sym g.2 },
      h.0.memory ∙ ap (λ (z : ControllerQueue). memory_posted m z.controller (completion_by q e.cid COMMAND_ID_CONFLICT 0 (with_taken z).controller)) queue ∙ sym g.0.memory,
      h.0.touches ∙ ap (λ (z : ControllerQueue). look ++ page_posted z.controller ∷ []) queue ∙ sym g.0.touches,
    )
one_take false c pages q e m look x x' n n' t t' h g = (one_taken (q == 0) c pages q e x x' h.0 g.0, h.1 ∙ sym g.1, h.2 ∙ sym g.2)

takes_same : (c : Contents) (pages q : ℕ) (e e' : SubEntry) (m : Memory) (look look' : List ℕ) (x : Contents) (n : Memory) (t : List ℕ) → e ≡ e' → look ≡ look' → Takes (is_known c q e) c pages q e m look x n t → Takes (is_known c q e') c pages q e' m look' x n t
takes_same c pages q e e' m look look' x n t same looks h =
    subst (λ (l : List ℕ). Takes (is_known c q e') c pages q e' m l x n t) looks (subst (λ (y : SubEntry). Takes (is_known c q y) c pages q y m look x n t) same h)

pub one_fetch : FetchesOneWay
one_fetch c pages m s q cid cid' x x' n n' t t' w w' =
    let l = one_look c m s q w.entry w'.entry w.looked w'.looked w.looks w'.looks in
    let r = one_take (is_known c q w'.entry) c pages q w'.entry m w'.looked x x' n n' t t' (takes_same c pages q w.entry w'.entry m w.looked w'.looked x n t l.0 l.1 w.takes) w'.takes in
    (w.named ∙ ap (λ (e : SubEntry). e.cid) l.0 ∙ sym w'.named, r.0, r.1, r.2)

abbrev cause_of : Contents → Memory → ℕ → SubEntry → Option ControllerRefusal
cause_of c m q e = if is_known c q e then entry_refusal c m q e else Some refusal.Memory

pub one_refusal : RefusesOneWay
one_refusal c m r q why why' t t' = by_refusal (look_refusal c m q)
  where
    by_refusal : (o : Option ControllerRefusal) → RefusedBy o c m r q why t → RefusedBy o c m r q why' t' → (why ≡ why') × (t ≡ t')
    by_refusal (Some cause) h g = (h.0 ∙ sym g.0, h.1 ∙ sym g.1)
    by_refusal None h g =
        let l = one_look c m r q h.entry g.entry t t' h.looks g.looks in
        (same_found h.cause (ap (cause_of c m q) l.0 ∙ g.cause), l.1)

no_refusal : (c : Contents) (m : Memory) (r : List ℕ) (q : ℕ) (e : SubEntry) (t : List ℕ) → LooksAt c m r q e t → look_refusal c m q ≡ None
no_refusal c m r q e t l =
    ap (λ (o : Option ControllerSide). option_map_or (side_refusal m) o (Some refusal.Idle)) l.here
    ∙ ap (λ (b : Bool). if b then Some refusal.Idle else option_map_or (λ e. None) (entry_at m l.controller.sq l.controller.ring.head) (Some refusal.SlotOut)) (apart (l.controller.ring.head == l.controller.ring.bell) refl)
    ∙ ap (λ (o : Option SubEntry). option_map_or (λ e. None) o (Some refusal.SlotOut)) l.at
  where
    apart : (b : Bool) → (l.controller.ring.head == l.controller.ring.bell) ≡ b → (l.controller.ring.head == l.controller.ring.bell) ≡ false
    apart true h = absurd (l.rung (eqb-true l.controller.ring.head l.controller.ring.bell h))
    apart false h = h

pub served_unless_memory : ServedUnlessMemory
served_unless_memory c pages m s q cid why x n t t' w h =
    entry (subst (λ (o : Option ControllerRefusal). RefusedBy o c m s q why t') (no_refusal c m s q w.entry w.looked w.looks) h)
  where
    by : (b : Bool) → entry_refusal c m q w.entry ≡ None → (if b then entry_refusal c m q w.entry else Some refusal.Memory) ≡ Some why → why ≡ refusal.Memory
    by true room cause = cc
    by false room cause = cc

    entry : RefusedEntry c m s q why t' → why ≡ refusal.Memory
    entry r =
        let l = one_look c m s q w.entry r.entry w.looked t' w.looks r.looks in
        by (is_known c q w.entry) w.room (ap (cause_of c m q) l.0 ∙ r.cause)
