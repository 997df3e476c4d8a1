-- Commands that are changed where they stand, how many each queue has, and loops over them.
use Rattle.controller_core.specs.declared.refusal.ControllerRefusal.{ControllerRefusal}
use Rattle.controller_core.specs.declared.refusal.ControllerRefusal.TheVariants as refusal
use Rattle.controller_core.proofs.{Lists.{count-cons, count_set, one, swept, length-swept}, Managing.stopped_entry}
use Rattle.controller_core.proofs.Rows.{commands_put, distinct_with, place_is, place_named, named_with, cid_of, Rows, some_name, commands_of, stands_somewhere, value_found, named}
use Rattle.controller_core.{proofs.Awaited.count-more}
use Rattle.controller_core.specs.{Contents.{FetchedCommand, change, entry_of_work, is_command, FetchedWork, Contents}, Looks.{name_at, IsStuck}}
use Rattle.controller_core.specs.{Managing.{aborted, stopped_with_queue, stopped_work}, Tables.{AreNamed, AreCounted, Outstanding, count_of}}
use Rattle.controller_core.specs.Walking.{WalksOne, WalksAmong, ended_refusal, refusal_among}
use Rattle.std.proofs.Common.{◌≡◌, ℕ, zero, suc, ◌<◌, ◌==◌, not, Bool, true, false, Option, Some, None, List, [], ◌∷◌, ◌++◌, length, map, find, slice_get, slice_set, if◌then◌else◌, refl, ap, ap₂, sym, ◌∙◌, arith, subst, eqb-true, true≢false, inl, inr, ◌≤◌, IfSome, ◌+◌, ◌-◌, ◌||◌, get_or, replicate, drop, below_more, Result, Ok, Err, OnErr, IfOk}
use Rattle.std.proofs.lemmas.{Bool.{cases_Bool, eq-eqb}, Grind.get_or_default_zero, List.{get_or-set_same, get_or-set_other, get_or_past}}
use Rattle.std.{proofs.lemmas.{List.Sums.count_by-le-length, Option.none-some}, specs.{List.{count_by, list_any}, Option.{option_map_or}}}
use Rattle.slot_table.{proofs.Walks.eqb-turned, specs.Rows.{is_at, value_at, without, with_value, with_last, IsDistinct}}
use Rattle.controller_walk.specs.declared.walk.WalkState.{WalkState}
use Rattle.entry_codec.specs.declared.{status.TheConstants.Status.{ABORTED_SQ_DELETION, ABORT_REQUESTED}, submission.SubEntry.SubEntry}
use Rattle.page_memory.{proofs.Lists.some_is, specs.Memory.{Memory, TouchesMore}}

-- this many queues and these commands
abbrev pub outstanding : ℕ → List FetchedCommand → Outstanding
outstanding queues list = record { queues = queues; list = list }

-- A command that is changed where it stands in a table.

-- the same name
abbrev pub IsNamedAlike : FetchedCommand → FetchedCommand → Type 0
IsNamedAlike k k' = (k'.q ≡ k.q) × (cid_of k' ≡ cid_of k)

-- a table in which a command is changed, not its name
pub changed_named : (rows : Rows) (q cid : ℕ) (k k' : FetchedCommand) → AreNamed rows → IsDistinct rows → value_at rows q cid ≡ Some k → IsNamedAlike k k' → AreNamed (with_value rows q cid k') × IsDistinct (with_value rows q cid k')
changed_named rows q cid k k' n d has alike =
    let is = place_named rows q cid k n has in
    (named_with rows q cid k' n (alike.0 ∙ is.0) (alike.1 ∙ is.1), distinct_with rows q cid k' d)

-- A walk

one_alike : (k k' : FetchedCommand) (m m' : Memory) (reached reached' : List ℕ) (outcome : WalkState) → WalksOne k m reached outcome k' m' reached' → IsNamedAlike k k'
one_alike k k' m m' reached reached' outcome w = (
  ap (λ (x : FetchedCommand). x.q) w.leaves,
  ap cid_of w.leaves ∙ ap (λ (e : SubEntry). e.cid) w.unit.entry ∙ sym (ap (λ (work : FetchedWork). (entry_of_work work).cid) w.work),
)

walks_among : (rows : Rows) (q cid : ℕ) (k k' : FetchedCommand) (m m' : Memory) (reached reached' : List ℕ) (outcome : WalkState) → AreNamed rows → value_at rows q cid ≡ Some k → WalksOne k m reached outcome k' m' reached'
    → WalksAmong (commands_of rows) q cid m reached outcome (commands_of (with_value rows q cid k')) m' reached'
walks_among rows q cid k k' m m' reached reached' outcome n has w =
    let s = stands_somewhere rows q cid k n has in
    let at : slice_get (commands_of rows) s.place ≡ Some k = s.stands.at ∙ sym s.stands.value ∙ has in
    record {
      place = s.place;
      command = k;
      job = w.job;
      job' = w.job';
      found = value_found rows q cid k n has;
      at = at;
      work = w.work;
      going = w.going;
      unit = w.unit;
      leaves = s.stands.changed k' ∙ ap (slice_set (commands_of rows) s.place) w.leaves;
    }

-- why the walk of a command is refused, and of one that is not there
pub refusal_one : (commands : List FetchedCommand) (q cid : ℕ) (o : Option FetchedCommand) → find (is_command q cid) commands ≡ o → refusal_among commands q cid ≡ option_map_or ended_refusal o (Some refusal.NoJob)
refusal_one commands q cid o found = ap (λ (o : Option FetchedCommand). option_map_or ended_refusal o (Some refusal.NoJob)) found

pub few_one : (commands : List FetchedCommand) (q cid : ℕ) (k : FetchedCommand) → find (is_command q cid) commands ≡ Some k
    → (refusal_among commands q cid ≡ None → IfSome (find (is_command q cid) commands) (λ k. k.units_done ≤ 12545)) → ended_refusal k ≡ None → k.units_done ≤ 12545
few_one commands q cid k found few going = subst (λ (o : Option FetchedCommand). IfSome o (λ k. k.units_done ≤ 12545)) found (few (refusal_one commands q cid (Some k) found ∙ going))

-- a table in which a command is put back as it was
unchanged : (rows : Rows) (q cid : ℕ) (k : FetchedCommand) → value_at rows q cid ≡ Some k → with_value rows q cid k ≡ rows
unchanged [] q cid k has = refl
unchanged (row ∷ rows) q cid k has = by_row (is_at row q cid) has (unchanged rows q cid k)
  where
    by_row : (here : Bool) → (if here then Some row.value else value_at rows q cid) ≡ Some k → (value_at rows q cid ≡ Some k → with_value rows q cid k ≡ rows)
        → (if here then record row { value = k } ∷ rows else row ∷ with_value rows q cid k) ≡ row ∷ rows
    by_row true is behind = let same : row.value ≡ k = cc in rw (← same) refl
    by_row false is behind = ap (λ rest. row ∷ rest) (behind is)

-- What the walk of a command leaves of all commands, done or refused.
module _ (rows : Rows) (q cid : ℕ) (k k' : FetchedCommand) (m m' : Memory) (reached reached' : List ℕ) (n : AreNamed rows) (has : value_at rows q cid ≡ Some k) where
  abbrev WalkedOrSame : Result WalkState ControllerRefusal → Type 0
  WalkedOrSame r = OnErr r ((k' ≡ k) × (m' ≡ m) × (reached' ≡ reached)) × IfOk r (λ outcome. WalksOne k m reached outcome k' m' reached')

  pub walked_alike : (r : Result WalkState ControllerRefusal) → WalkedOrSame r → IsNamedAlike k k'
  walked_alike (Ok outcome) (_, w) = one_alike k k' m m' reached reached' outcome w
  walked_alike (Err why) (same, _) = (ap (λ (x : FetchedCommand). x.q) same.0, ap cid_of same.0)

  pub walked_among : (r : Result WalkState ControllerRefusal) → WalkedOrSame r → IfOk r (λ outcome. WalksAmong (commands_of rows) q cid m reached outcome (commands_of (with_value rows q cid k')) m' reached')
  walked_among (Ok outcome) (_, w) = walks_among rows q cid k k' m m' reached reached' outcome n has w
  walked_among (Err why) _ = tt

  pub refused_same : (queues : ℕ) (r : Result WalkState ControllerRefusal) → WalkedOrSame r
      → OnErr r ((outstanding queues (commands_of (with_value rows q cid k')) ≡ outstanding queues (commands_of rows)) × (m' ≡ m) × (reached' ≡ reached))
  refused_same queues (Ok outcome) _ = tt
  refused_same queues (Err why) (same, _) = (ap (λ x. outstanding queues (commands_of (with_value rows q cid x))) same.0 ∙ ap (λ (x : Rows). outstanding queues (commands_of x)) (unchanged rows q cid k has), same.1, same.2)

-- Commands that are stopped

pub stopped_alike : (q : ℕ) (k : FetchedCommand) → IsNamedAlike k (stopped_with_queue q k)
stopped_alike q k =
    elim (k.q == q) as (λ b. IsNamedAlike k (if b then record k { work = stopped_work ABORTED_SQ_DELETION k.work } else k)) [
      | true ↦ (refl, ap (λ (e : SubEntry). e.cid) (stopped_entry ABORTED_SQ_DELETION k.work))
      | false ↦ (refl, refl)
    ]

pub aborted_alike : (abort : ℕ) (k : FetchedCommand) → IsNamedAlike k (record k { work = stopped_work ABORT_REQUESTED k.work; waiting_abort = Some abort })
aborted_alike abort k = (refl, ap (λ (e : SubEntry). e.cid) (stopped_entry ABORT_REQUESTED k.work))

pub spared : (q cid abort : ℕ) (k : FetchedCommand) → is_command q cid k ≡ false → aborted q cid abort k ≡ k
spared q cid abort k other = rw other refl

pub stopped_one : (q cid abort : ℕ) (k : FetchedCommand) → is_command q cid k ≡ true → record k { work = stopped_work ABORT_REQUESTED k.work; waiting_abort = Some abort } ≡ aborted q cid abort k
stopped_one q cid abort k own = rw own refl

-- How many commands each queue has.

-- a place that was reached by an equal number
pub count_read : (counts : List ℕ) (q i n : ℕ) → i ≡ q → q < length counts → n ≡ get_or counts i n → n ≡ get_or counts q 0
count_read counts q i n same inside is = is ∙ get_or_default_zero counts i n (omega (arith, same, inside)) ∙ ap (λ (j : ℕ). get_or counts j 0) same

-- A queue that has a command

any_counted : {A : Type 0} (p : A → Bool) (xs : List A) → list_any p xs ≡ not (count_by p xs == 0)
any_counted p [] = refl
any_counted p (x ∷ xs) = by_test (p x) (any_counted p xs) ∙ ap (λ (n : ℕ). not (n == 0)) (sym (count-cons p x xs))
  where
    by_test : (b : Bool) → list_any p xs ≡ not (count_by p xs == 0) → (b || list_any p xs) ≡ not (one b + count_by p xs == 0)
    by_test true rest = grind arith
    by_test false rest = rest ∙ ap (λ (n : ℕ). not (n == 0)) (omega arith)

-- the count tells it
pub any_count : (commands : List FetchedCommand) (q n : ℕ) → n ≡ count_of commands q → not (n == 0) ≡ list_any (λ k. k.q == q) commands
any_count commands q n is = ap (λ (m : ℕ). not (m == 0)) is ∙ sym (any_counted (λ (k : FetchedCommand). k.q == q) commands)

pub counted_here : (counts : List ℕ) (commands : List FetchedCommand) (q i n : ℕ) → AreCounted counts commands → i ≡ q → n ≡ get_or counts i 0 → n ≡ count_of commands q
counted_here counts commands q i n are same at = at ∙ ap (λ (j : ℕ). get_or counts j 0) same ∙ are q

pub counted_nowhere : (counts : List ℕ) (commands : List FetchedCommand) (q i : ℕ) → AreCounted counts commands → i ≡ q → length counts ≤ i → 0 ≡ count_of commands q
counted_nowhere counts commands q i are same past = sym (get_or_past counts i 0 past) ∙ ap (λ (j : ℕ). get_or counts j 0) same ∙ are q

-- No commands

pub none_counted : (n : ℕ) (counts : List ℕ) → counts ≡ replicate {A = ℕ} n 0 → AreCounted counts []
none_counted n counts zeros q = ap (λ (xs : List ℕ). get_or xs q 0) zeros ∙ each_is_zero n q
  where
    each_is_zero : (n q : ℕ) → get_or (replicate {A = ℕ} n 0) q 0 ≡ 0
    each_is_zero zero q = refl
    each_is_zero (suc n) zero = refl
    each_is_zero (suc n) (suc q) = each_is_zero n q

-- A command more

pub few_counted : (counts : List ℕ) (commands : List FetchedCommand) (q : ℕ) → AreCounted counts commands → get_or counts q 0 ≤ length commands
few_counted counts commands q are = omega (arith, are q, count_by-le-length (λ (k : FetchedCommand). k.q == q) commands)

with_count : (counts : List ℕ) (q i n : ℕ) → q < length counts → get_or (slice_set counts q n) i 0 ≡ (if i == q then n else get_or counts i 0)
with_count counts q i n inside =
    elim (cases_Bool (i == q)) [
      | inl same ↦ rw same (ap (λ (j : ℕ). get_or (slice_set counts q n) j 0) (eqb-true i q same) ∙ get_or-set_same counts q n 0 inside)
      | inr other ↦ rw other (get_or-set_other counts q i n 0 (λ is. true≢false (sym (eq-eqb i q is) ∙ other)))
    ]

pub length_row : (rows : Rows) (q cid : ℕ) (k : FetchedCommand) → length (with_last rows q cid k) ≡ length (commands_of rows) + 1
length_row [] q cid k = omega arith
length_row (row ∷ rows) q cid k = omega (arith, length_row rows q cid k)

one_more : (counts : List ℕ) (commands : List FetchedCommand) (k : FetchedCommand) (n : ℕ) → AreCounted counts commands → k.q < length counts → n ≡ get_or counts k.q 0 → AreCounted (slice_set counts k.q (n + 1)) (commands ++ k ∷ [])
one_more counts commands k n are inside is i =
    let more : count_of (commands ++ k ∷ []) i ≡ count_of commands i + one (k.q == i) = count-more (λ (k : FetchedCommand). k.q == i) commands k in
    with_count counts k.q i (n + 1) inside ∙ (elim (cases_Bool (i == k.q)) [
      | inl same ↦ rw same (omega (arith, is, are k.q, ap one (eqb-turned k.q i ∙ same), ap (count_of commands) (eqb-true i k.q same)))
      | inr other ↦ rw other (omega (arith, are i, ap one (eqb-turned k.q i ∙ other)))
    ]) ∙ sym more

pub counted_put : (counts : List ℕ) (rows : Rows) (cid : ℕ) (k : FetchedCommand) (i n : ℕ) → AreCounted counts (commands_of rows) → k.q < length counts → i ≡ k.q → n ≡ get_or counts i n
    → AreCounted (slice_set counts i (n + 1)) (commands_of (with_last rows k.q cid k))
counted_put counts rows cid k i n are inside same is =
    subst (AreCounted (slice_set counts i (n + 1))) (sym (commands_put rows k.q cid k))
    (subst (λ (j : ℕ). AreCounted (slice_set counts j (n + 1)) (commands_of rows ++ k ∷ [])) (sym same) (one_more counts (commands_of rows) k n are inside (count_read counts k.q i n same inside is)))

-- A command less

less : (rows : Rows) (q cid i : ℕ) (k : FetchedCommand) → AreNamed rows → value_at rows q cid ≡ Some k → count_of (commands_of rows) i ≡ one (q == i) + count_of (commands_of (without rows q cid)) i
less [] q cid i k n has = absurd (none-some k has)
less (row ∷ rows) q cid i k n has =
    let p : FetchedCommand → Bool = λ (k : FetchedCommand). k.q == i in
    elim (cases_Bool (is_at row q cid)) [
      | inl here ↦
          (let queue : row.value.q ≡ q = n.0 ∙ (place_is row q cid here).0 in
          rw here (count-cons p row.value (commands_of rows) ∙ ap (λ (r : ℕ). one (r == i) + count_of (commands_of rows) i) queue))
      | inr other ↦
          (let rest = less rows q cid i k n.2 (rw other at has) in
          let first = count-cons p row.value (commands_of rows) in
          let second = count-cons p row.value (commands_of (without rows q cid)) in
          rw other (omega (arith, rest, first, second)))
    ]

-- it was counted
pub one_counted : (counts : List ℕ) (rows : Rows) (q cid : ℕ) (k : FetchedCommand) → AreNamed rows → AreCounted counts (commands_of rows) → value_at rows q cid ≡ Some k → 0 < get_or counts q 0
one_counted counts rows q cid k n are has = omega (arith, are q, less rows q cid q k n has, ap one (eq-eqb q q refl))

pub place_counted : (counts : List ℕ) (rows : Rows) (q cid : ℕ) (k : FetchedCommand) → AreNamed rows → AreCounted counts (commands_of rows) → value_at rows q cid ≡ Some k → q < length counts
place_counted counts rows q cid k n are has = inside counts q (one_counted counts rows q cid k n are has)
  where
    inside : (counts : List ℕ) (q : ℕ) → 0 < get_or counts q 0 → q < length counts
    inside [] q h = absurd (omega (arith, h))
    inside (x ∷ xs) zero h = omega arith
    inside (x ∷ xs) (suc q) h = omega (arith, inside xs q h)

one_less : (counts : List ℕ) (rows : Rows) (q cid n : ℕ) (k : FetchedCommand) → AreNamed rows → AreCounted counts (commands_of rows) → value_at rows q cid ≡ Some k → n ≡ get_or counts q 0
    → AreCounted (slice_set counts q (n - 1)) (commands_of (without rows q cid))
one_less counts rows q cid n k names are has is i =
    with_count counts q i (n - 1) (place_counted counts rows q cid k names are has) ∙ by_queue (i == q) refl
  where
    by_queue : (b : Bool) → (i == q) ≡ b → (if b then n - 1 else get_or counts i 0) ≡ count_of (commands_of (without rows q cid)) i
    by_queue true same =
        let own : i ≡ q = eqb-true i q same in
        omega (arith, is, are q, less rows q cid q k names has, ap one (eq-eqb q q refl), ap (count_of (commands_of (without rows q cid))) own)
    by_queue false other = omega (arith, are i, less rows q cid i k names has, ap one (eqb-turned q i ∙ other))

pub counted_without : (counts : List ℕ) (rows : Rows) (q cid i n : ℕ) (k : FetchedCommand) → AreNamed rows → AreCounted counts (commands_of rows) → value_at rows q cid ≡ Some k → i ≡ q → n ≡ get_or counts i n
    → AreCounted (slice_set counts i (n - 1)) (commands_of (without rows q cid))
counted_without counts rows q cid i n k names are has same is =
    subst (λ (j : ℕ). AreCounted (slice_set counts j (n - 1)) (commands_of (without rows q cid))) (sym same)
    (one_less counts rows q cid n k names are has (count_read counts q i n same (place_counted counts rows q cid k names are has) is))

-- A command that is changed where it stands

pub counted_with : (counts : List ℕ) (rows : Rows) (q cid : ℕ) (k k' : FetchedCommand) → AreNamed rows → AreCounted counts (commands_of rows) → value_at rows q cid ≡ Some k → k'.q ≡ k.q → AreCounted counts (commands_of (with_value rows q cid k'))
counted_with counts rows q cid k k' n are has same i =
    let s = stands_somewhere rows q cid k n has in
    let at : slice_get (commands_of rows) s.place ≡ Some k = s.stands.at ∙ sym s.stands.value ∙ has in
    are i ∙ sym (ap (λ (ks : List FetchedCommand). count_of ks i) (s.stands.changed k') ∙ count_set (λ (k : FetchedCommand). k.q == i) (commands_of rows) s.place k k' at (ap (λ (r : ℕ). r == i) same))

-- what always holds of commands in a table
abbrev pub IsKept : List ℕ → Rows → Type 0
IsKept counts rows = AreNamed rows × IsDistinct rows × AreCounted counts (commands_of rows)

pub changed_kept : (counts : List ℕ) (rows : Rows) (q cid : ℕ) (k k' : FetchedCommand) → IsKept counts rows → value_at rows q cid ≡ Some k → IsNamedAlike k k' → IsKept counts (with_value rows q cid k')
changed_kept counts rows q cid k k' kept has alike =
    let named = changed_named rows q cid k k' kept.0 kept.1 has alike in
    (named.0, named.1, counted_with counts rows q cid k k' kept.0 kept.2 has alike.0)

-- Loops over the commands, from name to name.

-- the command that has a name
pub record Named (xs : List FetchedCommand) (n q cid : ℕ) : Type 0 where
  pub command : FetchedCommand
  pub at : slice_get xs n ≡ Some command
  pub queue : command.q ≡ q
  pub identifier : cid_of command ≡ cid

pub named_here : (xs : List FetchedCommand) (n q cid : ℕ) → name_at xs n ≡ some_name q cid → Named xs n q cid
named_here [] n q cid is = absurd (none-some _ is)
named_here (y ∷ ys) zero q cid is =
    let same : (y.q, cid_of y) ≡ (q, cid) = cc in
    record { command = y; at = refl; queue = ap (λ (p : ℕ × ℕ). p.0) same; identifier = ap (λ (p : ℕ × ℕ). p.1) same }
named_here (y ∷ ys) (suc n) q cid is =
    let rest = named_here ys n q cid is in
    record { command = rest.command; at = rest.at; queue = rest.queue; identifier = rest.identifier }

-- Names stay as commands are stopped.
pub swept_names : (q i n : ℕ) (xs : List FetchedCommand) → name_at (swept (stopped_with_queue q) i xs) n ≡ name_at xs n
swept_names q zero n xs = refl
swept_names q (suc i) n [] = refl
swept_names q (suc i) zero (x ∷ xs) = ap₂ some_name (stopped_alike q x).0 (stopped_alike q x).1
swept_names q (suc i) (suc n) (x ∷ xs) = swept_names q i n xs

swept_change : {A : Type 0} (f : A → A) (i : ℕ) (xs : List A) → change i f (swept f i xs) ≡ swept f (suc i) xs
swept_change f zero [] = refl
swept_change f zero (x ∷ xs) = refl
swept_change f (suc i) [] = refl
swept_change f (suc i) (x ∷ xs) = ap (λ ys. f x ∷ ys) (swept_change f i xs)

pub swept_more : (q i : ℕ) (xs ys : List FetchedCommand) → ys ≡ swept (stopped_with_queue q) i xs → change i (stopped_with_queue q) ys ≡ swept (stopped_with_queue q) (i + 1) xs
swept_more q i xs ys is =
    let more : suc i ≡ i + 1 = omega arith in
    ap (change i (stopped_with_queue q)) is ∙ swept_change (stopped_with_queue q) i xs ∙ ap (λ (k : ℕ). swept (stopped_with_queue q) k xs) more

pub swept_named : (q i n : ℕ) (xs ys : List FetchedCommand) → ys ≡ swept (stopped_with_queue q) i xs → name_at ys n ≡ name_at xs n
swept_named q i n xs ys is = ap (λ (zs : List FetchedCommand). name_at zs n) is ∙ swept_names q i n xs

pub swept_length : (q i : ℕ) (xs ys : List FetchedCommand) → ys ≡ swept (stopped_with_queue q) i xs → length ys ≡ length xs
swept_length q i xs ys is = ap length is ∙ length-swept (stopped_with_queue q) i xs

-- The sweep ends with the last command of the queue.
one_fixed : (q : ℕ) (x : FetchedCommand) → (x.q == q) ≡ false → stopped_with_queue q x ≡ x
one_fixed q x other = rw other refl

all_fixed : (q : ℕ) (xs : List FetchedCommand) → count_of xs q ≡ 0 → xs ≡ map (stopped_with_queue q) xs
all_fixed q [] none = refl
all_fixed q (x ∷ xs) none = by_queue (x.q == q) refl (count-cons (λ (k : FetchedCommand). k.q == q) x xs) (all_fixed q xs)
  where
    by_queue : (b : Bool) → (x.q == q) ≡ b → count_of (x ∷ xs) q ≡ one (x.q == q) + count_of xs q → (count_of xs q ≡ 0 → xs ≡ map (stopped_with_queue q) xs) → x ∷ xs ≡ map (stopped_with_queue q) (x ∷ xs)
    by_queue true own cons rest = absurd (omega (arith, cons, none, ap one own))
    by_queue false other cons rest = ap₂ (λ (y : FetchedCommand) (ys : List FetchedCommand). y ∷ ys) (sym (one_fixed q x other)) (rest (omega (arith, cons, none)))

pub swept_rest : (q i : ℕ) (xs : List FetchedCommand) → count_of (drop i xs) q ≡ 0 → swept (stopped_with_queue q) i xs ≡ map (stopped_with_queue q) xs
swept_rest q zero xs none = all_fixed q xs none
swept_rest q (suc i) [] none = refl
swept_rest q (suc i) (x ∷ xs) none = ap (λ ys. stopped_with_queue q x ∷ ys) (swept_rest q i xs none)

skip : (q i : ℕ) (xs : List FetchedCommand) (x : FetchedCommand) → slice_get xs i ≡ Some x → (x.q == q) ≡ false → swept (stopped_with_queue q) i xs ≡ swept (stopped_with_queue q) (suc i) xs
skip q i [] x at other = absurd (none-some x at)
skip q zero (y ∷ ys) x at other =
    let same : y ≡ x = cc in
    ap (λ z. z ∷ ys) (sym (one_fixed q y (ap (λ (k : FetchedCommand). k.q == q) same ∙ other)))
skip q (suc i) (y ∷ ys) x at other = ap (λ zs. stopped_with_queue q y ∷ zs) (skip q i ys x at other)

-- a command of another queue stays as it is
pub swept_skip : (q i : ℕ) (xs : List FetchedCommand) (x : FetchedCommand) → slice_get xs i ≡ Some x → (x.q == q) ≡ false → swept (stopped_with_queue q) i xs ≡ swept (stopped_with_queue q) (i + 1) xs
swept_skip q i xs x at other =
    let more : suc i ≡ i + 1 = omega arith in
    skip q i xs x at other ∙ ap (λ (k : ℕ). swept (stopped_with_queue q) k xs) more

left : (q i : ℕ) (xs : List FetchedCommand) (x : FetchedCommand) → slice_get xs i ≡ Some x → count_of (drop i xs) q ≡ one (x.q == q) + count_of (drop (suc i) xs) q
left q i [] x at = absurd (none-some x at)
left q zero (y ∷ ys) x at =
    let same : y ≡ x = cc in
    count-cons (λ (k : FetchedCommand). k.q == q) y ys ∙ ap (λ (k : FetchedCommand). one (k.q == q) + count_of ys q) same
left q (suc i) (y ∷ ys) x at = left q i ys x at

-- how many of the queue are left after the next
pub left_next : (q i : ℕ) (xs : List FetchedCommand) (x : FetchedCommand) → slice_get xs i ≡ Some x → count_of (drop i xs) q ≡ one (x.q == q) + count_of (drop (i + 1) xs) q
left_next q i xs x at =
    let more : suc i ≡ i + 1 = omega arith in
    left q i xs x at ∙ ap (λ (k : ℕ). one (x.q == q) + count_of (drop k xs) q) more

-- What looks at a controller tell of all its commands.

found-place : {A : Type 0} (p : A → Bool) (xs : List A) (x : A) → find p xs ≡ Some x → (k : ℕ) × (k < length xs) × (slice_get xs k ≡ Some x)
found-place p [] x h = cc
found-place p (y ∷ xs) x h = by_test (p y) h (found-place p xs x)
  where
    by_test : (b : Bool) → (if b then Some y else find p xs) ≡ Some x → (find p xs ≡ Some x → (k : ℕ) × (k < length xs) × (slice_get xs k ≡ Some x)) → (k : ℕ) × (k < length (y ∷ xs)) × (slice_get (y ∷ xs) k ≡ Some x)
    by_test true h later = (zero, omega arith, h)
    by_test false h later = let found = later h in let within = found.1 in (suc found.0, omega arith, found.2)

-- a command more that is stuck
pub stuck_named : (c : Contents) (m : Memory) (n q cid : ℕ)
    → ((k : ℕ) → k < n → (y : FetchedCommand) → slice_get c.commands k ≡ Some y → IsStuck c m y.q (entry_of_work y.work).cid)
    → name_at c.commands n ≡ some_name q cid → IsStuck c m q cid
    → (k : ℕ) → k < n + 1 → (y : FetchedCommand) → slice_get c.commands k ≡ Some y → IsStuck c m y.q (entry_of_work y.work).cid
stuck_named c m n q cid kept name stuck =
    let is = named_here c.commands n q cid name in
    below_more (λ k. (y : FetchedCommand) → slice_get c.commands k ≡ Some y → IsStuck c m y.q (entry_of_work y.work).cid) n kept (λ y at.
    let same : is.command ≡ y = some_is (sym is.at ∙ at) in
    subst (λ (x : FetchedCommand). IsStuck c m x.q (entry_of_work x.work).cid) same
    (subst (λ (r : ℕ). IsStuck c m r (entry_of_work is.command.work).cid) (sym is.queue) (subst (λ (d : ℕ). IsStuck c m q d) (sym is.identifier) stuck)))

-- no name, no command more
pub past_names : (xs : List FetchedCommand) (n : ℕ) → name_at xs n ≡ None → length xs ≤ n
past_names [] n none = omega arith
past_names (x ∷ xs) zero none = cc
past_names (x ∷ xs) (suc n) none = omega (arith, past_names xs n none)

-- where each command is stuck, each name is
pub all_stuck : (c : Contents) (m : Memory) (n : ℕ) → length c.commands ≤ n
    → ((k : ℕ) → k < n → (x : FetchedCommand) → slice_get c.commands k ≡ Some x → IsStuck c m x.q (entry_of_work x.work).cid) → (q cid : ℕ) → IsStuck c m q cid
all_stuck c m n past below q cid = by_command (find (is_command q cid) c.commands) refl
  where
    by_command : (o : Option FetchedCommand) → find (is_command q cid) c.commands ≡ o → IsStuck c m q cid
    by_command None none = (rw none refl, rw none refl)
    by_command (Some x) found =
        let (k, within, at) = found-place (is_command q cid) c.commands x found in
        let is = named q cid c.commands x found in
        let stuck : IsStuck c m x.q (entry_of_work x.work).cid = below k (omega arith) x at in
        subst (λ (cid : ℕ). IsStuck c m q cid) is.1 (subst (λ (q : ℕ). IsStuck c m q (entry_of_work x.work).cid) is.0 stuck)

-- a look that touches nothing more
pub no_more_touches : (u0 u u' : ℕ) (reached0 reached reached' : List ℕ) → TouchesMore u0 reached0 0 u reached → TouchesMore u reached 0 u' reached' → TouchesMore u0 reached0 0 u' reached'
no_more_touches u0 u u' reached0 reached reached' before now = omega (arith, before, now)
