-- Claims are counted.
use Rattle.std.proofs.Common.{◌≡◌, ℕ, zero, suc, Bool, true, Some, List, [], ◌∷◌, find, slice_get, refl, ap, subst, ◌+◌, ◌<◌, ◌≤◌, ◌==◌, nat_lt, false, not, ◌&&◌, ◌++◌, length, filter, if◌then◌else◌, sym, ◌∙◌, arith, eqb-true, eq-eqb, lt-ltb, le-ltb, map}
use Rattle.std.{proofs.lemmas.Bool.{true≢false}, specs.List.{AllByRecursion, list_all}}
use Rattle.machine_model.specs.{After.{change, joined_in_order}, Memory.zeroed_pages, Placement.{without_numbers, first_of_run}}
use Rattle.machine_model.specs.{State.{Record, is_at, without_record, with_record}, Step.times}
use Rattle.page_ledger.{proofs.Pages.pages_from-suc, specs.Owners.{is_among, pages_from}}
use Rattle.io_commands.specs.Values.{numbers_of}
use Rattle.page_memory.proofs.Lists.{found_is, all-at, some_is}
pub use Rattle.machine_model.specs.Weights.{one, total, here}

-- What holds of all in a list, of one that is found, and as one is changed.

pub all_changed : {A : Type 0} (P : A → Type 0) (k : ℕ) (f : A → A) (xs : List A) → ((x : A) → slice_get xs k ≡ Some x → P x → P (f x)) → AllByRecursion P xs → AllByRecursion P (change k f xs)
all_changed P k f [] each h = tt
all_changed P zero f (x ∷ xs) each h = (each x refl h.0, h.1)
all_changed P (suc k) f (x ∷ xs) each h = (h.0, all_changed P k f xs each h.1)

-- one that is changed, and another
pub get_changed : {A : Type 0} (k : ℕ) (f : A → A) (xs : List A) (x : A) → slice_get xs k ≡ Some x → slice_get (change k f xs) k ≡ Some (f x)
get_changed k f [] x e = absurd cc
get_changed zero f (y ∷ xs) x e = let same : y ≡ x = cc in ap (λ z. Some (f z)) same
get_changed (suc k) f (y ∷ xs) x e = get_changed k f xs x e

pub get_other : {A : Type 0} (k : ℕ) (f : A → A) (xs : List A) (q : ℕ) → (k ≡ q → ⊥) → slice_get (change k f xs) q ≡ slice_get xs q
get_other zero f (y ∷ xs) zero far = absurd (far refl)
get_other (suc k) f (y ∷ xs) (suc q) far = get_other k f xs q (λ e. far (ap suc e))
get_other k f xs q far = refl

-- How often a number occurs in a list.

counted : (b : Bool) (n : ℕ) → (if b then 1 + n else n) ≡ one b + n
counted b n = grind arith

pub times-cons : (p x : ℕ) (xs : List ℕ) → times p (x ∷ xs) ≡ one (x == p) + times p xs
times-cons p x xs = counted (x == p) (times p xs)

pub times-append : (p : ℕ) (xs ys : List ℕ) → times p (xs ++ ys) ≡ times p xs + times p ys
times-append p [] ys = omega arith
times-append p (x ∷ xs) ys = omega (arith, times-cons p x (xs ++ ys), times-cons p x xs, times-append p xs ys)

-- a filter keeps a number everywhere or nowhere
kept : (p x : ℕ) (f : ℕ → Bool) (xs : List ℕ) (b e : Bool) → f x ≡ b → (x == p) ≡ e → times p (filter f xs) ≡ (if f p then times p xs else 0)
    → times p (if b then x ∷ filter f xs else filter f xs) ≡ (if f p then times p (x ∷ xs) else 0)
kept p x f xs b e fb xe ih = grind arith

pub times-filter : (p : ℕ) (f : ℕ → Bool) (xs : List ℕ) → times p (filter f xs) ≡ (if f p then times p xs else 0)
times-filter p f [] = grind arith
times-filter p f (x ∷ xs) = kept p x f xs (f x) (x == p) refl refl (times-filter p f xs)

-- a list holds a number where it occurs in it at least once
pub held_once : (p : ℕ) (xs : List ℕ) → is_among xs p ≡ true → 0 < times p xs
held_once p [] h = absurd (true≢false (sym h))
held_once p (x ∷ xs) h = grind (arith, held_once p xs)

pub not_held : (p : ℕ) (xs : List ℕ) → is_among xs p ≡ false → times p xs ≡ 0
not_held p [] h = refl
not_held p (x ∷ xs) h = grind (arith, not_held p xs)

times_here : (p x : ℕ) (xs : List ℕ) → (x == p) ≡ true → times p (x ∷ xs) ≡ 1 + times p xs
times_here p x xs e = rw e refl

times_there : (p x : ℕ) (xs : List ℕ) → (x == p) ≡ false → times p (x ∷ xs) ≡ times p xs
times_there p x xs e = rw e refl

pub times-pages : (p count : ℕ) → times p (pages_from 0 count) ≡ one (nat_lt p count)
times-pages p zero = sym (ap one (le-ltb p 0 (omega arith)))
times-pages p (suc n) = ap (times p) (pages_from-suc 0 n ∙ ap (λ (q : ℕ). pages_from 0 n ++ q ∷ []) (omega arith)) ∙ by_page (n == p) refl (times-pages p n)
  where
    by_page : (b : Bool) → (n == p) ≡ b → times p (pages_from 0 n) ≡ one (nat_lt p n) → times p (pages_from 0 n ++ n ∷ []) ≡ one (nat_lt p (suc n))
    by_page true e ih = grind (arith, eqb-true, le-ltb, lt-ltb, times-append, times_here)
    by_page false e ih = grind (arith, times-append, times_there)

-- what is granted goes from the free numbers
pub times_granted : (p : ℕ) (pages free : List ℕ) → times p pages ≡ (if is_among pages p && is_among free p then 1 else 0) → times p free ≤ 1
    → times p (without_numbers pages free) + times p pages ≡ times p free
times_granted p pages free are few = grind (arith, true, times-filter, held_once, false, not_held)

-- what comes back joins them
pub times_joined : (p count : ℕ) (pages free : List ℕ) → times p free + times p pages ≤ one (nat_lt p count)
    → times p (joined_in_order count pages free) ≡ times p free + times p pages
times_joined p count pages free few = grind (arith, nat_lt, times-filter, false, times-pages, true, held_once, not_held)

-- numbers that are those below a bound, each once, are as many
pub length_of_all : (count : ℕ) (xs : List ℕ) → ((p : ℕ) → times p xs ≡ one (nat_lt p count)) → length xs ≡ count
length_of_all zero [] h = refl
length_of_all zero (x ∷ xs) h = absurd (let e = h x ∙ (ap one (le-ltb x 0 (omega arith))) in let t = times_here x x xs (eq-eqb x x refl) in omega arith)
length_of_all (suc n) xs h =
    let cut : length (filter (λ x. not (x == n)) xs) + 1 ≡ length xs = let l : nat_lt n (suc n) ≡ true = lt-ltb n (suc n) (omega arith) in omega (arith, length_cut n xs, h n ∙ ap one l) in
    omega (arith, cut, each (length_of_all n (filter (λ x. not (x == n)) xs)))
  where
    length_cut : (n : ℕ) (ys : List ℕ) → length (filter (λ x. not (x == n)) ys) + times n ys ≡ length ys
    length_cut n [] = refl
    length_cut n (y ∷ ys) = grind (arith, length_cut n ys)

    each : (((p : ℕ) → times p (filter (λ x. not (x == n)) xs) ≡ one (nat_lt p n)) → length (filter (λ x. not (x == n)) xs) ≡ n) → length (filter (λ x. not (x == n)) xs) ≡ n
    each from_counts = grind (arith, filter, nat_lt, true, eqb-true, false, le-ltb, times-filter)

-- Sums over the records of a host.

pub total-append : {A : Type 0} (w : A → ℕ) (xs ys : List A) → total w (xs ++ ys) ≡ total w xs + total w ys
total-append w [] ys = omega arith
total-append w (x ∷ xs) ys = omega (arith, total-append w xs ys)

pub total-map : {A : Type 0} (w : A → ℕ) (f : A → A) → ((x : A) → w (f x) ≡ w x) → (xs : List A) → total w (map f xs) ≡ total w xs
total-map w f same [] = refl
total-map w f same (x ∷ xs) = omega (arith, same x, total-map w f same xs)

pub times-outstanding : (cid q : ℕ) (records : List Record) → times cid (map (λ r. r.cid) (filter (λ r. r.q == q) records)) ≡ total (here q cid) records
times-outstanding cid q [] = refl
times-outstanding cid q (r ∷ records) = grind (arith, times-outstanding cid q records)

-- where none is there, nothing is changed or left out
none_without : (q cid : ℕ) (records : List Record) → total (here q cid) records ≡ 0 → without_record q cid records ≡ records
none_without q cid [] none = refl
none_without q cid (r ∷ records) none = grind (arith, none_without q cid records)

none_with : (q cid : ℕ) (f : Record → Record) (records : List Record) → total (here q cid) records ≡ 0 → with_record q cid f records ≡ records
none_with q cid f [] none = refl
none_with q cid f (r ∷ records) none = grind (arith, none_with q cid f records)

-- the sum without one record, and with one changed, where its identifier is outstanding once
pub total_without : (w : Record → ℕ) (q cid : ℕ) (records : List Record) (r : Record) → find (is_at q cid) records ≡ Some r → total (here q cid) records < 2
    → total w (without_record q cid records) + w r ≡ total w records
total_without w q cid [] r found once = absurd cc
total_without w q cid (x ∷ records) r found once = grind (arith, total_without w q cid records r, some_is, none_without)

pub total_with : (w : Record → ℕ) (q cid : ℕ) (f : Record → Record) (records : List Record) (r : Record) → find (is_at q cid) records ≡ Some r → total (here q cid) records < 2
    → total w (with_record q cid f records) + w r ≡ total w records + w (f r)
total_with w q cid f [] r found once = absurd cc
total_with w q cid f (x ∷ records) r found once = grind (arith, total_with w q cid f records r, some_is, none_with)

-- a filter lessens a sum
pub total-filter : {A : Type 0} (w : A → ℕ) (f : A → Bool) (xs : List A) → total w (filter f xs) ≤ total w xs
total-filter w f [] = omega arith
total-filter w f (x ∷ xs) = grind (arith, total-filter w f xs)

-- a sum over queues as one is changed
pub total-change_same : {A : Type 0} (w : A → ℕ) (f : A → A) → ((x : A) → w (f x) ≡ w x) → (k : ℕ) (xs : List A) → total w (change k f xs) ≡ total w xs
total-change_same w f same k [] = refl
total-change_same w f same zero (x ∷ xs) = ap (λ n. n + total w xs) (same x)
total-change_same w f same (suc k) (x ∷ xs) = ap (λ n. w x + n) (total-change_same w f same k xs)

pub total-change : {A : Type 0} (w : A → ℕ) (f : A → A) (k : ℕ) (xs : List A) (x : A) → slice_get xs k ≡ Some x → total w (change k f xs) + w x ≡ total w xs + w (f x)
total-change w f k [] x e = absurd cc
total-change w f zero (y ∷ xs) x e = grind (arith, some_is)
total-change w f (suc k) (y ∷ xs) x e = omega (arith, total-change w f k xs x e)

-- Runs of free pages: each page of a run is free and occurs in it once.

-- none of them occurs twice
none_before : (p first count : ℕ) → p < first → times p (pages_from first count) ≡ 0
none_before p first zero l = refl
none_before p first (suc count) l = grind (arith, none_before p (first + 1) count, times-cons)

pub once_in_run : (p first count : ℕ) → times p (pages_from first count) ≤ 1
once_in_run p first zero = omega arith
once_in_run p first (suc count) = grind (arith, once_in_run p (first + 1) count, eqb-true, times-cons, none_before)

pub all_among : (pages free : List ℕ) (p : ℕ) → list_all (is_among free) pages ≡ true → is_among pages p ≡ true → is_among free p ≡ true
all_among [] free p all h = absurd (true≢false (sym h))
all_among (x ∷ pages) free p all h = grind (arith, all_among pages free p, eqb-true)

-- the lowest run of free pages takes free pages, each once
pub run_times : (free : List ℕ) (count first : ℕ) → first_of_run free count ≡ Some first → (p : ℕ)
    → times p (pages_from first count) ≡ (if is_among (pages_from first count) p && is_among free p then 1 else 0)
run_times free count first is p = grind (arith, all_among, found_is, held_once, once_in_run, not_held)

-- pages of zeros have the numbers that they were made with
pub zeroed_numbers : (pages : List ℕ) → numbers_of (zeroed_pages pages) ≡ pages
zeroed_numbers [] = refl
zeroed_numbers (p ∷ pages) = ap (λ (more : List ℕ). p ∷ more) (zeroed_numbers pages)
