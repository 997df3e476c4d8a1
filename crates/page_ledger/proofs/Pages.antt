-- Consecutive pages, those of them that pass a test, and the search for the lowest run.
use Rattle.std.proofs.Common.{◌≡◌, ◌≢◌, ℕ, zero, suc, ◌+◌, ◌-◌, ◌<◌, ◌≤◌, ◌⊎◌, inl, inr, Bool, true, false, cond, Some, None, List, [], ◌∷◌, ◌++◌, length, filter, find, take, get_or, refl, ap, sym, ◌∙◌, arith, subst, add-one, add-zero, ◌↔◌, Option}
use Rattle.std.proofs.lemmas.{Bool.{cases_eq, cases_Bool, true≢false, cases_lt}, List.{append-nil, take_at, Elements.filter-append}, Option.{none-some, same_Some, slice_get_within}}
use Rattle.std.specs.{List.{Contains, list_all, range_with_len, Sorted.IsStrictlyIncreasing}, Option.option_map_or}
use Rattle.page_ledger.specs.{Laws.{IsFreeRun, IsLowestRun, FindsLowestRun}, Owners.{pages_from, owner_at, is_free, is_owned_at}}
use Rattle.page_ledger.specs.{Runs.{is_free_run, lowest_run}, declared.owner.Owner.{Owner, TheVariants.{Free, Queue, Command}}}
use Rattle.slot_table.{proofs.Runs.{run-tests, tests-run, is_run-agree}, specs.Searches.{IsFirstFrom, IsNoneFrom, is_run}}

-- Consecutive pages, and those of them that pass a test.

-- one page more at the end
pub pages_from-suc : (p k : ℕ) → pages_from p (suc k) ≡ pages_from p k ++ (p + k) ∷ []
pages_from-suc p zero = ap (λ q. q ∷ []) (sym (add-zero p))
pages_from-suc p (suc k) =
    ap (λ l. p ∷ l) (pages_from-suc (p + 1) k ∙ ap (λ (q : ℕ). pages_from (p + 1) k ++ q ∷ []) (omega arith))

pub pages_from-more : (p k : ℕ) → pages_from p (k + 1) ≡ pages_from p k ++ (p + k) ∷ []
pages_from-more p k = rw add-one (pages_from-suc p k)

pub pages_from-split : (b i n : ℕ) → i ≤ n → pages_from b n ≡ pages_from b i ++ pages_from (b + i) (n - i)
pages_from-split b zero n l = ap (λ (q : ℕ). pages_from q n) (omega arith) ∙ ap (λ (j : ℕ). pages_from (b + 0) j) (omega arith)
pages_from-split b (suc i) zero l = absurd (omega arith)
pages_from-split b (suc i) (suc n) l =
    ap (λ k. b ∷ k) (pages_from-split (b + 1) i n (omega arith)
    ∙ (ap (λ (q : ℕ). pages_from (b + 1) i ++ pages_from q (n - i)) (omega arith) ∙ ap (λ (j : ℕ). pages_from (b + 1) i ++ pages_from (b + suc i) j) (omega arith)))

-- two tests that agree on the pages
pub filter-agree : (f g : ℕ → Bool) (b n : ℕ) → ((p : ℕ) → b ≤ p → p < b + n → f p ≡ g p) → filter f (pages_from b n) ≡ filter g (pages_from b n)
filter-agree f g b zero h = refl
filter-agree f g b (suc n) h =
    let rest = filter-agree f g (b + 1) n (λ p low high. h p (omega arith) (omega arith)) in
    let here = h b (omega arith) (omega arith) in
    ap (λ c. cond c (b ∷ filter f (pages_from (b + 1) n)) (filter f (pages_from (b + 1) n))) here ∙ ap (λ l. cond (g b) (b ∷ l) l) rest

-- one page more of a walk
pub filter-next : (f : ℕ → Bool) (i : ℕ) → filter f (pages_from 0 (i + 1)) ≡ filter f (pages_from 0 i) ++ cond (f i) (i ∷ []) []
filter-next f i =
    ap (filter f) (pages_from-more 0 i) ∙ (filter-append f (pages_from 0 i) ((0 + i) ∷ [])
    ∙ ap (λ (q : ℕ). filter f (pages_from 0 i) ++ cond (f q) (q ∷ []) []) (omega arith))

-- the first k that pass, where the walk stopped early
pub front_taken : (f : ℕ → Bool) (i n k : ℕ) → i ≤ n → length (filter f (pages_from 0 i)) ≡ k → take k (filter f (pages_from 0 n)) ≡ filter f (pages_from 0 i)
front_taken f i n k l count =
    ap (take k) (ap (filter f) (pages_from-split 0 i n l) ∙ filter-append f (pages_from 0 i) (pages_from (0 + i) (n - i)))
    ∙ take_at (filter f (pages_from 0 i)) (filter f (pages_from (0 + i) (n - i))) k count

-- what passes is among the pages
pub filter-within : (f : ℕ → Bool) (b n k d : ℕ) → k < length (filter f (pages_from b n)) → (b ≤ get_or (filter f (pages_from b n)) k d) × (get_or (filter f (pages_from b n)) k d < b + n)
filter-within f b zero k d l = absurd (omega arith)
filter-within f b (suc n) k d l = by_test (f b) k l (λ j m. filter-within f (b + 1) n j d m)
  where
    by_test : (c : Bool) (j : ℕ) → j < length (cond c (b ∷ filter f (pages_from (b + 1) n)) (filter f (pages_from (b + 1) n)))
        → ((i : ℕ) → i < length (filter f (pages_from (b + 1) n)) → (b + 1 ≤ get_or (filter f (pages_from (b + 1) n)) i d) × (get_or (filter f (pages_from (b + 1) n)) i d < b + 1 + n))
        → (b ≤ get_or (cond c (b ∷ filter f (pages_from (b + 1) n)) (filter f (pages_from (b + 1) n))) j d) × (get_or (cond c (b ∷ filter f (pages_from (b + 1) n)) (filter f (pages_from (b + 1) n))) j d < b + suc n)
    by_test true zero m ih = (omega arith, omega arith)
    by_test true (suc j) m ih = let w = ih j (omega arith) in (omega arith, omega arith)
    by_test false j m ih = let w = ih j m in (omega arith, omega arith)

-- each page that passes is there
pub filter-contains : (f : ℕ → Bool) (b n p : ℕ) → b ≤ p → p < b + n → f p ≡ true → Contains (filter f (pages_from b n)) p
filter-contains f b zero p low high passes = absurd (omega arith)
filter-contains f b (suc n) p low high passes = elim (cases_eq b p) [
  | inl same ↦ rw (same, passes) (0, omega arith, refl)
  | inr other ↦
      let (k, l, e) = filter-contains f (b + 1) n p (omega arith) (omega arith) passes in
      elim (cases_Bool (f b)) [ inl at ↦ rw at (suc k, omega arith, e) | inr at ↦ rw at (k, l, e) ]
]

-- what passes is in rising order
pub filter_rising : (f : ℕ → Bool) (b n : ℕ) → IsStrictlyIncreasing (filter f (pages_from b n))
filter_rising f b zero k l = absurd (omega arith)
filter_rising f b (suc n) k l = by_test (f b) k l (filter_rising f (b + 1) n) (λ i d m. filter-within f (b + 1) n i d m)
  where
    rest : List ℕ
    rest = filter f (pages_from (b + 1) n)

    by_test : (c : Bool) (k : ℕ) → k + 1 < length (cond c (b ∷ rest) rest) → IsStrictlyIncreasing rest
        → ((i d : ℕ) → i < length rest → (b + 1 ≤ get_or rest i d) × (get_or rest i d < b + 1 + n))
        → get_or (cond c (b ∷ rest) rest) k 0 < get_or (cond c (b ∷ rest) rest) (k + 1) 0
    by_test false k l ih within = ih k l
    by_test true zero l ih within = let w = within 0 0 (omega arith) in omega arith
    by_test true (suc k) l ih within =
        let e : suc k + 1 ≡ suc (k + 1) = omega arith in
        rw e (ih k (omega arith))

-- where the first page that passed doesn't pass any more, and all others are as they were
pub filter-without_first : (f g : ℕ → Bool) (b n p : ℕ) (rest : List ℕ) → filter f (pages_from b n) ≡ p ∷ rest → g p ≡ false → ((q : ℕ) → q ≢ p → g q ≡ f q) → filter g (pages_from b n) ≡ rest
filter-without_first f g b zero p rest e off others = cc
filter-without_first f g b (suc n) p rest e off others = by_test (f b) refl e (filter-without_first f g (b + 1) n p rest)
  where
    F : List ℕ
    F = filter f (pages_from (b + 1) n)

    G : List ℕ
    G = filter g (pages_from (b + 1) n)

    by_test : (c : Bool) → f b ≡ c → cond c (b ∷ F) F ≡ p ∷ rest → (F ≡ p ∷ rest → g p ≡ false → ((q : ℕ) → q ≢ p → g q ≡ f q) → G ≡ rest) → cond (g b) (b ∷ G) G ≡ rest
    by_test true at h ih =
        let same : b ≡ p = cc in
        let left : F ≡ rest = cc in
        let here : g b ≡ false = subst (λ (q : ℕ). g q ≡ false) (sym same) off in
        rw here (filter-agree g f (b + 1) n (λ q low high. others q (omega arith)) ∙ left)
    by_test false at h ih = rw (closed (cases_eq b p)) (ih h off others)
      where
        closed : (b ≡ p) ⊎ (b ≢ p) → g b ≡ false
        closed (inl same) = subst (λ (q : ℕ). g q ≡ false) (sym same) off
        closed (inr other) = others b other ∙ at

-- the first page that passes

-- either a page passes and no lower one does, or none passes
pub find-cases : (f : ℕ → Bool) (b n : ℕ)
    → ((p : ℕ) × (b ≤ p) × (p < b + n) × (f p ≡ true) × ((q : ℕ) → b ≤ q → q < p → f q ≡ false) × (find f (pages_from b n) ≡ Some p))
    ⊎ (((q : ℕ) → b ≤ q → q < b + n → f q ≡ false) × (find f (pages_from b n) ≡ None))
find-cases f b zero = inr ((λ q low high. absurd (omega arith)), refl)
find-cases f b (suc n) = elim (cases_Bool (f b)) [
  | inl at ↦ inl (b, omega arith, omega arith, at, (λ q low high. absurd (omega arith)), rw at refl)
  | inr at ↦ elim (find-cases f (b + 1) n) [
    | inl (p, low, high, passes, before, is) ↦
        inl (p, omega arith, omega arith, passes, (λ q l h. elim (cases_eq q b) [ inl e ↦ subst (λ (i : ℕ). f i ≡ false) (sym e) at | inr other ↦ before q (omega arith) h ]), rw at is)
    | inr (all, none) ↦
        inr ((λ q l h. elim (cases_eq q b) [ inl e ↦ subst (λ (i : ℕ). f i ≡ false) (sym e) at | inr other ↦ all q (omega arith) (omega arith) ]), rw at none)
  ]
]

-- the walk from one page that passes to the next

filter-stays : (f : ℕ → Bool) (from n : ℕ) → ((q : ℕ) → from ≤ q → q < from + n → f q ≡ false) → filter f (pages_from 0 (from + n)) ≡ filter f (pages_from 0 from)
filter-stays f from zero none = ap (λ (q : ℕ). filter f (pages_from 0 q)) (add-zero from)
filter-stays f from (suc n) none =
    let more : from + suc n ≡ from + n + 1 = omega arith in
    ap (λ (q : ℕ). filter f (pages_from 0 q)) more
    ∙ (filter-next f (from + n) ∙ (ap (λ c. filter f (pages_from 0 (from + n)) ++ cond c ((from + n) ∷ []) []) (none (from + n) (omega arith) (omega arith))
    ∙ (append-nil (filter f (pages_from 0 (from + n))) ∙ filter-stays f from n (λ q low high. none q low (omega arith)))))

pub filter-gap : (f : ℕ → Bool) (from p : ℕ) → from ≤ p → ((q : ℕ) → from ≤ q → q < p → f q ≡ false) → filter f (pages_from 0 p) ≡ filter f (pages_from 0 from)
filter-gap f from p low none =
    let whole : from + (p - from) ≡ p = omega arith in
    subst (λ (q : ℕ). filter f (pages_from 0 q) ≡ filter f (pages_from 0 from)) whole (filter-stays f from (p - from) (λ q a b. none q a (omega arith)))

pub filter-found : (f : ℕ → Bool) (from p : ℕ) → from ≤ p → ((q : ℕ) → from ≤ q → q < p → f q ≡ false) → f p ≡ true
    → filter f (pages_from 0 (p + 1)) ≡ filter f (pages_from 0 from) ++ p ∷ []
filter-found f from p low none passes =
    filter-next f p ∙ (ap (λ c. filter f (pages_from 0 p) ++ cond c (p ∷ []) []) passes ∙ ap (λ l. l ++ p ∷ []) (filter-gap f from p low none))

-- consecutive pages by their positions

pub length-pages_from : (p k : ℕ) → length (pages_from p k) ≡ k
length-pages_from p zero = refl
length-pages_from p (suc k) = ap suc (length-pages_from (p + 1) k)

pub get_or-pages_from : (p k i d : ℕ) → i < k → get_or (pages_from p k) i d ≡ p + i
get_or-pages_from p zero i d l = absurd (omega arith)
get_or-pages_from p (suc k) zero d l = sym (add-zero p)
get_or-pages_from p (suc k) (suc i) d l = get_or-pages_from (p + 1) k i d (omega arith) ∙ omega arith

-- Runs of consecutive free pages, and the search for the lowest.

-- what the test of a run says

pages-range : (p k : ℕ) → pages_from p k ≡ range_with_len p k
pages-range p zero = refl
pages-range p (suc k) = ap (λ l. p ∷ l) (pages-range (p + 1) k)

test-is : (k p : ℕ) (owners : List Owner) → is_free_run k owners p ≡ is_run (is_owned_at is_free owners) k p
test-is k p owners = ap (list_all (is_owned_at is_free owners)) (pages-range p k)

free-is : (o : Option Owner) → option_map_or is_free o false ≡ true → o ≡ Some Free
free-is None h = absurd (true≢false (sym h))
free-is (Some Free) h = refl
free-is (Some (Queue q half)) h = absurd (true≢false (sym h))
free-is (Some (Command q cid role)) h = absurd (true≢false (sym h))

pub run-from : (k p : ℕ) (owners : List Owner) → is_free_run k owners p ≡ true → IsFreeRun k owners p
run-from k p owners h = record { free = λ i l. free-is (owner_at owners (p + i)) (run-tests (is_owned_at is_free owners) p k (sym (test-is k p owners) ∙ h) i l) }

pub run-test : (k p : ℕ) (owners : List Owner) → IsFreeRun k owners p → is_free_run k owners p ≡ true
run-test k p owners run = test-is k p owners ∙ tests-run (is_owned_at is_free owners) p k (λ i l. ap (λ o. option_map_or is_free o false) (run.free i l))

-- a run lies in the pool
pub run-within : (k p : ℕ) (owners : List Owner) → 0 < k → IsFreeRun k owners p → p + k ≤ length owners
run-within k p owners some run = omega (arith, slice_get_within owners (p + (k - 1)) Free (run.free (k - 1) (omega arith)))

-- what is found

pub lowest_run-is : (k p : ℕ) (owners : List Owner) → 0 < k → is_free_run k owners p ≡ true → ((q : ℕ) → q < p → is_free_run k owners q ≡ false) → lowest_run k owners ≡ Some p
lowest_run-is k p owners some run lower = by_search (find-cases (is_free_run k owners) 0 (length owners))
  where
    inside : p < length owners
    inside = omega (arith, run-within k p owners some (run-from k p owners run))

    by_search : ((r : ℕ) × (0 ≤ r) × (r < 0 + length owners) × (is_free_run k owners r ≡ true) × ((q : ℕ) → 0 ≤ q → q < r → is_free_run k owners q ≡ false) × (lowest_run k owners ≡ Some r))
        ⊎ (((q : ℕ) → 0 ≤ q → q < 0 + length owners → is_free_run k owners q ≡ false) × (lowest_run k owners ≡ None)) → lowest_run k owners ≡ Some p
    by_search (inl (r, low, high, passes, before, is)) = is ∙ ap (λ (q : ℕ). Some q) (same (cases_lt r p) (cases_lt p r))
      where
        same : (r < p) ⊎ (p ≤ r) → (p < r) ⊎ (r ≤ p) → r ≡ p
        same (inl below) other = absurd (true≢false (sym passes ∙ lower r below))
        same (inr from) (inl below) = absurd (true≢false (sym run ∙ before p (omega arith) below))
        same (inr from) (inr upto) = omega arith
    by_search (inr (all, is)) = absurd (true≢false (sym run ∙ all p (omega arith) (omega (arith, inside))))

pub lowest_run-none : (k : ℕ) (owners : List Owner) → ((q : ℕ) → q < length owners → is_free_run k owners q ≡ false) → lowest_run k owners ≡ None
lowest_run-none k owners none = elim (find-cases (is_free_run k owners) 0 (length owners)) [
  | inl (r, low, high, passes, before, is) ↦ absurd (true≢false (sym passes ∙ none r (omega arith)))
  | inr (all, is) ↦ is
]

pub finds_lowest : (k : ℕ) (owners : List Owner) → 0 < k → FindsLowestRun k owners
finds_lowest k owners some = by_search (find-cases (is_free_run k owners) 0 (length owners))
  where
    by_search : ((r : ℕ) × (0 ≤ r) × (r < 0 + length owners) × (is_free_run k owners r ≡ true) × ((q : ℕ) → 0 ≤ q → q < r → is_free_run k owners q ≡ false) × (lowest_run k owners ≡ Some r))
        ⊎ (((q : ℕ) → 0 ≤ q → q < 0 + length owners → is_free_run k owners q ≡ false) × (lowest_run k owners ≡ None)) → FindsLowestRun k owners
    by_search (inl (r, low, high, passes, before, is)) = record { found = found; none = none }
      where
        here : IsLowestRun k owners r
        here = record { run = run-from k r owners passes; lowest = lowest }
          where
            lowest : (q : ℕ) → IsFreeRun k owners q → r ≤ q
            lowest q run = elim (cases_lt q r) [
              | inl below ↦ absurd (true≢false (sym (run-test k q owners run) ∙ before q (omega arith) below))
              | inr from ↦ from
            ]

        found : (p : ℕ) → (lowest_run k owners ≡ Some p) ↔ IsLowestRun k owners p
        found p = (
          (λ e. subst (IsLowestRun k owners) (same_Some r p (sym is ∙ e)) here),
          (λ low. is ∙ ap (λ (q : ℕ). Some q) (let a = low.lowest r here.run in let b = here.lowest p low.run in omega arith)),
        )

        none : (lowest_run k owners ≡ None) ↔ ((p : ℕ) → IsFreeRun k owners p → ⊥)
        none = ((λ e. absurd (none-some r (sym e ∙ is))), (λ never. absurd (never r here.run)))
    by_search (inr (all, is)) = record { found = found; none = ((λ e. never), (λ h. is)) }
      where
        never : (p : ℕ) → IsFreeRun k owners p → ⊥
        never p run = true≢false (sym (run-test k p owners run) ∙ all p (omega arith) (omega (arith, run-within k p owners some run)))

        found : (p : ℕ) → (lowest_run k owners ≡ Some p) ↔ IsLowestRun k owners p
        found p = ((λ e. absurd (none-some p (sym is ∙ e))), (λ low. absurd (never p low.run)))

-- what is granted lies in the pool
pub lowest_run-within : (k p : ℕ) (owners : List Owner) → 0 < k → lowest_run k owners ≡ Some p → p + k ≤ length owners
lowest_run-within k p owners some e = run-within k p owners some (((finds_lowest k owners some).found p).0 e).run

-- what is found is the lowest run of the pool

test-agree : (f : ℕ → Bool) (k q : ℕ) (owners : List Owner) → ((q : ℕ) → f q ≡ is_owned_at is_free owners q) → is_free_run k owners q ≡ is_run f k q
test-agree f k q owners same = test-is k q owners ∙ sym (is_run-agree f (is_owned_at is_free owners) k q same)

pub lowest_run-found : (f : ℕ → Bool) (k p : ℕ) (owners : List Owner) → 0 < k → ((q : ℕ) → f q ≡ is_owned_at is_free owners q) → IsFirstFrom (is_run f k) 0 p → lowest_run k owners ≡ Some p
lowest_run-found f k p owners some same first =
    lowest_run-is k p owners some (test-agree f k p owners same ∙ first.passes) (λ q below. test-agree f k q owners same ∙ first.before q (omega arith) below)

pub lowest_run-missing : (f : ℕ → Bool) (k : ℕ) (owners : List Owner) → ((q : ℕ) → f q ≡ is_owned_at is_free owners q) → IsNoneFrom (is_run f k) 0 → lowest_run k owners ≡ None
lowest_run-missing f k owners same none = lowest_run-none k owners (λ q within. test-agree f k q owners same ∙ none.fails q (omega arith))
