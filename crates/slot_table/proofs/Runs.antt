-- Runs of consecutive positions that pass a test, and the search for the lowest.
use Rattle.std.proofs.Common.{◌≡◌, ℕ, zero, suc, ◌+◌, ◌-◌, ◌<◌, ◌≤◌, ◌&&◌, ◌⊎◌, inl, inr, Bool, true, false, refl, ap, sym, ◌∙◌, arith, subst, add-zero, max}
use Rattle.std.proofs.lemmas.Bool.{true≢false, cases_lt}
use Rattle.slot_table.specs.Searches.{IsFirstFrom, IsNoneFrom, IsRunEnd, is_run}

-- the test of k consecutive positions

pub run-tests : (f : ℕ → Bool) (p k : ℕ) → is_run f k p ≡ true → (i : ℕ) → i < k → f (p + i) ≡ true
run-tests f p zero h i l = absurd (omega arith)
run-tests f p (suc k) h i l = by_first_place (f p) refl h i l (λ j m e. run-tests f (p + 1) k e j m)
  where
    by_first_place : (c : Bool) → f p ≡ c → (c && is_run f k (p + 1)) ≡ true → (i : ℕ) → i < suc k
        → ((j : ℕ) → j < k → is_run f k (p + 1) ≡ true → f (p + 1 + j) ≡ true) → f (p + i) ≡ true
    by_first_place true at h zero l ih = subst (λ (q : ℕ). f q ≡ true) (sym (add-zero p)) at
    by_first_place true at h (suc i) l ih = subst (λ (q : ℕ). f q ≡ true) (omega arith) (ih i (omega arith) h)
    by_first_place false at h i l ih = absurd (true≢false (sym h))

pub tests-run : (f : ℕ → Bool) (p k : ℕ) → ((i : ℕ) → i < k → f (p + i) ≡ true) → is_run f k p ≡ true
tests-run f p zero h = refl
tests-run f p (suc k) h =
    let first : f p ≡ true = subst (λ (q : ℕ). f q ≡ true) (add-zero p) (h 0 (omega arith)) in
    let rest : is_run f k (p + 1) ≡ true = tests-run f (p + 1) k (λ i l. subst (λ (q : ℕ). f q ≡ true) (omega arith) (h (suc i) (omega arith))) in
    ap (λ c. c && is_run f k (p + 1)) first ∙ rest

-- a position fails
run-blocked : (f : ℕ → Bool) (p k q : ℕ) → p ≤ q → q < p + k → f q ≡ false → is_run f k p ≡ false
run-blocked f p k q low high fails = by_run (is_run f k p) refl
  where
    by_run : (c : Bool) → is_run f k p ≡ c → c ≡ false
    by_run false h = refl
    by_run true h =
        let held : f (p + (q - p)) ≡ true = run-tests f p k h (q - p) (omega arith) in
        let same : f q ≡ true = subst (λ (j : ℕ). f j ≡ true) (omega arith) held in
        absurd (true≢false (sym same ∙ fails))

-- the search from one true position to the next

-- no run begins before the first position that passes
pub run-behind : (f : ℕ → Bool) (k from first : ℕ) → 0 < k → ((p : ℕ) → p < from → is_run f k p ≡ false) → ((p : ℕ) → from ≤ p → p < first → f p ≡ false)
    → (p : ℕ) → p < first → is_run f k p ≡ false
run-behind f k from first some none gap p below = elim (cases_lt p from) [
  | inl before ↦ none p before
  | inr behind ↦ run-blocked f p k p (omega arith) (omega arith) (gap p behind below)
]

-- where no position passes any more, no run begins
pub run-none : (f : ℕ → Bool) (k from : ℕ) → 0 < k → ((p : ℕ) → p < from → is_run f k p ≡ false) → IsNoneFrom f from → IsNoneFrom (is_run f k) 0
run-none f k from some none rest = record { fails = λ p low. run-behind f k from (p + 1) some none (λ q from_q below. rest.fails q from_q) p (omega arith) }

-- too few positions are left
pub run-stuck : (f : ℕ → Bool) (k first size : ℕ) → ((p : ℕ) → p < first → is_run f k p ≡ false) → IsNoneFrom f size → first ≤ size → size < first + k → IsNoneFrom (is_run f k) 0
run-stuck f k first size none past inside short = record { fails = λ p low. by_side p (cases_lt p first) }
  where
    by_side : (p : ℕ) → (p < first) ⊎ (first ≤ p) → is_run f k p ≡ false
    by_side p (inl before) = none p before
    by_side p (inr behind) = run-blocked f p k (max p size) (omega arith) (omega arith) (past.fails (max p size) (omega arith))

-- a run has k positions, or is too short
pub run-found : (f : ℕ → Bool) (k first end : ℕ) → ((p : ℕ) → p < first → is_run f k p ≡ false) → IsRunEnd f first (first + k) end → end ≡ first + k → IsFirstFrom (is_run f k) 0 first
run-found f k first end none run whole = record {
  after = omega arith;
  passes = tests-run f first k (λ i l. run.passes (first + i) (omega arith) (omega arith));
  before = λ p low below. none p below;
}

pub run-short : (f : ℕ → Bool) (k first end : ℕ) → ((p : ℕ) → p < first → is_run f k p ≡ false) → IsRunEnd f first (first + k) end → end < first + k
    → (p : ℕ) → p < end → is_run f k p ≡ false
run-short f k first end none run short p below = elim (cases_lt p first) [
  | inl before ↦ none p before
  | inr behind ↦ run-blocked f p k end (omega arith) (omega arith) (run.ends short)
]

-- a run has its first position
pub run-some : (f : ℕ → Bool) (k first end : ℕ) → 0 < k → f first ≡ true → IsRunEnd f first (first + k) end → first < end
run-some f k first end some free run = elim (cases_lt first end) [
  | inl before ↦ before
  | inr behind ↦
      let same : end ≡ first = omega (arith, run.after) in
      absurd (true≢false (sym free ∙ subst (λ (q : ℕ). f q ≡ false) same (run.ends (omega arith))))
]

-- tests that agree

pub is_run-agree : (f g : ℕ → Bool) (k p : ℕ) → ((q : ℕ) → f q ≡ g q) → is_run f k p ≡ is_run g k p
is_run-agree f g zero p same = refl
is_run-agree f g (suc k) p same = ap (λ c. c && is_run f k (p + 1)) (same p) ∙ ap (λ c. g p && c) (is_run-agree f g k (p + 1) same)
