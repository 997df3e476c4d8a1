-- Runs of pages, and the owner of a page among the claims.
use Rattle.std.proofs.Common.{◌≡◌, ℕ, zero, suc, ◌+◌, ◌<◌, ◌≤◌, ◌==◌, inl, inr, Some, List, [], ◌∷◌, length, slice_get, take, ◌-◌, refl, ap, sym, ◌∙◌, arith, drop}
use Rattle.std.proofs.lemmas.{Bool.cases_Bool, List.take_all}
use Rattle.page_ledger.{proofs.Pages.length-pages_from, specs.Owners.pages_from}
use Rattle.host_core.specs.Rights.{runs_of, following, ring_of}
use Rattle.host_core.specs.declared.rights.{Right.Right, Run.Run}

-- The first run of pages is the first page with those that follow it.
pub first-run : (may : Right) (p : ℕ) (pages : List ℕ)
    → runs_of may (p ∷ pages) ≡ (record { first = p; count = suc (following p pages); right = may }) ∷ runs_of may (drop (following p pages) pages)
first-run may p [] = refl
first-run may p (x ∷ pages) = elim (cases_Bool (x == p + 1)) [
  | inl e ↦ rw (first-run may x pages, e) refl
  | inr e ↦ rw (first-run may x pages, e) (ap (λ (runs : List Run). (record { first = p; count = 1; right = may }) ∷ runs) (sym (first-run may x pages)))
]

-- this many of the pages follow, and no more than there are
pub following-within : (p : ℕ) (pages : List ℕ) → following p pages ≤ length pages
following-within p [] = omega arith
following-within p (x ∷ pages) = elim (cases_Bool (x == p + 1)) [
  | inl e ↦ rw e (omega (arith, following-within x pages))
  | inr e ↦ rw e (omega arith)
]

-- where the pages are looked at, and those after the first
pub first-of : (may : Right) (pages : List ℕ) (p n : ℕ) → slice_get pages 0 ≡ Some p → n ≡ following p (take (length pages - 1) (drop 1 pages))
    → (runs_of may pages ≡ (record { first = p; count = n + 1; right = may }) ∷ runs_of may (drop (n + 1) pages)) × (n + 1 ≤ length pages)
first-of may [] p n at count = absurd (cc)
first-of may (x ∷ pages) p n at count =
    let same : x ≡ p = cc in
    let rest : n ≡ following p pages = count ∙ ap (following p) (take_all (length (x ∷ pages) - 1) pages (omega arith)) in
    let next : n + 1 ≡ suc n = omega arith in
    rw (next, rest, same) (first-run may p pages, omega (arith, following-within p pages))

-- the memory of a ring is one run, starting at its first page
pub ring-is : (may : Right) (p n : ℕ) → 0 < n → ring_of may (pages_from p n) ≡ Some (record { first = p; count = n; right = may })
ring-is may p zero l = absurd (omega arith)
ring-is may p (suc n) l = ap (λ (k : ℕ). Some (record { first = p; count = suc k; right = may })) (length-pages_from (p + 1) n)
