-- A slice as a memory: what is read of a range that lies in it, what is missing after it, and what a write leaves.
use Rattle.std.proofs.Common.{◌≡◌, ◌≢◌, inl, inr, ℕ, ◌+◌, ◌-◌, ◌<◌, ◌≤◌, List, Option, Some, None, sym, ap, ◌∙◌, length, take, drop, get_or, arith}
use Rattle.std.{proofs.{Math.Path.fun_ext, lemmas.{Bool.cases_lt, Grind.common_steps, Option.{slice_get-get_or, slice_get_past}}}, specs.List.slice_get}
use Rattle.page_memory.{proofs.Bytes.{bytes_held, missing_at, written_in, written_before, written_after}, specs.{Memory.{bytes_at, written}, Pages.with_bytes}}

pub length_range : (xs : List ℕ) (at n : ℕ) → at + n ≤ length xs → length (take n (drop at xs)) ≡ n
length_range xs at n fits = grind (arith, common_steps)

pub get_range : (xs : List ℕ) (at n k : ℕ) → at + n ≤ length xs → k < n → get_or (take n (drop at xs)) k 0 ≡ get_or xs (at + k) 0
get_range xs at n k fits low = grind (arith, common_steps)

-- a range that lies in the slice
pub read_inside : (xs : List ℕ) (at n : ℕ) → at + n ≤ length xs → bytes_at (slice_get xs) at n ≡ Some (take n (drop at xs))
read_inside xs at n fits =
    ap (bytes_at (slice_get xs) at) (sym (length_range xs at n fits))
    ∙ bytes_held (slice_get xs) at (take n (drop at xs)) (λ k low.
    let small : k < n = omega (arith, low, length_range xs at n fits) in
    slice_get-get_or xs (at + k) 0 (omega (arith, small, fits)) ∙ ap (λ (b : ℕ). Some b) (sym (get_range xs at n k fits small)))

-- a range that passes its end
pub read_outside : (xs : List ℕ) (at n : ℕ) → 0 < n → length xs < at + n → bytes_at (slice_get xs) at n ≡ None
read_outside xs at n some past =
    missing_at (slice_get xs) at n (n - 1) (omega (arith, some)) (slice_get_past xs (at + (n - 1)) (omega (arith, some, past)))

something : (o : Option (List ℕ)) (x : List ℕ) → o ≡ Some x → o ≢ None
something o x e none = cc

pub there_inside : (xs : List ℕ) (at n : ℕ) → at + n ≤ length xs → bytes_at (slice_get xs) at n ≢ None
there_inside xs at n fits = something (bytes_at (slice_get xs) at n) (take n (drop at xs)) (read_inside xs at n fits)

pub length_with : (xs new : List ℕ) (at : ℕ) → at + length new ≤ length xs → length (with_bytes xs at new) ≡ length xs
length_with xs new at fits = grind (arith, common_steps)

pub get_with_in : (xs new : List ℕ) (at k : ℕ) → at + length new ≤ length xs → at ≤ k → k < at + length new → get_or (with_bytes xs at new) k 0 ≡ get_or new (k - at) 0
get_with_in xs new at k fits low high = grind (arith, common_steps)

pub get_with_before : (xs new : List ℕ) (at k : ℕ) → at + length new ≤ length xs → k < at → get_or (with_bytes xs at new) k 0 ≡ get_or xs k 0
get_with_before xs new at k fits low = grind (arith, common_steps)

get_with_after : (xs new : List ℕ) (at k : ℕ) → at + length new ≤ length xs → at + length new ≤ k → k < length xs → get_or (with_bytes xs at new) k 0 ≡ get_or xs k 0
get_with_after xs new at k fits high low = grind (arith, common_steps)

-- a position after a write, which the write reaches or not
at_place : (xs new : List ℕ) (at k : ℕ) → at + length new ≤ length xs → k < length xs → slice_get (with_bytes xs at new) k ≡ written (slice_get xs) at new k
at_place xs new at k fits small =
    let there : slice_get (with_bytes xs at new) k ≡ Some (get_or (with_bytes xs at new) k 0) =
    slice_get-get_or (with_bytes xs at new) k 0 (rw (length_with xs new at fits) small) in
    let old : slice_get xs k ≡ Some (get_or xs k 0) = slice_get-get_or xs k 0 small in
    there ∙ elim (cases_lt k at) [
      | inl before ↦ ap (λ (b : ℕ). Some b) (get_with_before xs new at k fits before) ∙ sym old ∙ sym (written_before (slice_get xs) at k new before)
      | inr from ↦ elim (cases_lt k (at + length new)) [
        | inl inside ↦ ap (λ (b : ℕ). Some b) (get_with_in xs new at k fits from inside) ∙ sym (written_in (slice_get xs) at k new from inside)
        | inr after ↦ ap (λ (b : ℕ). Some b) (get_with_after xs new at k fits after small) ∙ sym old ∙ sym (written_after (slice_get xs) at k new after)
      ]
    ]

-- a write
pub wrote : (xs new : List ℕ) (at : ℕ) → at + length new ≤ length xs → slice_get (with_bytes xs at new) ≡ written (slice_get xs) at new
wrote xs new at fits =
    fun_ext (λ k. elim (cases_lt k (length xs)) [
      | inl small ↦ at_place xs new at k fits small
      | inr past ↦ slice_get_past (with_bytes xs at new) k (rw (length_with xs new at fits) past) ∙ sym (slice_get_past xs k past) ∙ sym (written_after (slice_get xs) at k new (omega (arith, fits, past)))
    ])
