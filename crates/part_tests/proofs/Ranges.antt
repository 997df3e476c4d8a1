-- A range of the guest's bytes as a range of the memory.
use Rattle.std.proofs.Common.{◌≡◌, inl, inr, ◌≢◌, ℕ, zero, suc, ◌+◌, ◌-◌, ◌<◌, ◌≤◌, ◌++◌, ◌∷◌, [], List, Some, None, refl, sym, ap, ◌∙◌, length, take, drop, get_or, arith, add-one, drop-cons}
use Rattle.std.proofs.{Math.Path.fun_ext, lemmas.{Bool.cases_lt, Grind.common_steps, Option.{slice_get-get_or, slice_get_past}}}
use Rattle.page_memory.{proofs.Bytes.{missing_at, written_in, written_before, written_after}, specs.{Memory.{bytes_at, written}, Pages.with_bytes}}
use Rattle.part_tests.specs.Guest.{byte_of}

-- a range that is there
pub bytes_there : (bytes : List ℕ) (n at : ℕ) → at + n ≤ length bytes → bytes_at (byte_of bytes) at n ≡ Some (take n (drop at bytes))
unfolding bytes_at
bytes_there bytes zero at fits = refl
bytes_there bytes (suc n) at fits =
    let here : at < length bytes = omega (arith, fits) in
    let byte : byte_of bytes at ≡ Some (get_or bytes at 0) = slice_get-get_or bytes at 0 here in
    let rest : bytes_at (byte_of bytes) (at + 1) n ≡ Some (take n (drop (at + 1) bytes)) = bytes_there bytes n (at + 1) (omega (arith, fits)) in
    rw (byte, rest, drop-cons bytes at 0 here, add-one at) refl

-- one that reaches past the last byte
pub bytes_past : (bytes : List ℕ) (at n : ℕ) → 0 < n → length bytes < at + n → bytes_at (byte_of bytes) at n ≡ None
bytes_past bytes at n some past = missing_at (byte_of bytes) at n (n - 1) (omega arith) (slice_get_past bytes (at + (n - 1)) (omega arith))

-- bytes put over a range that is there
length_with : (bytes new : List ℕ) (at : ℕ) → at + length new ≤ length bytes → length (with_bytes bytes at new) ≡ length bytes
length_with bytes new at fits = grind (arith, common_steps)

get_in : (bytes new : List ℕ) (at k : ℕ) → at + length new ≤ length bytes → at ≤ k → k < at + length new → get_or (with_bytes bytes at new) k 0 ≡ get_or new (k - at) 0
get_in bytes new at k fits low high = grind (arith, common_steps)

get_before : (bytes new : List ℕ) (at k : ℕ) → at + length new ≤ length bytes → k < at → get_or (with_bytes bytes at new) k 0 ≡ get_or bytes k 0
get_before bytes new at k fits low = grind (arith, common_steps)

get_after : (bytes new : List ℕ) (at k : ℕ) → at + length new ≤ length bytes → at + length new ≤ k → k < length bytes → get_or (with_bytes bytes at new) k 0 ≡ get_or bytes k 0
get_after bytes new at k fits high low = grind (arith, common_steps)

pub bytes_put : (bytes new : List ℕ) (at : ℕ) → at + length new ≤ length bytes → byte_of (with_bytes bytes at new) ≡ written (byte_of bytes) at new
bytes_put bytes new at fits =
    fun_ext (λ k. elim (cases_lt k (length bytes)) [
      | inl inside ↦
          let seen : byte_of (with_bytes bytes at new) k ≡ Some (get_or (with_bytes bytes at new) k 0) = slice_get-get_or (with_bytes bytes at new) k 0 (rw (length_with bytes new at fits) inside) in
          let old : byte_of bytes k ≡ Some (get_or bytes k 0) = slice_get-get_or bytes k 0 inside in
          seen ∙ elim (cases_lt k at) [
            | inl before ↦ ap (λ (b : ℕ). Some b) (get_before bytes new at k fits before) ∙ sym old ∙ sym (written_before (byte_of bytes) at k new before)
            | inr from ↦ elim (cases_lt k (at + length new)) [
              | inl within ↦ ap (λ (b : ℕ). Some b) (get_in bytes new at k fits from within) ∙ sym (written_in (byte_of bytes) at k new from within)
              | inr after ↦ ap (λ (b : ℕ). Some b) (get_after bytes new at k fits after inside) ∙ sym old ∙ sym (written_after (byte_of bytes) at k new after)
            ]
          ]
      | inr past ↦ slice_get_past (with_bytes bytes at new) k (rw (length_with bytes new at fits) past) ∙ sym (slice_get_past bytes k past) ∙ sym (written_after (byte_of bytes) at k new (omega arith))
    ])

-- one that is there, as it is read
pub bytes_read : (bytes all copied : List ℕ) (place at n : ℕ) → all ≡ bytes → at ≡ place → at + n ≤ length bytes → copied ≡ take (at + n - at) (drop at all) → bytes_at (byte_of bytes) place n ≡ Some copied
bytes_read bytes all copied place at n same there fits is =
    let count : at + n - at ≡ n = omega arith in
    rw (← there, is, same, count) (bytes_there bytes n at fits)

-- and that it is there
pub bytes_some : (bytes : List ℕ) (place at n : ℕ) → at ≡ place → at + n ≤ length bytes → bytes_at (byte_of bytes) place n ≢ None
bytes_some bytes place at n there fits = λ none. never_none (take n (drop at bytes)) (sym (bytes_there bytes n at fits) ∙ ap (λ (k : ℕ). bytes_at (byte_of bytes) k n) there ∙ none)
  where
    never_none : (xs : List ℕ) → Some xs ≡ None → ⊥
    never_none xs e = cc

all_taken : (new rest : List ℕ) (n : ℕ) → n ≡ length new → take n (new ++ rest) ≡ new
all_taken [] rest n e = rw e refl
all_taken (b ∷ new) rest n e = rw e (ap (λ (bs : List ℕ). b ∷ bs) (all_taken new rest (length new) refl))

-- bytes as they are put
pub bytes_written : (bytes all items put new : List ℕ) (len place at : ℕ) → items ≡ bytes → all ≡ items → put ≡ with_bytes all at new → len ≡ length items → at ≡ place → at + length new ≤ length bytes
    → byte_of (take len (put ++ drop (length put) items)) ≡ written (byte_of bytes) place new
bytes_written bytes all items put new len place at seen same is count there fits =
    let whole : put ≡ with_bytes bytes at new = is ∙ ap (λ (xs : List ℕ). with_bytes xs at new) (same ∙ seen) in
    let as_long : len ≡ length put = count ∙ ap (λ (xs : List ℕ). length xs) seen ∙ sym (ap (λ (xs : List ℕ). length xs) whole ∙ length_with bytes new at fits) in
    ap byte_of (all_taken put (drop (length put) items) len as_long ∙ whole) ∙ bytes_put bytes new at fits ∙ ap (λ (k : ℕ). written (byte_of bytes) k new) there
