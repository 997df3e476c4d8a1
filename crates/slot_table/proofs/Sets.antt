-- Sets of numbers as words: what one write changes, and searches from word to word.
use Rattle.std.proofs.Common.{◌≡◌, ◌≢◌, ℕ, ◌+◌, ◌-◌, ◌*◌, ◌/◌, ◌%◌, ◌^◌, ◌<◌, ◌≤◌, ◌⊎◌, inl, inr, w64, min, Bool, true, false, not, List, [], ◌∷◌, ◌++◌, length, replicate, slice_index, slice_set, refl, ap, sym, ◌∙◌, arith, nat_lt, length-set}
use Rattle.std.proofs.lemmas.Bool.{true≢false, cases_lt, cases_eq, cases_order, lt-ltb, le-ltb}
use Rattle.std.proofs.lemmas.List.{get_or-set_same, get_or-set_other, get_or_past, get_or_push, get_or_append_left, get_or-replicate, length-replicate, length_push}
use Rattle.std.{proofs.lemmas.Nat.Bits.bit_at-zero, specs.Int.bit_not}
use Rattle.slot_table.{proofs.Words.{zero-from, flipped, ones-are}, specs.{Bits.{is_one, is_set, IsPut}, Searches.{IsFirstFrom, IsNoneFrom, IsRunEnd}}}

-- one write

pub put-word : (words : List ℕ) (i : ℕ) (inside : Bool) (word : ℕ) → i / 64 < length words → is_one word (i % 64) ≡ inside
    → ((place : ℕ) → place < 64 → place ≢ i % 64 → is_one word place ≡ is_one (slice_index words (i / 64)) place) → IsPut words i inside (slice_set words (i / 64) word)
put-word words i inside word within here others = record {
  size = length-set words (i / 64) word;
  here = ap (λ w. is_one w (i % 64)) (get_or-set_same words (i / 64) word 0 within) ∙ here;
  others = λ j other. by_word j other (cases_eq (j / 64) (i / 64));
  words = λ w other. get_or-set_other words (i / 64) w word 0 other;
}
  where
    by_word : (j : ℕ) → j ≢ i → (j / 64 ≡ i / 64) ⊎ (j / 64 ≢ i / 64) → is_set (slice_set words (i / 64) word) j ≡ is_set words j
    by_word j other (inl same) =
        rw same (ap (λ w. is_one w (j % 64)) (get_or-set_same words (i / 64) word 0 within) ∙ others (j % 64) (omega arith) (omega arith))
    by_word j other (inr apart) = ap (λ w. is_one w (j % 64)) (get_or-set_other words (i / 64) (j / 64) word 0 apart)

-- what a word says of its numbers

pub set-past : (words : List ℕ) (i : ℕ) → 64 * length words ≤ i → is_set words i ≡ false
set-past words i past = ap (λ w. is_one w (i % 64)) (get_or_past words (i / 64) 0 (omega arith)) ∙ zero-from 0 (i % 64) (bit_at-zero (i % 64))

pub set-in : (words : List ℕ) (w i : ℕ) → 64 * w ≤ i → i < 64 * w + 64 → is_set words i ≡ is_one (slice_index words w) (i - 64 * w)
set-in words w i low high =
    let word : i / 64 ≡ w = omega arith in
    let place : i % 64 ≡ i - 64 * w = omega arith in
    rw (word, place) refl

-- a word's numbers, where its other bits were searched

flipped-in : (words : List ℕ) (w i : ℕ) (b : Bool) → slice_index words w < 2 ^ 64 → 64 * w ≤ i → i < 64 * w + 64 → is_one (bit_not w64 (slice_index words w)) (i - 64 * w) ≡ not b
    → is_set words i ≡ b
flipped-in words w i b fits low high e =
    set-in words w i low high ∙ not_same _ b (sym (flipped (slice_index words w) (i - 64 * w) fits (omega arith)) ∙ e)
  where
    not_same : (a b : Bool) → not a ≡ not b → a ≡ b
    not_same true true e = refl
    not_same true false e = absurd (true≢false (sym e))
    not_same false true e = absurd (true≢false e)
    not_same false false e = refl

run-in_word : (words : List ℕ) (from at : ℕ) → slice_index words (at / 64) < 2 ^ 64 → ((i : ℕ) → from ≤ i → i < at → is_set words i ≡ true) → (end : ℕ) → end ≤ 64
    → ((j : ℕ) → at % 64 ≤ j → j < end → is_one (bit_not w64 (slice_index words (at / 64))) j ≡ false) → (i : ℕ) → from ≤ i → i < 64 * (at / 64) + end → is_set words i ≡ true
run-in_word words from at fits before end inside none i from_i below = elim (cases_lt i at) [
  | inl earlier ↦ before i from_i earlier
  | inr here ↦ flipped-in words (at / 64) i true fits (omega arith) (omega arith) (none (i - 64 * (at / 64)) (omega arith) (omega arith))
]

-- the run goes on to the end of its word
pub run-whole_word : (words : List ℕ) (from at : ℕ) → slice_index words (at / 64) < 2 ^ 64 → ((i : ℕ) → from ≤ i → i < at → is_set words i ≡ true)
    → IsNoneFrom (is_one (bit_not w64 (slice_index words (at / 64)))) (at % 64) → (i : ℕ) → from ≤ i → i < at - at % 64 + 64 → is_set words i ≡ true
run-whole_word words from at fits before none i from_i below = run-in_word words from at fits before 64 (omega arith) (λ j low high. none.fails j low) i from_i (omega arith)

-- the run ends in its word, or at the limit
pub run-ends_in_word : (words : List ℕ) (from limit at gap r : ℕ) → slice_index words (at / 64) < 2 ^ 64 → from ≤ at → at < limit → ((i : ℕ) → from ≤ i → i < at → is_set words i ≡ true)
    → IsFirstFrom (is_one (bit_not w64 (slice_index words (at / 64)))) (at % 64) gap → gap < 64 → r ≡ min limit (at - at % 64 + gap) → IsRunEnd (is_set words) from limit r
run-ends_in_word words from limit at gap r fits low high before first inside e = record {
  after = omega (arith, first.after);
  inside = omega arith;
  passes = λ i from_i below. run-in_word words from at fits before gap (omega arith) (λ j l m. first.before j l m) i from_i (omega arith);
  ends = λ short.
      let end : r - 64 * (at / 64) ≡ gap = omega (arith, first.after) in
      flipped-in words (at / 64) r false fits (omega (arith, first.after)) (omega arith) (rw end first.passes);
}

-- a number in its word
in_word : (i k rest : ℕ) → i / 64 ≡ k → nat_lt (i % 64) rest ≡ nat_lt i (64 * k + rest)
in_word i k rest here = elim (cases_lt (i % 64) rest) [
  | inl below ↦ lt-ltb (i % 64) rest below ∙ sym (lt-ltb i (64 * k + rest) (omega arith))
  | inr above ↦ le-ltb (i % 64) rest above ∙ sym (le-ltb i (64 * k + rest) (omega arith))
]

-- a word of ones more at the end
pub push-ones : (words : List ℕ) (k rest word : ℕ) → length words ≡ k → ((i : ℕ) → is_set words i ≡ nat_lt i (64 * k)) → rest ≤ 64 → word ≡ 2 ^ rest - 1
    → (i : ℕ) → is_set (words ++ word ∷ []) i ≡ nat_lt i (64 * k + rest)
push-ones words k rest word size all inside ones i = by_order (cases_order (i / 64) k)
  where
    by_order : (i / 64 ≡ k) ⊎ ((i / 64 < k) ⊎ (k < i / 64)) → is_set (words ++ word ∷ []) i ≡ nat_lt i (64 * k + rest)
    by_order (inl here) =
        ap (λ w. is_one w (i % 64)) (get_or_push words word 0 (i / 64) (size ∙ sym here) ∙ ones) ∙ (ones-are rest (i % 64) ∙ in_word i k rest here)
    by_order (inr (inl before)) =
        ap (λ w. is_one w (i % 64)) (get_or_append_left words (word ∷ []) 0 (i / 64) (omega arith))
        ∙ (all i ∙ (lt-ltb i (64 * k) (omega arith) ∙ sym (lt-ltb i (64 * k + rest) (omega arith))))
    by_order (inr (inr behind)) = set-past (words ++ word ∷ []) i (omega (arith, length_push words word)) ∙ sym (le-ltb i (64 * k + rest) (omega arith))

-- words of ones alone

pub filled-ones : (n word i : ℕ) → word ≡ 2 ^ 64 - 1 → is_set (replicate n word) i ≡ nat_lt i (64 * n)
filled-ones n word i ones = elim (cases_lt (i / 64) n) [
  | inl inside ↦
      ap (λ w. is_one w (i % 64)) (get_or-replicate n (i / 64) word 0 inside ∙ ones)
      ∙ (ones-are 64 (i % 64) ∙ (lt-ltb (i % 64) 64 (omega arith) ∙ sym (lt-ltb i (64 * n) (omega arith))))
  | inr past ↦ set-past (replicate n word) i (omega (arith, length-replicate n word)) ∙ sym (le-ltb i (64 * n) (omega arith))
]

-- the last word of them cut down to this many ones
pub filled-cut : (n k rest word last i : ℕ) → k < n → rest ≤ 64 → word ≡ 2 ^ 64 - 1 → last ≡ 2 ^ rest - 1 → n ≤ k + 1
    → is_set (slice_set (replicate n word) k last) i ≡ nat_lt i (64 * k + rest)
filled-cut n k rest word last i within inside ones cut least = by_order (cases_order (i / 64) k)
  where
    by_order : (i / 64 ≡ k) ⊎ ((i / 64 < k) ⊎ (k < i / 64)) → is_set (slice_set (replicate n word) k last) i ≡ nat_lt i (64 * k + rest)
    by_order (inl here) =
        ap (λ w. is_one w (i % 64)) (ap (slice_index (slice_set (replicate n word) k last)) here ∙ (get_or-set_same (replicate n word) k last 0 (omega (arith, length-replicate n word)) ∙ cut))
        ∙ (ones-are rest (i % 64) ∙ in_word i k rest here)
    by_order (inr (inl before)) =
        ap (λ w. is_one w (i % 64)) (get_or-set_other (replicate n word) k (i / 64) last 0 (omega arith))
        ∙ (filled-ones n word i ones ∙ (lt-ltb i (64 * n) (omega arith) ∙ sym (lt-ltb i (64 * k + rest) (omega arith))))
    by_order (inr (inr behind)) =
        set-past (slice_set (replicate n word) k last) i (omega (arith, length-set (replicate n word) k last, length-replicate n word)) ∙ sym (le-ltb i (64 * k + rest) (omega arith))
