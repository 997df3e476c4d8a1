-- The bits of one word: the lowest 1 starting at a position, a bit that is set or cleared, and the word of this many ones.
use Rattle.std.proofs.Common.{◌≡◌, ◌≢◌, ℕ, ◌+◌, ◌-◌, ◌*◌, ◌/◌, ◌%◌, ◌^◌, ◌<◌, ◌≤◌, ◌==◌, inl, inr, true, false, not, refl, ap, sym, ◌∙◌, arith, subst, w64, bit_and, bit_or, nat_lt}
use Rattle.std.proofs.lemmas.{Bool.{true≢false, cases_lt, cases_eq, lt-ltb, le-ltb}, Nat.{shr-shr, shr_le}}
use Rattle.std.proofs.lemmas.Nat.Bits.{bit_at-zero, bit_at-trailing_zeros, bit_at_above, bit_at_ones, bit_at_ones_above, bit_at_set_same, bit_at_set_other, bit_at_clear_same, bit_at_clear_other, bit_at_not, bit_at-lt}
use Rattle.std.specs.Int.{bit_at, bit_not, trailing_zeros}
use Rattle.slot_table.specs.{Bits.is_one, Searches.{IsFirstFrom, IsNoneFrom}}

-- a bit as a test

pub one-from : (word i : ℕ) → bit_at word i ≡ 1 → is_one word i ≡ true
one-from word i e = ap (λ b. b == 1) e

pub zero-from : (word i : ℕ) → bit_at word i ≡ 0 → is_one word i ≡ false
zero-from word i e = ap (λ b. b == 1) e

pub zero-above : (word i : ℕ) → word < 2 ^ 64 → 64 ≤ i → is_one word i ≡ false
zero-above word i fits above = zero-from word i (bit_at_above word 64 i fits above)

-- a 1 stands inside its word
pub one-inside : (word i : ℕ) → word < 2 ^ 64 → is_one word i ≡ true → i < 64
one-inside word i fits one = elim (cases_lt i 64) [ inl inside ↦ inside | inr above ↦ absurd (true≢false (sym one ∙ zero-above word i fits above)) ]

-- the lowest 1 of a word that was shifted

shifted : (word place i : ℕ) → bit_at (word / 2 ^ place) i ≡ bit_at word (place + i)
shifted word place i = ap (λ n. n % 2) (shr-shr word place i)

pub lowest-none : (word place : ℕ) → word / 2 ^ place ≡ 0 → IsNoneFrom (is_one word) place
lowest-none word place e = record {
  fails = λ i low.
      let same : place + (i - place) ≡ i = omega arith in
      zero-from word i (subst (λ (j : ℕ). bit_at word j ≡ 0) same
      (sym (shifted word place (i - place)) ∙ (ap (λ n. bit_at n (i - place)) e ∙ bit_at-zero (i - place))));
}

pub lowest-of : (word : ℕ) → word < 2 ^ 64 → 0 < word → IsFirstFrom (is_one word) 0 (trailing_zeros w64 word)
lowest-of word fits some =
    let low = bit_at-trailing_zeros w64 word some fits in
    record { after = omega arith; passes = one-from word (trailing_zeros w64 word) low.1; before = λ i from_i below. zero-from word i (low.2 i below) }

pub lowest-first : (word place : ℕ) → word < 2 ^ 64 → 0 < word / 2 ^ place → IsFirstFrom (is_one word) place (place + trailing_zeros w64 (word / 2 ^ place))
lowest-first word place fits some =
    let low = lowest-of (word / 2 ^ place) (omega (arith, shr_le word place)) some in
    record {
      after = omega arith;
      passes = sym (ap (λ b. b == 1) (shifted word place (trailing_zeros w64 (word / 2 ^ place)))) ∙ low.passes;
      before = λ i from_i below.
          let same : place + (i - place) ≡ i = omega arith in
          subst (λ (j : ℕ). is_one word j ≡ false) same (sym (ap (λ b. b == 1) (shifted word place (i - place))) ∙ low.before (i - place) (omega arith) (omega arith));
    }

-- a bit that is set, and one that is cleared

pub one-set : (word place : ℕ) → place < 64 → is_one (bit_or word (1 * 2 ^ place % 2 ^ 64)) place ≡ true
one-set word place inside = one-from _ place (bit_at_set_same w64 word place inside)

pub others-set : (word place i : ℕ) → place < 64 → i ≢ place → is_one (bit_or word (1 * 2 ^ place % 2 ^ 64)) i ≡ is_one word i
others-set word place i inside other = ap (λ b. b == 1) (bit_at_set_other w64 word place inside i other)

pub one-cleared : (word place : ℕ) → place < 64 → is_one (bit_and word (bit_not w64 (1 * 2 ^ place % 2 ^ 64))) place ≡ false
one-cleared word place inside = zero-from _ place (bit_at_clear_same w64 word place inside)

pub others-cleared : (word place i : ℕ) → place < 64 → i < 64 → i ≢ place → is_one (bit_and word (bit_not w64 (1 * 2 ^ place % 2 ^ 64))) i ≡ is_one word i
others-cleared word place i inside within other = ap (λ b. b == 1) (bit_at_clear_other w64 word place inside i within other)

-- the word of this many ones

pub ones-are : (n i : ℕ) → is_one (2 ^ n - 1) i ≡ nat_lt i n
ones-are n i = elim (cases_lt i n) [
  | inl below ↦ one-from (2 ^ n - 1) i (bit_at_ones n i below) ∙ sym (lt-ltb i n below)
  | inr above ↦ zero-from (2 ^ n - 1) i (bit_at_ones_above n i above) ∙ sym (le-ltb i n above)
]

-- the other bits of a word

pub flipped : (word i : ℕ) → word < 2 ^ 64 → i < 64 → is_one (bit_not w64 word) i ≡ not (is_one word i)
flipped word i fits inside = ap (λ b. b == 1) (bit_at_not w64 word i fits inside) ∙ by_bit (bit_at word i) (bit_at-lt word i)
  where
    by_bit : (b : ℕ) → b < 2 → ((1 - b) == 1) ≡ not (b == 1)
    by_bit b l = elim (cases_eq b 0) [
      | inl e ↦ subst (λ (b : ℕ). ((1 - b) == 1) ≡ not (b == 1)) (sym e) refl
      | inr e ↦ let same : 1 ≡ b = omega arith in subst (λ (b : ℕ). ((1 - b) == 1) ≡ not (b == 1)) same refl
    ]
