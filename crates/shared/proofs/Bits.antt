-- The bits of a set of changes.
use Rattle.std.proofs.Common.{◌≡◌, refl, sym, ap, ◌∙◌, ℕ, zero, suc, ◌-◌, ◌*◌, ◌%◌, ◌^◌, ◌<◌, ◌⊎◌, inl, inr, true, not, ◌&&◌, ◌||◌, ◌==◌, min, max, bit_and, bit_or, arith, w32, pow_pos, zero-mul}
use Rattle.std.proofs.lemmas.Bool.{Decides.eqb_tells, ne_eqb}
use Rattle.std.proofs.lemmas.Nat.Bits.{and_pow, bit_at-lt, bit_at_ones, bit_at_and, bit_at_not, bit_at_or, bit_at-pow_other, bit_at-pow_same}
use Rattle.std.specs.Int.{bit_at}
use Rattle.shared.specs.Changes.{are_one, bit_of}
use Rattle.shared.specs.declared.changes.{Change.Change, Change.TheVariants.{Room, Posted, Rung, Ended}}

-- a bit is 0 or 1
bit_cases : (d : ℕ) → d < 2 → (d ≡ 0) ⊎ (d ≡ 1)
bit_cases zero low = inl refl
bit_cases (suc zero) low = inr refl
bit_cases (suc (suc d)) low = absurd (omega arith)

product_of : (d p : ℕ) → d < 2 → 0 < p → not (d * p == 0) ≡ (d == 1)
product_of d p low some =
    elim (bit_cases d low) [
      | inl e ↦ ap (λ x. not (x * p == 0)) e ∙ ap (λ x. not (x == 0)) (zero-mul p) ∙ ap (λ x. x == 1) (sym e)
      | inr e ↦ ap (λ x. not (x * p == 0)) e ∙ ap not (ne_eqb (1 * p) 0 (λ h. omega arith)) ∙ ap (λ x. x == 1) (sym e)
    ]

-- the test of one bit
pub tested_bit : (n k : ℕ) → not (bit_and n (2 ^ k) == 0) ≡ (bit_at n k == 1)
tested_bit n k = ap (λ x. not (x == 0)) (and_pow n k) ∙ product_of (bit_at n k) (2 ^ k) (bit_at-lt n k) (pow_pos k)

-- the one bit of a power of two
pub one_bit : (k i : ℕ) → (bit_at (2 ^ k) i == 1) ≡ (k == i)
one_bit k i =
    elim (eqb_tells k i) [
      | inl (is, same) ↦ ap (λ j. bit_at (2 ^ k) j == 1) (sym same) ∙ ap (λ x. x == 1) (bit_at-pow_same k) ∙ sym is
      | inr (is, apart) ↦ ap (λ x. x == 1) (bit_at-pow_other k i (λ e. apart (sym e))) ∙ sym is
    ]

-- two changes have one bit exactly where they are one
pub same_bits : (change other : Change) → (bit_of change == bit_of other) ≡ are_one change other
same_bits Room Room = refl
same_bits Room Posted = refl
same_bits Room Rung = refl
same_bits Room (Ended place) = ne_eqb 16 (place % 16) (λ e. omega arith)
same_bits Posted Room = refl
same_bits Posted Posted = refl
same_bits Posted Rung = refl
same_bits Posted (Ended place) = ne_eqb 17 (place % 16) (λ e. omega arith)
same_bits Rung Room = refl
same_bits Rung Posted = refl
same_bits Rung Rung = refl
same_bits Rung (Ended place) = ne_eqb 18 (place % 16) (λ e. omega arith)
same_bits (Ended place) Room = ne_eqb (place % 16) 16 (λ e. omega arith)
same_bits (Ended place) Posted = ne_eqb (place % 16) 17 (λ e. omega arith)
same_bits (Ended place) Rung = ne_eqb (place % 16) 18 (λ e. omega arith)
same_bits (Ended place) (Ended other) = refl

pub one_change : (change other : Change) → (bit_at (2 ^ bit_of change) (bit_of other) == 1) ≡ are_one change other
one_change change other = one_bit (bit_of change) (bit_of other) ∙ same_bits change other

-- the bit of a change is one of the lowest nineteen
pub bit_of_below : (change : Change) → bit_of change < 19
bit_of_below Room = omega arith
bit_of_below Posted = omega arith
bit_of_below Rung = omega arith
bit_of_below (Ended place) = omega arith

-- each change is among all
pub told_by_all : (change : Change) → (bit_at 524287 (bit_of change) == 1) ≡ true
told_by_all change = ap (λ bit. bit == 1) (bit_at_ones 19 (bit_of change) (bit_of_below change))

-- either, both, and one without the other, of two bits
pub either_bit : (a b i : ℕ) → (bit_at (bit_or a b) i == 1) ≡ (bit_at a i == 1) || (bit_at b i == 1)
either_bit a b i = ap (λ x. x == 1) (bit_at_or a b i) ∙ of_bits (bit_at a i) (bit_at b i) (bit_at-lt a i) (bit_at-lt b i)
  where
    of_bits : (c d : ℕ) → c < 2 → d < 2 → (max c d == 1) ≡ (c == 1) || (d == 1)
    of_bits zero zero _ _ = refl
    of_bits zero (suc zero) _ _ = refl
    of_bits (suc zero) zero _ _ = refl
    of_bits (suc zero) (suc zero) _ _ = refl
    of_bits (suc (suc c)) d low _ = absurd (omega arith)
    of_bits c (suc (suc d)) _ low = absurd (omega arith)

pub both_bits : (a b i : ℕ) → (bit_at (bit_and a b) i == 1) ≡ (bit_at a i == 1) && (bit_at b i == 1)
both_bits a b i = ap (λ x. x == 1) (bit_at_and a b i) ∙ of_bits (bit_at a i) (bit_at b i) (bit_at-lt a i) (bit_at-lt b i)
  where
    of_bits : (c d : ℕ) → c < 2 → d < 2 → (min c d == 1) ≡ (c == 1) && (d == 1)
    of_bits zero zero _ _ = refl
    of_bits zero (suc zero) _ _ = refl
    of_bits (suc zero) zero _ _ = refl
    of_bits (suc zero) (suc zero) _ _ = refl
    of_bits (suc (suc c)) d low _ = absurd (omega arith)
    of_bits c (suc (suc d)) _ low = absurd (omega arith)

pub bit_without : (a b i : ℕ) → b < 2 ^ 32 → i < 32 → (bit_at (bit_and a (2 ^ 32 - 1 - b)) i == 1) ≡ (bit_at a i == 1) && not (bit_at b i == 1)
bit_without a b i fits low = both_bits a (2 ^ 32 - 1 - b) i ∙ ap (λ x. (bit_at a i == 1) && x) (ap (λ x. x == 1) (bit_at_not w32 b i fits low) ∙ of_bit (bit_at b i) (bit_at-lt b i))
  where
    of_bit : (d : ℕ) → d < 2 → (1 - d == 1) ≡ not (d == 1)
    of_bit zero _ = refl
    of_bit (suc zero) _ = refl
    of_bit (suc (suc d)) low = absurd (omega arith)
