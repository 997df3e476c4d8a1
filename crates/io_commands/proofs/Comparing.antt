-- Bytes that are compared part by part.
use Rattle.std.proofs.Common.{◌≡◌, ℕ, Bool, true, false, ◌&&◌, List, [], ◌∷◌, ◌++◌, ◌<◌, ◌≤◌, ◌==◌, refl, ap, sym, ◌∙◌, length, take, drop, arith}
use Rattle.std.specs.Str.{bytes_eq}

and_assoc : (a b c : Bool) → ((a && b) && c) ≡ (a && (b && c))
and_assoc true b c = refl
and_assoc false b c = refl

-- the first part with as many of the bytes, and the rest with the others
pub parts_equal : (here rest bytes : List ℕ) → length here ≤ length bytes → bytes_eq (here ++ rest) bytes ≡ (bytes_eq here (take (length here) bytes) && bytes_eq rest (drop (length here) bytes))
parts_equal [] rest bytes fits = refl
parts_equal (x ∷ here) rest [] fits = absurd (omega (arith, fits))
parts_equal (x ∷ here) rest (y ∷ bytes) fits =
    ap (λ b. (x == y) && b) (parts_equal here rest bytes (omega (arith, fits))) ∙ sym (and_assoc (x == y) (bytes_eq here (take (length here) bytes)) (bytes_eq rest (drop (length here) bytes)))

and_false : (b : Bool) → (b && false) ≡ false
and_false true = refl
and_false false = refl

-- too few bytes are others
pub shorter_differs : (here rest bytes : List ℕ) → length bytes < length here → bytes_eq (here ++ rest) bytes ≡ false
shorter_differs [] rest bytes few = absurd (omega (arith, few))
shorter_differs (x ∷ here) rest [] few = refl
shorter_differs (x ∷ here) rest (y ∷ bytes) few = ap (λ b. (x == y) && b) (shorter_differs here rest bytes (omega (arith, few))) ∙ and_false (x == y)
