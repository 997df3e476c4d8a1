-- Lists of submitters, one after the other.
use Rattle.std.specs.Prelude.{ℕ, zero, suc, List, [], ◌∷◌, ◌++◌}

-- the lists of two: each list of the second after the one that the first has at its index
abbrev pub behind : {A : Type 0} → List (List A) → List (List A) → List (List A)
behind [] later = later
behind (first ∷ before) [] = first ∷ before
behind (first ∷ before) (next ∷ later) = (first ++ next) ∷ behind before later

-- one more list, after the one at its index, or as the next one
abbrev pub added : {A : Type 0} → List (List A) → ℕ → List A → List (List A)
added [] place later = later ∷ []
added (first ∷ before) zero later = (first ++ later) ∷ before
added (first ∷ before) (suc place) later = first ∷ added before place later
