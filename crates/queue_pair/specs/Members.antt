-- A list of queues, or of what else has a number.
use Rattle.std.specs.Prelude.{ℕ, zero, suc, List, [], ◌∷◌}

-- the list with one member changed, if it has that many
abbrev pub change : {A : Type 0} → ℕ → (A → A) → List A → List A
change k f [] = []
change zero f (x ∷ xs) = f x ∷ xs
change (suc k) f (x ∷ xs) = x ∷ change k f xs
