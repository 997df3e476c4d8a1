-- Lists in which one value alone is changed, or left out.
use Rattle.std.specs.Prelude.{Bool, List, [], ◌∷◌, if◌then◌else◌}

-- a list without the first value that passes a test, and with the first one changed
abbrev pub without_first : {X : Type 0} → (X → Bool) → List X → List X
without_first p [] = []
without_first p (x ∷ xs) = if p x then xs else x ∷ without_first p xs

abbrev pub with_first : {X : Type 0} → (X → Bool) → (X → X) → List X → List X
with_first p f [] = []
with_first p f (x ∷ xs) = if p x then f x ∷ xs else x ∷ with_first p f xs
