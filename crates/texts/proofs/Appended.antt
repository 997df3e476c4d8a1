-- What is put after what was put.
use Rattle.std.proofs.Common.{◌≡◌, ◌++◌, ◌∙◌, ℕ, List, ap, append_assoc}

pub put_behind : (before first second : List ℕ) {mid after : List ℕ} → mid ≡ before ++ first → after ≡ mid ++ second → after ≡ before ++ (first ++ second)
put_behind before first second one two = two ∙ ap (λ text. text ++ second) one ∙ append_assoc before first second
