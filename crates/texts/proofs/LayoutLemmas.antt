-- What is shown of a line.
use Rattle.std.proofs.Common.{arith, ◌≡◌, ◌≤◌, ◌+◌, ◌-◌, ◌⊎◌, ◌∙◌, ℕ, List, ap, drop, inl, inr, length, length-drop, min, nat_lt, sym, take}
use Rattle.std.proofs.lemmas.{Bool.Decides.nat_tests, List.{drop_all, take_all}}

at_most : (m n : ℕ) → (m ≤ n) ⊎ (n ≤ m)
at_most m n = grind arith

cut_short : (xs : List ℕ) (n : ℕ) → take (min (length xs) n) xs ≡ take n xs
cut_short xs n =
    elim (at_most (length xs) n) [
      | inl short ↦ take_all (min (length xs) n) xs (omega arith) ∙ sym (take_all n xs short)
      | inr long ↦ ap (λ (m : ℕ). take m xs) (omega arith)
    ]

rest_is : (line : List ℕ) (from : ℕ) → drop (min from (length line)) line ≡ drop from line
rest_is line from =
    elim (at_most from (length line)) [
      | inl inside ↦ ap (λ (m : ℕ). drop m line) (omega arith)
      | inr outside ↦ drop_all (min from (length line)) line (omega arith) ∙ sym (drop_all from line outside)
    ]

-- what is left of a line, and how much of it is shown
pub part_is : (line rest : List ℕ) (from cut part : ℕ) → cut ≡ min from (length line) → rest ≡ drop cut line → part ≡ min (length rest) 76
    → (take part rest ≡ take 76 (drop from line)) × (nat_lt 76 (length rest) ≡ nat_lt (from + 76) (length line))
part_is line rest from cut part cut_is rest_at part_at =
    let same : rest ≡ drop from line = rest_at ∙ (ap (λ (m : ℕ). drop m line) cut_is ∙ rest_is line from) in
    let len : length rest ≡ length line - from = ap length same ∙ length-drop from line in
    (ap (λ (m : ℕ). take m rest) part_at ∙ (cut_short rest 76 ∙ ap (take 76) same), grind (arith, nat_tests))
