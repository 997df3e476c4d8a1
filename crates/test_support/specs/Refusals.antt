-- Which calls for memory are refused.
use Rattle.std.specs.Prelude.{◌≡◌, ◌≤◌, ◌<◌, ◌^◌, ◌↔◌, ℕ}
use Rattle.test_support.specs.declared.refusal.RefusedCalls.{RefusedCalls, TheVariants.{Never, Nth, NthOn}}

-- the call of this number, counted from 1, is refused
abbrev pub IsRefused : RefusedCalls → ℕ → Type 0
IsRefused Never call = ⊥
IsRefused (Nth refused) call = call ≡ refused
IsRefused (NthOn first) call = first ≤ call

-- the calls that are refused are those from the first number to the last
abbrev pub IsSpanOf : RefusedCalls → ℕ → ℕ → Type 0
IsSpanOf refusal first last = (call : ℕ) → call < 2 ^ 64 → IsRefused refusal call ↔ ((first ≤ call) × (call ≤ last))
