-- How often something occurs in a list, as sums of what its elements weigh.
use Rattle.std.specs.Prelude.{ℕ, ◌+◌, ◌==◌, ◌&&◌, Bool, List, [], ◌∷◌, if◌then◌else◌}
use Rattle.machine_model.specs.{Refusals.is_submitted, State.{Record, is_at}}

-- what a test weighs: 1 where it holds
abbrev pub one : Bool → ℕ
one b = if b then 1 else 0

-- what the elements of a list weigh together
abbrev pub total : {A : Type 0} → (A → ℕ) → List A → ℕ
total w [] = 0
total w (x ∷ xs) = w x + total w xs

-- how often an identifier of a queue is outstanding
abbrev pub here : ℕ → ℕ → Record → ℕ
here q cid r = one (is_at q cid r)

-- how much the submitted commands of a queue count, by their identifiers
abbrev pub sent : ℕ → (ℕ → ℕ) → Record → ℕ
sent q w r = if (r.q == q) && is_submitted r.phase then w r.cid else 0
