-- What a search through numbers finds: the first that passes a test, and how far they pass without a gap.
use Rattle.std.specs.{List.{list_all, range_with_len}, Prelude.{◌≡◌, ◌<◌, ◌≤◌, Bool, true, false, ℕ, Option, MatchOption}}

-- r is the first number that passes, starting at another
pub record IsFirstFrom (test : ℕ → Bool) (from r : ℕ) : Type 0 where
  pub after : from ≤ r
  pub passes : test r ≡ true
  pub before : (i : ℕ) → from ≤ i → i < r → test i ≡ false

-- no number passes starting at this one
pub record IsNoneFrom (test : ℕ → Bool) (from : ℕ) : Type 0 where
  pub fails : (i : ℕ) → from ≤ i → test i ≡ false

-- the first number that passes, starting at another, is answered, and nothing exactly where there is none
abbrev pub FindsFrom : (ℕ → Bool) → ℕ → Option ℕ → Type 0
FindsFrom test from answer = MatchOption answer (IsNoneFrom test from) (IsFirstFrom test from)

-- all numbers from a given one as far as r pass, where they reach a limit or one fails
pub record IsRunEnd (test : ℕ → Bool) (from limit r : ℕ) : Type 0 where
  pub after : from ≤ r
  pub inside : r ≤ limit
  pub passes : (i : ℕ) → from ≤ i → i < r → test i ≡ true
  pub ends : r < limit → test r ≡ false

-- whether the k numbers from a given one pass
abbrev pub is_run : (ℕ → Bool) → ℕ → ℕ → Bool
is_run test k i = list_all test (range_with_len i k)
