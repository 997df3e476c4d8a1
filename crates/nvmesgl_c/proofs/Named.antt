-- A memory with a name beyond all addresses: at each address it is that memory, and it tells the name.
use Rattle.std.proofs.Common.{◌≡◌, ◌≢◌, ℕ, zero, suc, ◌+◌, ◌-◌, ◌^◌, ◌<◌, ◌≤◌, ◌&&◌, List, Option, Some, None, refl, sym, ap, ◌∙◌, length, nat_le, nat_lt, slice_index, if◌then◌else◌, arith, inl, inr}
use Rattle.std.proofs.{Math.Path.fun_ext, lemmas.Bool.{cases_lt, Decides.nat_tests}}
use Rattle.page_memory.{proofs.Bytes.written_after, specs.Memory.{Memory, bytes_at, written}}
use Rattle.nvmesgl_c.specs.Named.{named_memory}

pub at_address : (m : Memory) (name place : ℕ) → place < 2 ^ 65 → named_memory m name place ≡ m place
at_address m name place low = grind (arith, nat_tests)

far : (m : Memory) (name place : ℕ) → 2 ^ 65 ≤ place → named_memory m name place ≡ Some name
far m name place high = grind (arith, nat_tests)

-- a range starting at an address
pub bytes_named : (m : Memory) (name at n : ℕ) → at + n ≤ 2 ^ 65 → bytes_at (named_memory m name) at n ≡ bytes_at m at n
unfolding bytes_at
bytes_named m name at zero low = refl
bytes_named m name at (suc n) low =
    let here : named_memory m name at ≡ m at = at_address m name at (omega (arith, low)) in
    let rest : bytes_at (named_memory m name) (at + 1) n ≡ bytes_at m (at + 1) n = bytes_named m name (at + 1) n (omega (arith, low)) in
    rw (here, rest) refl

pub there_named : (m : Memory) (name at n : ℕ) → at + n ≤ 2 ^ 65 → bytes_at m at n ≢ None → bytes_at (named_memory m name) at n ≢ None
there_named m name at n low there = rw (bytes_named m name at n low) there

-- one address of two memories that are written alike
pub written_alike : (m m' : Memory) (at place : ℕ) (new : List ℕ) → m place ≡ m' place → written m at new place ≡ written m' at new place
written_alike m m' at place new e =
    ap (λ (o : Option ℕ). if nat_le at place && nat_lt place (at + length new) then Some (slice_index new (place - at)) else o) e

-- a write
pub wrote_named : (m m' : Memory) (new : List ℕ) (name at : ℕ) → at + length new ≤ 2 ^ 65 → m' ≡ written m at new → named_memory m' name ≡ written (named_memory m name) at new
wrote_named m m' new name at fits wrote =
    fun_ext (λ k. elim (cases_lt k (2 ^ 65)) [
      | inl low ↦ at_address m' name k low ∙ ap (λ (o : Memory). o k) wrote ∙ written_alike m (named_memory m name) at k new (sym (at_address m name k low))
      | inr high ↦ far m' name k high ∙ sym (far m name k high) ∙ sym (written_after (named_memory m name) at k new (omega (arith, fits, high)))
    ])

some_is : (a b : ℕ) → Some a ≡ Some b → a ≡ b
some_is a b e = cc

-- a memory tells the name, and what it is at each address
pub same_name : (m m' : Memory) (a b : ℕ) → named_memory m a ≡ named_memory m' b → a ≡ b
same_name m m' a b e =
    some_is a b (sym (far m a (2 ^ 65) (omega arith)) ∙ ap (λ (o : Memory). o (2 ^ 65)) e ∙ far m' b (2 ^ 65) (omega arith))

pub same_memory : (m m' : Memory) (a b : ℕ) → ((k : ℕ) → 2 ^ 65 ≤ k → m k ≡ None) → ((k : ℕ) → 2 ^ 65 ≤ k → m' k ≡ None) → named_memory m a ≡ named_memory m' b → m ≡ m'
same_memory m m' a b ends ends' e =
    fun_ext (λ k. elim (cases_lt k (2 ^ 65)) [
      | inl low ↦ sym (at_address m a k low) ∙ ap (λ (o : Memory). o k) e ∙ at_address m' b k low
      | inr high ↦ ends k high ∙ sym (ends' k high)
    ])
