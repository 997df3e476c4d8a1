-- What holds of every list of owners.
use Rattle.std.specs.List.Sorted.{IsStrictlyIncreasing}
use Rattle.std.specs.Prelude.{◌≡◌, ◌+◌, ◌<◌, ◌≤◌, ◌↔◌, ◌||◌, Bool, true, false, List, Contains, ℕ, Some, None, drop, filter, not, length, take}
use Rattle.page_ledger.specs.{Counting.{counts_of, total}, Owners.{is_among, owner_at, is_free, is_owned_at, free_pages, pages_owned, with_owner, given_back}}
use Rattle.page_ledger.specs.{Runs.lowest_run, declared.owner.Owner.{Owner, TheVariants.Free}}

-- What is listed are the pages whose owner passes, each once, in rising order.
pub record ListsOwned (test : Owner → Bool) (owners : List Owner) : Type 0 where
  pub listed : (p : ℕ) → Contains (pages_owned test owners) p ↔ (is_owned_at test owners p ≡ true)
  pub rising : IsStrictlyIncreasing (pages_owned test owners)

-- Just these pages get the owner.
pub record ChangesJust (owners : List Owner) (pages : List ℕ) (owner : Owner) : Type 0 where
  pub changed : (p : ℕ) → p < length owners → Contains pages p → owner_at (with_owner owners pages owner) p ≡ Some owner
  pub others : (p : ℕ) → (Contains pages p → ⊥) → owner_at (with_owner owners pages owner) p ≡ owner_at owners p
  pub size : length (with_owner owners pages owner) ≡ length owners

-- The k pages starting at p are in the pool and free.
pub record IsFreeRun (k : ℕ) (owners : List Owner) (p : ℕ) : Type 0 where
  pub free : (i : ℕ) → i < k → owner_at owners (p + i) ≡ Some Free

-- The k pages starting at p are free, and no run of k begins lower.
pub record IsLowestRun (k : ℕ) (owners : List Owner) (p : ℕ) : Type 0 where
  pub run : IsFreeRun k owners p
  pub lowest : (q : ℕ) → IsFreeRun k owners q → p ≤ q

-- What is found is the lowest run, and nothing is found exactly where there is no run.
pub record FindsLowestRun (k : ℕ) (owners : List Owner) : Type 0 where
  pub found : (p : ℕ) → (lowest_run k owners ≡ Some p) ↔ IsLowestRun k owners p
  pub none : (lowest_run k owners ≡ None) ↔ ((p : ℕ) → IsFreeRun k owners p → ⊥)

-- The four counts add up to the number of pages.
abbrev pub CountsAddUp : List Owner → Type 0
CountsAddUp owners = total (counts_of owners) ≡ length owners

-- The free pages after the lowest k got an owner are all others of them.
abbrev pub GrantLeavesRest : ℕ → Owner → List Owner → Type 0
GrantLeavesRest k owner owners =
    is_free owner ≡ false → free_pages (with_owner owners (take k (free_pages owners)) owner) ≡ drop k (free_pages owners)

-- The free pages after any pages got an owner are all others that were free.
abbrev pub GrantLeavesOthers : List ℕ → Owner → List Owner → Type 0
GrantLeavesOthers pages owner owners =
    is_free owner ≡ false → free_pages (with_owner owners pages owner) ≡ filter (λ p. not (is_among pages p)) (free_pages owners)

-- To give back is to make the pages of the named owners free, and then the free pages are these and those from before.
pub record GivesBackOwned (named : Owner → Bool) (owners : List Owner) : Type 0 where
  pub freed : given_back named owners ≡ with_owner owners (pages_owned named owners) Free
  pub free : free_pages (given_back named owners) ≡ pages_owned (λ owner. is_free owner || named owner) owners
