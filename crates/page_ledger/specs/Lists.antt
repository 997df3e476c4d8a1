-- Lists of pages that a caller lends.
use Rattle.std.specs.{List.All, Prelude.{◌≡◌, ◌<◌, Bool, List, ℕ, length}}
use Rattle.page_ledger.specs.{Owners.{is_among, is_owned_at}, declared.owner.Owner.Owner}

-- The pages are all those of the pool whose owner passes, and no others.
pub record ListsAll (test : Owner → Bool) (owners : List Owner) (pages : List ℕ) : Type 0 where
  pub within : All (λ p. p < length owners) pages
  pub lists : (p : ℕ) → p < length owners → is_among pages p ≡ is_owned_at test owners p
