-- Runs of consecutive free pages.
use Rattle.std.specs.{List.list_all, Prelude.{Bool, List, ℕ, Option, find, length}}
use Rattle.page_ledger.specs.{Owners.{is_free, is_owned_at, pages_from}, declared.owner.Owner.Owner}

-- whether the k pages starting at p are free
abbrev pub is_free_run : ℕ → List Owner → ℕ → Bool
is_free_run k owners p = list_all (is_owned_at is_free owners) (pages_from p k)

-- the first page of the lowest run of k consecutive free pages
abbrev pub lowest_run : ℕ → List Owner → Option ℕ
lowest_run k owners = find (is_free_run k owners) (pages_from 0 (length owners))
