-- How fetched commands stand in a table, and are counted. No public clause cites this module.
use Rattle.std.specs.{List.count_by, Prelude.{◌≡◌, ℕ, ◌==◌, List, [], ◌∷◌, get_or}}
use Rattle.slot_table.specs.Rows.{Row}
use Rattle.controller_core.specs.Contents.{FetchedCommand, entry_of_work}

-- how many queues there are, and the commands that were fetched from them and not completed, in the order of the fetches
pub record Outstanding : Type 0 where
  pub queues : ℕ
  pub list : List FetchedCommand

-- each command stands in the place of its queue and its identifier
abbrev pub AreNamed : List (Row FetchedCommand) → Type 0
AreNamed [] = Unit {0}
AreNamed (row ∷ rows) = (row.value.q ≡ row.q) × ((entry_of_work row.value.work).cid ≡ row.cid) × AreNamed rows

-- how many commands a queue has
abbrev pub count_of : List FetchedCommand → ℕ → ℕ
count_of commands q = count_by (λ k. k.q == q) commands

-- Each queue's count is that of its commands, and no other queue has commands.
abbrev pub AreCounted : List ℕ → List FetchedCommand → Type 0
AreCounted counts commands = (q : ℕ) → get_or counts q 0 ≡ count_of commands q
