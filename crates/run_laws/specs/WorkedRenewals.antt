-- A worked run: a queue is deleted and retired, made again, and deleted and retired again. The second retirement has a deletion of its own.
use Rattle.std.specs.Prelude.{ℕ, None, List, [], ◌∷◌, ◌++◌, length, filter}
use Rattle.machine_model.specs.{Image.Made, Script.{Line, Said, delete_sq, delete_cq, create_cq, create_sq, retire, ok}}
use Rattle.machine_model.specs.WorkedCreations.{managed, managed_said}
use Rattle.run_laws.specs.{Ends.since_renewed, Statuses.deletes}

abbrev pub made_again : List Line
made_again = managed (delete_sq 1) ++ retire 1 ∷ managed (delete_cq 1) ++ managed (create_cq 1 None) ++ managed (create_sq 1)

abbrev pub made_again_said : List Said
made_again_said = managed_said ++ ok ∷ managed_said ++ managed_said ++ managed_said

abbrev pub deleted_again : List Line
deleted_again = managed (delete_sq 1) ++ retire 1 ∷ []

-- all before the second retirement
abbrev pub before_retiring : List Line
before_retiring = made_again ++ managed (delete_sq 1)

abbrev pub deleted_again_said : List Said
deleted_again_said = managed_said ++ ok ∷ []

-- how many fetches of a Delete SQ of queue 1 there are, and how many since it was renewed
abbrev pub deletions : List Made → ℕ
deletions made = length (filter (deletes 1) made)

abbrev pub own_deletions : List Made → ℕ
own_deletions made = deletions (since_renewed 1 made)
