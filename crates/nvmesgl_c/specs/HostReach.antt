-- What a handle shows of the pages that a device may reach, and of where data lies.
use Rattle.std.specs.Prelude.{◌≡◌, ◌<◌, ◌≤◌, ◌⊎◌, ℕ, Bool, true, false, Option, Some, None, Ok, Err, List, [], ◌∷◌, length, min}
use Rattle.host_core.specs.{DataPlaces.place_at, Rights.{right_at, runs_of_command}}
use Rattle.host_core.specs.declared.{data_place.DataPlace.DataPlace, rights.{Right.Right, Run.Run}}
use Rattle.nvmesgl_c.specs.{HostKept.{Kept, code_in}, declared.host.reach.{CPlace.CPlace, CRun.CRun}}
use Rattle.host_core.specs.declared.rights.Right.TheVariants as right

abbrev pub number_of : Right → ℕ
number_of right.Nothing = 0
number_of right.Read = 1
number_of right.Write = 2

abbrev pub run_of : Run → CRun
run_of run = record { first = run.first; right = number_of run.right; count = run.count; reserved = 0 ∷ 0 ∷ 0 ∷ 0 ∷ [] }

abbrev pub place_of : DataPlace → CPlace
place_of place = record { page = place.page; offset = place.offset; len = place.len; reserved = 0 ∷ 0 ∷ 0 ∷ 0 ∷ [] }

-- what a device may do with a page, of a handle that is open
abbrev pub TellsRight : Kept → ℕ → ℕ → ℕ → ℕ → Kept → Type 0
TellsRight (Err h) page code old new left = (code ≡ code_in h) × (new ≡ old) × (left ≡ Err h)
TellsRight (Ok t) page code old new left = (code ≡ 0) × (new ≡ number_of (right_at t.bench.world.host page)) × (left ≡ Ok t)

-- a buffer with runs at its start, as many as it holds
abbrev pub laid : List Run → List CRun → List CRun
laid [] buffer = buffer
laid (run ∷ runs) [] = []
laid (run ∷ runs) (old ∷ buffer) = run_of run ∷ laid runs buffer

pub record LaysRuns (runs : List Run) (old new : List CRun) (count : ℕ) (all : Bool) : Type 0 where
  pub laid_runs : new ≡ laid runs old
  pub how_many : count ≡ min (length runs) (length old)
  pub every_one : all ≡ true → length runs ≤ length old
  pub not_every_one : all ≡ false → length old < length runs

-- the runs of a command, of a handle that is open: none where no such command is outstanding
pub record ShowsRuns (runs : List Run) (code : ℕ) (old new : List CRun) (count : ℕ) : Type 0 where
  pub laid_runs : new ≡ laid runs old
  pub how_many : count ≡ min (length runs) (length old)
  pub done : code ≡ 0 → length runs ≤ length old
  pub too_short : (code ≡ 0) ⊎ ((code ≡ 5) × (length old < length runs))

abbrev pub TellsRuns : Kept → ℕ → ℕ → ℕ → List CRun → List CRun → ℕ → ℕ → Kept → Type 0
TellsRuns (Err h) q cid code old new many many' left = (code ≡ code_in h) × (new ≡ old) × (many' ≡ many) × (left ≡ Err h)
TellsRuns (Ok t) q cid code old new many many' left =
    ShowsRuns (runs_of_command t.bench.world.host q cid) code old new many' × (left ≡ Ok t)

-- where a data piece lies, of a handle that is open
abbrev pub ShowsPlace : Option DataPlace → ℕ → CPlace → CPlace → Type 0
ShowsPlace None code old new = (code ≡ 55) × (new ≡ old)
ShowsPlace (Some place) code old new = (code ≡ 0) × (new ≡ place_of place)

abbrev pub TellsPlace : Kept → ℕ → ℕ → ℕ → ℕ → CPlace → CPlace → Kept → Type 0
TellsPlace (Err h) q cid piece code old new left = (code ≡ code_in h) × (new ≡ old) × (left ≡ Err h)
TellsPlace (Ok t) q cid piece code old new left = ShowsPlace (place_at t.bench.world.host q cid piece) code old new × (left ≡ Ok t)
