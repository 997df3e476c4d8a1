-- Where a fault is in its line.
use Rattle.std.specs.Prelude.{ℕ, ◌≤◌}
use Rattle.texts.specs.declared.faults.finding.{FindError.FindError, Found.Found}
use Rattle.texts.specs.declared.faults.finding.FindError.TheVariants as error

-- what was found is inside a line of this length
abbrev pub IsIn : ℕ → Found → Type 0
IsIn len found = (found.start ≤ found.end) × (found.end ≤ len)

-- the fault at which reading stops is inside it, or memory was refused
abbrev pub IsErrorIn : ℕ → FindError → Type 0
IsErrorIn len (error.Found found) = IsIn len found
IsErrorIn len error.Memory = Unit {0}
