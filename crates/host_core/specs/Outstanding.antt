-- Commands that are outstanding.
use Rattle.std.specs.Prelude.{◌≡◌, ℕ, Some, List, find}
use Rattle.io_commands.specs.Asked.{Request}
use Rattle.machine_model.specs.{State.{Record, is_at}, declared.words.Work.TheVariants.Io}

-- a command of the caller's is outstanding under a name
abbrev pub IsOutstanding : ℕ → ℕ → List Record → Type 0
IsOutstanding q cid records = (r : Record) × (find (is_at q cid) records ≡ Some r) × (asked : Request) × (r.work ≡ Io asked)
