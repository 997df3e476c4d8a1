-- A queue and a command of the host's tables, as contracts see them.
use Rattle.std.specs.Prelude.{ℕ, ◌+◌, ◌==◌, Option, List, [], ◌∷◌, if◌then◌else◌}
use Rattle.entry_codec.specs.declared.{hints.Hints.Hints, status.Status.Status}
use Rattle.machine_model.specs.{Work.Work, declared.words.Phase.Phase}
use Rattle.queue_pair.specs.Rings.{HostSide}
use Rattle.slot_table.specs.Rows.{Row}
use Rattle.host_core.specs.declared.queue.Queue as queue

-- they say nothing of where a queue's lists were made
abbrev pub Queue : Type 0
Queue = queue.Queue HostSide

-- what the host keeps of an outstanding command in its slot: all but the queue and the identifier
pub record RecordRow : Type 0 where
  pub phase : Phase
  pub work : Work
  pub data_pages : List ℕ
  pub chain_pages : List ℕ
  pub status : Option Status
  pub hints : Hints

-- how many of the rows are in slots of a queue
abbrev pub rows_on : ℕ → List (Row RecordRow) → ℕ
rows_on q [] = 0
rows_on q (row ∷ rows) = if row.q == q then rows_on q rows + 1 else rows_on q rows
