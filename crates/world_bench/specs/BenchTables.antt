-- A bench's world and kept values, as a table.
use Rattle.std.specs.{Prelude.{◌≡◌, ℕ, None, Some, List, []}}
use Rattle.io_commands.specs.{Drafts.{DraftContents, built}}
use Rattle.machine_model.specs.{Script.{Table, fill_fault, filled_draft}}
use Rattle.host_bench.specs.CommandValues.{table_with}
use Rattle.step_core.specs.Values.{Reply}
use Rattle.world_bench.specs.declared.bench_tables.BenchTables.{BenchTables}
use Rattle.machine_model.specs.declared.words.Refusal.TheVariants as refusal
use Rattle.step_core.specs.declared.step.Reply.TheVariants as reply

abbrev pub table_of : {A : Type 0} → BenchTables A → Table
table_of kept = table_with kept.world.state kept.values

-- what contracts see of a bench: its table, and how many pages were touched so far
pub record BenchContents : Type 0 where
  pub table : Table
  pub touches : ℕ

abbrev pub contents_of : {A : Type 0} → BenchTables A → BenchContents
contents_of kept = record { table = table_of kept; touches = kept.world.touches }

-- what filling a draft answers, and what it leaves of it
abbrev pub FillsDraft : DraftContents → List ℕ → Reply → DraftContents → Type 0
FillsDraft d bytes reply.Accepted new = (fill_fault bytes d ≡ None) × (new ≡ filled_draft bytes d)
FillsDraft d bytes (reply.NotFilled why) new = (fill_fault bytes d ≡ Some why) × (new ≡ d)
FillsDraft d bytes answer new = ⊥

-- what building a draft answers, and what it leaves of it
abbrev pub BuildsDraft : DraftContents → Reply → DraftContents → Type 0
BuildsDraft d reply.Accepted new = new ≡ built d
BuildsDraft d (reply.Refused refusal.Memory []) new = new ≡ d
BuildsDraft d answer new = ⊥
