-- A host over its pages and the values that the bench keeps, as a table.
use Rattle.std.specs.{Prelude.{◌≡◌, ℕ, None, Some, List, Option}}
use Rattle.io_commands.specs.{Drafts.{DraftContents, built}}
use Rattle.machine_model.specs.{Script.{Table, fill_fault, filled_draft}, State.{State}}
use Rattle.host_core.specs.Alone.{IsOver, alone}
use Rattle.host_core.specs.Opening.{opened_pages, opened_view}
use Rattle.host_bench.specs.CommandValues.{table_with, IsBench}
use Rattle.host_bench.specs.declared.values.CommandValue.{CommandValue}
use Rattle.host_bench.specs.declared.values.CommandValue.TheVariants as value
use Rattle.host_bench.specs.Values.{Reply}
use Rattle.host_core.specs.declared.config.Config.{Config}
use Rattle.host_bench.specs.declared.bench_tables.BenchTables.{BenchTables}
use Rattle.machine_model.specs.declared.words.Refusal.TheVariants as refusal
use Rattle.host_bench.specs.declared.call.Reply.TheVariants as reply
use Rattle.machine_model.specs.declared.words.Peer.TheVariants.{Device}

-- the machine that a host is over its pages, with no controller
abbrev pub state_of : {A : Type 0} → BenchTables A → State
state_of kept = alone kept.host kept.store.pages

abbrev pub table_of : {A : Type 0} → BenchTables A → Table
table_of kept = table_with (state_of kept) kept.values

-- that of a host as it opens
abbrev pub opened_alone : Config → State
opened_alone c = alone (opened_view c Device) (opened_pages c)

-- what is kept between calls: the pages are the host's, and the values are those of its commands
pub record IsKept {A : Type 0} (kept : BenchTables A) : Type 0 where
  pub over : IsOver kept.host kept.store.pages
  pub bench : IsBench (state_of kept) kept.values

-- what filling a draft answers, and what it leaves of it
abbrev pub FillsDraft : DraftContents → List ℕ → Reply → DraftContents → Type 0
FillsDraft d bytes reply.Accepted new = (fill_fault bytes d ≡ None) × (new ≡ filled_draft bytes d)
FillsDraft d bytes (reply.NotFilled why) new = (fill_fault bytes d ≡ Some why) × (new ≡ d)
FillsDraft d bytes answer new = ⊥

-- what building a draft answers, and what it leaves of it
abbrev pub BuildsDraft : DraftContents → Reply → DraftContents → Type 0
BuildsDraft d reply.Accepted new = new ≡ built d
BuildsDraft d (reply.Refused refusal.Memory) new = new ≡ d
BuildsDraft d answer new = ⊥

-- likewise of a row, whose draft stays there
abbrev pub BuildsRow : {A : Type 0} → Option (CommandValue A) → Option DraftContents → Reply → Option (CommandValue A) → Type 0
BuildsRow row None answer new = (answer ≡ reply.NoValue) × (new ≡ row)
BuildsRow row (Some d) answer new = (left : DraftContents) × BuildsDraft d answer left × (new ≡ Some (value.Draft left))
