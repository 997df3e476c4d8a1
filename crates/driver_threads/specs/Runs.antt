-- What a run of threads leaves.
use Rattle.std.specs.Prelude.{◌≡◌, Some, None, List}
use Rattle.step_core.specs.World.{WorldContents}
use Rattle.driver_book.specs.{Entries.LogContents, History.accepted, Reports.Report, State.{BookContents, SeatContents}}
use Rattle.machine_model.specs.State.{State}
use Rattle.host_core.specs.{Opening.refusal_of_config, declared.config.Config.Config}
use Rattle.driver_threads.specs.{Sharing.Closes, declared.jobs.RunFault.{RunFault, TheVariants.Open}}

-- the report is that of this very book, which was closed with some seats and is otherwise as it was
pub record RanFrom (opening : State) (report : Report) (book : BookContents) : Type 0 where
  pub seats : List SeatContents
  pub before : BookContents
  pub closed : Closes opening report seats before
  pub same : book ≡ record before { out = 0; taken = accepted before.log }

-- A round over an existing world: a book of this opening was closed with some seats; the report is its report, the log is its log, and the world its world.
pub record EndsRound (opening : State) (log : LogContents) (report : Report) (world : WorldContents) : Type 0 where
  pub seats : List SeatContents
  pub book : BookContents
  pub closed : Closes opening report seats book
  pub same_log : log ≡ record { entries = book.log; room = book.room }
  pub same_world : world ≡ record { state = book.world; touches = book.touches }

-- a fault of a run whose book was opened
abbrev pub IsAfterOpening : RunFault → Type 0
IsAfterOpening (Open why) = ⊥
IsAfterOpening why = Unit {0}

-- A run is refused for its opening exactly where that is refused, and then for nothing else. Want of memory for the opening is told as that.
abbrev pub RefusesRun : Config → RunFault → Type 0
RefusesRun config (Open why) = refusal_of_config config ≡ Some why
RefusesRun config why = refusal_of_config config ≡ None
