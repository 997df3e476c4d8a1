use Rattle.driver_book.proofs.Runs.{logs_are_runs}
use Rattle.driver_book.proofs.laws.law_of_logs.Goals as goal

pub returns : goal.returns
returns c = logs_are_runs
