use Rattle.driver_book.proofs.Runs.{logs_of_jobs_are_runs}
use Rattle.driver_book.proofs.laws.law_of_logs_of_jobs.Goals as goal

pub returns : goal.returns
returns c = logs_of_jobs_are_runs
