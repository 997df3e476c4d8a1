use Rattle.run_laws.proofs.Verdicts.{runs_keep_jobs, runs_count_first_verdicts, runs_keep_verdicts, verdict_ends_walks}
use Rattle.run_laws.proofs.ends.law_of_verdicts.Goals as goal

pub returns-clause-stay : goal.returns-clause-stay
returns-clause-stay c = runs_keep_verdicts

pub returns-clause-ends_walks : goal.returns-clause-ends_walks
returns-clause-ends_walks c = verdict_ends_walks

pub returns-clause-count : goal.returns-clause-count
returns-clause-count c = runs_count_first_verdicts

pub returns-clause-jobs : goal.returns-clause-jobs
returns-clause-jobs c = runs_keep_jobs
