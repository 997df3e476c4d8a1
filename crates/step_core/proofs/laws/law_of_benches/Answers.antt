use Rattle.step_core.proofs.Order.{makes_trusted_run, runs_of}
use Rattle.step_core.proofs.laws.law_of_benches.Goals as goal

pub returns-clause-run : goal.returns-clause-run
returns-clause-run c = runs_of

pub returns-clause-lawful : goal.returns-clause-lawful
returns-clause-lawful c = makes_trusted_run
