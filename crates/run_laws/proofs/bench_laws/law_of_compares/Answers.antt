use Rattle.run_laws.proofs.KeptValues.{compares_told_by_steps}
use Rattle.run_laws.proofs.bench_laws.law_of_compares.Goals as goal

pub returns : goal.returns
returns c = compares_told_by_steps
