use Rattle.run_laws.proofs.ReadLaws.{runs_end_by_completions}
use Rattle.run_laws.proofs.ends.law_of_completions.Goals as goal

pub returns : goal.returns
returns c = runs_end_by_completions
