use Rattle.run_laws.proofs.ReadLaws.{runs_retire_deleted}
use Rattle.run_laws.proofs.ends.law_of_retirements.Goals as goal

pub returns : goal.returns
returns c = runs_retire_deleted
