use Rattle.run_laws.proofs.Causes.{statuses_have_causes}
use Rattle.run_laws.proofs.laws.law_of_statuses.Goals as goal

pub returns : goal.returns
returns c = statuses_have_causes
