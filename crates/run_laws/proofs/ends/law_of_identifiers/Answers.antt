use Rattle.run_laws.proofs.OneEnd.{runs_have_no_conflicts}
use Rattle.run_laws.proofs.ends.law_of_identifiers.Goals as goal

pub returns : goal.returns
returns c = runs_have_no_conflicts
