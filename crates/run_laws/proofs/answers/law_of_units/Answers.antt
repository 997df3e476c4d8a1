use Rattle.run_laws.proofs.Walked.{units_counted}
use Rattle.run_laws.proofs.answers.law_of_units.Goals as goal

pub returns : goal.returns
returns c = units_counted
