use Rattle.two_sides.proofs.Agreed.{opening_agrees, run_agrees}
use Rattle.two_sides.proofs.agreement.law_of_agreement.Goals as goal

pub returns-clause-openings : goal.returns-clause-openings
returns-clause-openings c = opening_agrees

pub returns-clause-runs : goal.returns-clause-runs
returns-clause-runs c = run_agrees
