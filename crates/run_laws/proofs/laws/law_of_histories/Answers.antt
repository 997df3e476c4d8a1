use Rattle.run_laws.proofs.Images.{histories_open, histories_grow}
use Rattle.two_sides.proofs.Along.{run_is_made}
use Rattle.run_laws.proofs.laws.law_of_histories.Goals as goal

pub returns-clause-openings : goal.returns-clause-openings
returns-clause-openings c = histories_open

pub returns-clause-steps : goal.returns-clause-steps
returns-clause-steps c = histories_grow

pub returns-clause-runs : goal.returns-clause-runs
returns-clause-runs c = run_is_made
