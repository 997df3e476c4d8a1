use Rattle.two_sides.proofs.Agreed.{reset_recovers, openings_recover}
use Rattle.two_sides.proofs.laws.law_of_resets.Goals as goal

pub returns-clause-agreement : goal.returns-clause-agreement
returns-clause-agreement c = reset_recovers

pub returns-clause-openings : goal.returns-clause-openings
returns-clause-openings c = openings_recover
