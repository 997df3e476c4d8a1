use Rattle.two_sides.proofs.Agreed.{opens_in_order}
use Rattle.two_sides.proofs.laws.law_of_order.Goals as goal

pub returns-clause-openings : goal.returns-clause-openings
returns-clause-openings c = opens_in_order
