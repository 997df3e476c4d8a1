use Rattle.two_sides.proofs.Along.{trusted_end}
use Rattle.two_sides.proofs.laws.law_of_trust.Goals as goal

pub returns-clause-ends : goal.returns-clause-ends
returns-clause-ends c = trusted_end
