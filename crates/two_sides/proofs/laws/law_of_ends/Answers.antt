use Rattle.two_sides.proofs.Ending.{lists_end}
use Rattle.two_sides.proofs.laws.law_of_ends.Goals as goal

pub returns : goal.returns
returns c = lists_end
