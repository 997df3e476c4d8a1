use Rattle.two_sides.proofs.Ending.{lists_keep}
use Rattle.two_sides.proofs.laws.law_of_lists.Goals as goal

pub returns : goal.returns
returns c = lists_keep
