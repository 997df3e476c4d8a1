use Rattle.two_sides.proofs.Ending.{long_lists_end}
use Rattle.two_sides.proofs.laws.law_of_longer_lists.Goals as goal

pub returns : goal.returns
returns c = long_lists_end
