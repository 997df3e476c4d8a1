use Rattle.two_sides.proofs.Ending.{shorter_lists_end}
use Rattle.two_sides.proofs.laws.law_of_shorter_lists.Goals as goal

pub returns : goal.returns
returns c = shorter_lists_end
