use Rattle.controller_walk.proofs.Same.{list_served}
use Rattle.controller_walk.proofs.laws.lists_hang_on_what_they_reach.Goals as goal

pub returns : goal.returns
returns c = list_served
