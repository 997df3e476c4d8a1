use Rattle.controller_walk.proofs.Same.{list_same}
use Rattle.controller_walk.proofs.laws.lists_hang_on_descriptors.Goals as goal

pub returns : goal.returns
returns c = list_same
