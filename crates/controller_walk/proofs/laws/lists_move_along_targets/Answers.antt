use Rattle.controller_walk.proofs.Along.{list_moves_along}
use Rattle.controller_walk.proofs.laws.lists_move_along_targets.Goals as goal

pub returns : goal.returns
returns c = list_moves_along
