use Rattle.controller_walk.proofs.Along.{list_moves_all}
use Rattle.controller_walk.proofs.laws.lists_move_all_bytes.Goals as goal

pub returns : goal.returns
returns c = list_moves_all
