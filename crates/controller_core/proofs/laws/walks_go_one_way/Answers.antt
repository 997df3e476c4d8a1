use Rattle.controller_core.proofs.Lists.{one_walk}
use Rattle.controller_core.proofs.laws.walks_go_one_way.Goals as goal

pub returns : goal.returns
returns c = one_walk
