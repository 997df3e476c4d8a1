use Rattle.controller_walk.proofs.Stands.{stands_at_first}
use Rattle.controller_walk.proofs.laws.walks_begin_at_the_first_unit.Goals as goal

pub returns : goal.returns
returns c = stands_at_first
