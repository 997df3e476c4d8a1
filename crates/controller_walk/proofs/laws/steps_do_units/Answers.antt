use Rattle.controller_walk.proofs.Stands.{step_does_unit}
use Rattle.controller_walk.proofs.laws.steps_do_units.Goals as goal

pub returns : goal.returns
returns c = step_does_unit
