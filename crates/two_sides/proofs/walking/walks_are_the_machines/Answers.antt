use Rattle.two_sides.proofs.WalkSteps.{walk_steps}
use Rattle.two_sides.proofs.walking.walks_are_the_machines.Goals as goal

pub returns : goal.returns
returns c = walk_steps
