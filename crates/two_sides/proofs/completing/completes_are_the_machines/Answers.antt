use Rattle.two_sides.proofs.CompleteSteps.{complete_steps}
use Rattle.two_sides.proofs.completing.completes_are_the_machines.Goals as goal

pub returns : goal.returns
returns c = complete_steps
