use Rattle.two_sides.proofs.Resets.{reset_stepped}
use Rattle.two_sides.proofs.resetting.resets_are_the_machines.Goals as goal

pub returns : goal.returns
returns c = reset_stepped
