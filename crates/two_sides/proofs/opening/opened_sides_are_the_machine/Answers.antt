use Rattle.two_sides.proofs.Resets.{opened_are_worlds}
use Rattle.two_sides.proofs.opening.opened_sides_are_the_machine.Goals as goal

pub returns : goal.returns
returns c = opened_are_worlds
