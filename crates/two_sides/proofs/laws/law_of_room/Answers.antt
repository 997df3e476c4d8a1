use Rattle.two_sides.proofs.NeverFull.{runs_have_room}
use Rattle.two_sides.proofs.laws.law_of_room.Goals as goal

pub returns : goal.returns
returns c = runs_have_room
