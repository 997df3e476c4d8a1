use Rattle.step_core.proofs.Order.{touches_what_it_may}
use Rattle.step_core.proofs.laws.law_of_touches.Goals as goal

pub returns : goal.returns
returns c = touches_what_it_may
