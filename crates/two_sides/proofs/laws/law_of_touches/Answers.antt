use Rattle.two_sides.proofs.{Agreed.{agreed_stays, run_agrees}, Along.trusted_end}
use Rattle.two_sides.proofs.laws.law_of_touches.Goals as goal

pub returns : goal.returns
returns c = λ image made old new e reply run step. agreed_stays old new e reply (run_agrees image made old run) (trusted_end image made old run) step
