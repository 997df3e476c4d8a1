use Rattle.two_sides.proofs.Agreed.{agreed_there, run_agrees}
use Rattle.two_sides.proofs.laws.law_of_live_queues.Goals as goal

pub returns : goal.returns
returns c = λ image made s q queue run found live. agreed_there s q queue (run_agrees image made s run) found live
