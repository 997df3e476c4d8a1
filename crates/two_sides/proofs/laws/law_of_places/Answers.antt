use Rattle.two_sides.proofs.Agreed.{agreed_once, run_agrees}
use Rattle.two_sides.proofs.laws.law_of_places.Goals as goal

pub returns : goal.returns
returns c = λ image made end cid run. agreed_once end cid (run_agrees image made end run)
