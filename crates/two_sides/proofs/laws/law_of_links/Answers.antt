use Rattle.two_sides.proofs.Agreed.{agreed_linked, run_agrees}
use Rattle.two_sides.proofs.laws.law_of_links.Goals as goal

pub returns : goal.returns
returns c = λ image made s run. agreed_linked s (run_agrees image made s run)
