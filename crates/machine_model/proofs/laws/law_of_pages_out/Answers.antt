use Rattle.machine_model.proofs.Headline.{runs_take_out}
use Rattle.machine_model.proofs.laws.law_of_pages_out.Goals as goal

pub returns : goal.returns
returns c = runs_take_out
