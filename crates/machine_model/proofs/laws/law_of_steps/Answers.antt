use Rattle.machine_model.proofs.Headline.{steps_keep}
use Rattle.machine_model.proofs.laws.law_of_steps.Goals as goal

pub returns : goal.returns
returns c = steps_keep
