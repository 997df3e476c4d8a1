use Rattle.machine_model.proofs.Headline.{runs_are_sound}
use Rattle.machine_model.proofs.laws.law_of_runs.Goals as goal

pub returns : goal.returns
returns c = runs_are_sound
