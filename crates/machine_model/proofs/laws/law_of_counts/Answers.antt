use Rattle.machine_model.proofs.Headline.{counts_are_all}
use Rattle.machine_model.proofs.laws.law_of_counts.Goals as goal

pub returns : goal.returns
returns c = counts_are_all
