use Rattle.run_laws.proofs.Images.{compares_tell}
use Rattle.run_laws.proofs.laws.law_of_compares.Goals as goal

pub returns : goal.returns
returns c = compares_tell
