use Rattle.run_laws.proofs.Images.{images_are_runs}
use Rattle.run_laws.proofs.laws.law_of_images.Goals as goal

pub returns : goal.returns
returns c = images_are_runs
