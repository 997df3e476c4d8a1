use Rattle.machine_model.proofs.WorkedThree.{is_built, segments_are_named}
use Rattle.machine_model.proofs.worked.worked_images.Goals as goal

pub returns-clause-built_of_three : goal.returns-clause-built_of_three
returns-clause-built_of_three c = is_built

pub returns-clause-segments_named : goal.returns-clause-segments_named
returns-clause-segments_named c = segments_are_named
