use Rattle.controller_walk.proofs.Courses.{few_in_list}
use Rattle.controller_walk.proofs.laws.lists_read_few_descriptors.Goals as goal

pub returns : goal.returns
returns c = few_in_list
