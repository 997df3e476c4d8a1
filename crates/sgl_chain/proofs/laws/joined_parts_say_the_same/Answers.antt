use Rattle.sgl_chain.proofs.Joins.{same_targets}
use Rattle.sgl_chain.proofs.laws.joined_parts_say_the_same.Goals as goal

pub returns-clause-targets : goal.returns-clause-targets
returns-clause-targets c = same_targets
