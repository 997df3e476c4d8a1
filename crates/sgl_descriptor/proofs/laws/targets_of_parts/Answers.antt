use Rattle.sgl_descriptor.proofs.Counts.{length-targets, join}
use Rattle.sgl_descriptor.proofs.laws.targets_of_parts.Goals as goal

pub returns-clause-counted : goal.returns-clause-counted
returns-clause-counted c = length-targets

pub returns-clause-joined : goal.returns-clause-joined
returns-clause-joined c = join
