use Rattle.run_laws.proofs.Verdicts.{deletion_is_said}
use Rattle.run_laws.proofs.worked.worked_verdicts.Goals as goal

pub returns-clause-after_deletion : goal.returns-clause-after_deletion
returns-clause-after_deletion c = deletion_is_said
