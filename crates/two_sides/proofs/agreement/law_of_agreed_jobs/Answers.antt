use Rattle.two_sides.proofs.Agreed.{agreed_lists}
use Rattle.two_sides.proofs.agreement.law_of_agreed_jobs.Goals as goal

pub returns-clause-keep : goal.returns-clause-keep
returns-clause-keep c = agreed_lists
