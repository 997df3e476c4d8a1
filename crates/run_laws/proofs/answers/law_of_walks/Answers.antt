use Rattle.run_laws.proofs.Walked.{walks_tell, last_ends}
use Rattle.run_laws.proofs.answers.law_of_walks.Goals as goal

pub returns-clause-verdicts : goal.returns-clause-verdicts
returns-clause-verdicts c = walks_tell

pub returns-clause-ends : goal.returns-clause-ends
returns-clause-ends c = last_ends
