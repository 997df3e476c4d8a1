use Rattle.run_laws.proofs.Accepted.{opens_ready, ready_kept}
use Rattle.run_laws.proofs.answers.law_of_ready_states.Goals as goal

pub returns-clause-openings : goal.returns-clause-openings
returns-clause-openings c = opens_ready

pub returns-clause-steps : goal.returns-clause-steps
returns-clause-steps c = ready_kept
