use Rattle.run_laws.proofs.Accepted.{all_accepted, reset_accepted, reset_answered, controller_accepted, queues_known}
use Rattle.run_laws.proofs.answers.law_of_acceptance.Goals as goal

pub returns-clause-events : goal.returns-clause-events
returns-clause-events c = all_accepted

pub returns-clause-resets : goal.returns-clause-resets
returns-clause-resets c = reset_accepted

pub returns-clause-answer_of_resets : goal.returns-clause-answer_of_resets
returns-clause-answer_of_resets c = reset_answered

pub returns-clause-forged : goal.returns-clause-forged
returns-clause-forged c = controller_accepted

pub returns-clause-queues : goal.returns-clause-queues
returns-clause-queues c = queues_known
