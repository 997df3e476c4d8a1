use Rattle.machine_model.proofs.WorkedAnswers.{touches, touches_something}
use Rattle.machine_model.proofs.worked.worked_answers.Goals as goal

pub returns-clause-touches : goal.returns-clause-touches
returns-clause-touches c = touches

pub returns-clause-touches_something : goal.returns-clause-touches_something
returns-clause-touches_something c = touches_something
