use Rattle.program.proofs.Telling.{shown}
use Rattle.program.proofs.commands.perform.Goals as goal

pub returns-in-Err-clause-failed : goal.returns-in-Err-clause-failed
returns-in-Err-clause-failed g c = shown _ _ _ c.in-Err.why c.shown.result (λ told. told.fault) c.in-Err.ensures.refused c.shown.ensures.memory
