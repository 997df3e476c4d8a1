use Rattle.std.proofs.Common.{inl}
use Rattle.program.proofs.Telling.{draw_failed, kept}
use Rattle.command_line.specs.Asked.{given_of}
use Rattle.program.proofs.commands.draw_script.Goals as goal

pub returns-in-Err : goal.returns-in-Err
returns-in-Err g c = record { failed = inl (c.in-Err.ensures.failed, kept _) }

pub returns : goal.returns
returns g c = record { failed = draw_failed _ (given_of c.args.options) _ _ c.in-Err-draw_steps.fault c.told_of_run.result.fault c.told_of_run.ensures }
