use Rattle.std.proofs.Common.{inl}
use Rattle.program.proofs.Telling.{kept, shell_failed}
use Rattle.command_line.specs.Asked.{given_of}
use Rattle.program.proofs.commands.answer_file.Goals as goal

pub returns-in-Err : goal.returns-in-Err
returns-in-Err g c = record { failed = inl (c.requires.file, c.in-Err.ensures.failed, kept _) }

pub returns : goal.returns
returns g c = record { failed = shell_failed _ (given_of c.args.options) c.args.traces _ _ c.in-Err-end.fault c.told_of_run.result.fault c.told_of_run.ensures }
