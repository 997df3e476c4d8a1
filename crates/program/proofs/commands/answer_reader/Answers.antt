use Rattle.program.proofs.Telling.{shell_failed, shell_unbegun}
use Rattle.command_line.specs.Asked.{given_of}
use Rattle.program.proofs.commands.answer_reader.Goals as goal

pub returns-in_err-image : goal.returns-in_err-image
returns-in_err-image g c = record { failed = shell_unbegun c.from_residual.result (λ told. told.fault) _ (given_of c.args.options) c.args.traces _ c.in_err-image.field-0.0.fault c.from_residual.ensures.1 c.requires.reader c.in_err-image.ensures.no_image }

pub returns-in-Err : goal.returns-in-Err
returns-in-Err g c = record { failed = shell_failed _ (given_of c.args.options) c.args.traces _ _ c.in-Err.fault c.told_of_run.result.fault c.told_of_run.ensures }
