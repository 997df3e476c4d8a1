use Rattle.std.proofs.Common.{◌∙◌, ap, Some}
use Rattle.command_line.proofs.Asking.{no_number_read, number_read}
use Rattle.command_line.proofs.units.plain.Goals as goal

pub returns-in-Ok-clause-value : goal.returns-in-Ok-clause-value
returns-in-Ok-clause-value c = ap Some c.from.ensures ∙ number_read c.args.text.now c.in-Ok.n c.in-Ok.ensures.value.0

pub returns-in-Err-clause-value : goal.returns-in-Err-clause-value
returns-in-Err-clause-value c = no_number_read c.args.text.now c.in-Err.ensures.value.0
