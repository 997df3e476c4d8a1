use Rattle.std.proofs.{Common.{◌∙◌, ap}, lemmas.Result.IfOk-weaker}
use Rattle.command_line.specs.Commands.{with_options}
use Rattle.command_line.proofs.commands.draw_command.Goals as goal

pub returns-clause-shape : goal.returns-clause-shape
returns-clause-shape c =
    IfOk-weaker c.with_options.result _ _ (λ whole is. is ∙ ap with_options c.described-command.ensures.shape) c.with_options.ensures.shape

pub returns-clause-local : goal.returns-clause-local
returns-clause-local c = IfOk-weaker c.with_options.result _ _ (λ whole is. is ∙ c.described-command.ensures.local) c.with_options.ensures.local
