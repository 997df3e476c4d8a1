use Rattle.std.proofs.{Common.{◌∙◌, ap}, lemmas.Result.IfOk-weaker}
use Rattle.command_line.specs.Commands.{with_options, with_telling, with_threading}
use Rattle.command_line.proofs.commands.threads_command.Goals as goal

pub returns-clause-shape : goal.returns-clause-shape
returns-clause-shape c =
    let telling = c.in_ok-command.ensures.shape ∙ ap with_telling c.described-command.ensures.shape in
    IfOk-weaker c.with_options.result _ _ (λ whole is. is ∙ ap with_options (c.in_ok-with_threading.ensures.shape ∙ ap with_threading telling))
    c.with_options.ensures.shape

pub returns-clause-local : goal.returns-clause-local
returns-clause-local c =
    let telling = c.in_ok-command.ensures.local ∙ c.described-command.ensures.local in
    IfOk-weaker c.with_options.result _ _ (λ whole is. is ∙ (c.in_ok-with_threading.ensures.local ∙ telling)) c.with_options.ensures.local
