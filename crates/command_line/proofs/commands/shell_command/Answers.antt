use Rattle.std.proofs.{Common.{◌∙◌, ap}, lemmas.Result.IfOk-weaker}
use Rattle.command_line.{proofs.Asking.{added_local, added_shape}, specs.Commands.with_options}
use Rattle.command_line.proofs.commands.shell_command.Goals as goal

pub returns-clause-shape : goal.returns-clause-shape
returns-clause-shape c =
    let trace = added_shape _ _ _ _ _ c.in_ok-command.ensures c.flag_arg.ensures.local c.described.ensures.shape c.flag_arg.ensures.rule in
    IfOk-weaker c.with_options.result _ _ (λ whole is. is ∙ ap with_options trace) c.with_options.ensures.shape

pub returns-clause-local : goal.returns-clause-local
returns-clause-local c =
    let trace = added_local _ _ _ _ c.in_ok-command.ensures c.flag_arg.ensures.local c.described.ensures.local in
    IfOk-weaker c.with_options.result _ _ (λ whole is. is ∙ trace) c.with_options.ensures.local
