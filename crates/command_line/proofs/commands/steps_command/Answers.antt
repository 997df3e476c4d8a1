use Rattle.std.proofs.{Common.{◌∙◌, ap}, lemmas.Result.IfOk-weaker}
use Rattle.command_line.{proofs.Asking.{added_local, added_shape}, specs.Commands.{with_options, with_telling}}
use Rattle.command_line.proofs.commands.steps_command.Goals as goal

pub returns-clause-shape : goal.returns-clause-shape
returns-clause-shape c =
    let save = added_shape _ _ _ _ _ c.in_ok-arg.ensures c.option_arg.ensures.local c.described.ensures.shape c.option_arg.ensures.rule in
    let trace = added_shape _ _ _ _ _ c.in_ok-command.ensures c.flag_arg.ensures.local save c.flag_arg.ensures.rule in
    IfOk-weaker c.with_options.result _ _ (λ whole is. is ∙ ap with_options (c.in_ok-with_telling.ensures.shape ∙ ap with_telling trace))
    c.with_options.ensures.shape

pub returns-clause-local : goal.returns-clause-local
returns-clause-local c =
    let save = added_local _ _ _ _ c.in_ok-arg.ensures c.option_arg.ensures.local c.described.ensures.local in
    let trace = added_local _ _ _ _ c.in_ok-command.ensures c.flag_arg.ensures.local save in
    IfOk-weaker c.with_options.result _ _ (λ whole is. is ∙ (c.in_ok-with_telling.ensures.local ∙ trace)) c.with_options.ensures.local
