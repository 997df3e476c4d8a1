use Rattle.std.proofs.{Common.{◌∙◌, ap}, lemmas.Result.IfOk-weaker}
use Rattle.command_line.{proofs.Asking.{added_local, added_shape}, specs.Commands.with_sizes}
use Rattle.command_line.proofs.commands.test_command.Goals as goal

pub returns-clause-shape : goal.returns-clause-shape
returns-clause-shape c =
    let update = added_shape _ _ _ _ _ c.in_ok-arg.ensures c.flag_arg.ensures.local c.described.ensures.shape c.flag_arg.ensures.rule in
    let files = added_shape _ _ _ _ _ c.in_ok-command.ensures c.words_arg.ensures.local update c.words_arg.ensures.rule in
    IfOk-weaker c.with_sizes.result _ _ (λ whole is. is ∙ ap with_sizes files) c.with_sizes.ensures.shape

pub returns-clause-local : goal.returns-clause-local
returns-clause-local c =
    let update = added_local _ _ _ _ c.in_ok-arg.ensures c.flag_arg.ensures.local c.described.ensures.local in
    let files = added_local _ _ _ _ c.in_ok-command.ensures c.words_arg.ensures.local update in
    IfOk-weaker c.with_sizes.result _ _ (λ whole is. is ∙ files) c.with_sizes.ensures.local
