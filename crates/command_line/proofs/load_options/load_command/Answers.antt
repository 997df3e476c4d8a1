use Rattle.std.proofs.{Common.{◌∙◌, ap}, lemmas.Result.IfOk-weaker}
use Rattle.command_line.{proofs.Asking.{added_local, added_shape}, specs.Commands.{with_amounts, with_checks, with_sizes}}
use Rattle.command_line.proofs.load_options.load_command.Goals as goal

pub returns-clause-shape : goal.returns-clause-shape
returns-clause-shape c =
    let amounts = c.in_ok-with_amounts.ensures.shape ∙ ap with_amounts c.described-command.ensures.shape in
    let checks = c.in_ok-command.ensures.shape ∙ ap with_checks amounts in
    let sizes = c.in_ok-with_sizes.ensures.shape ∙ ap with_sizes checks in
    IfOk-weaker c.arg.result _ _ (λ new adds. added_shape _ _ _ _ _ adds c.image_arg.ensures.local sizes c.image_arg.ensures.rule) c.arg.ensures

pub returns-clause-local : goal.returns-clause-local
returns-clause-local c =
    let checks = c.in_ok-command.ensures.local ∙ (c.in_ok-with_amounts.ensures.local ∙ c.described-command.ensures.local) in
    let sizes = c.in_ok-with_sizes.ensures.local ∙ checks in
    IfOk-weaker c.arg.result _ _ (λ new adds. added_local _ _ _ _ adds c.image_arg.ensures.local sizes) c.arg.ensures
