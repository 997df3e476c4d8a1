use Rattle.std.proofs.lemmas.Result.{IfOk-weaker}
use Rattle.command_line.proofs.Asking.{added_local, added_shape}
use Rattle.command_line.proofs.commands.with_options.Goals as goal

pub returns-clause-shape : goal.returns-clause-shape
returns-clause-shape c =
    let image = added_shape _ _ _ _ _ c.in_ok-arg.ensures c.image_arg.ensures.local c.in_ok-with_sizes.ensures.shape c.image_arg.ensures.rule in
    IfOk-weaker c.arg-2.result _ _ (λ new adds. added_shape _ _ _ _ _ adds c.script_arg.ensures.local image c.script_arg.ensures.rule) c.arg-2.ensures

pub returns-clause-local : goal.returns-clause-local
returns-clause-local c =
    let image = added_local _ _ _ _ c.in_ok-arg.ensures c.image_arg.ensures.local c.in_ok-with_sizes.ensures.local in
    IfOk-weaker c.arg-2.result _ _ (λ new adds. added_local _ _ _ _ adds c.script_arg.ensures.local image) c.arg-2.ensures
