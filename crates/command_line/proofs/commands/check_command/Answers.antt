use Rattle.std.proofs.lemmas.Result.{IfOk-weaker}
use Rattle.command_line.proofs.Asking.{added_local, added_shape}
use Rattle.command_line.proofs.commands.check_command.Goals as goal

pub returns-clause-shape : goal.returns-clause-shape
returns-clause-shape c =
    let jobs = added_shape _ _ _ _ _ c.in_ok-arg.ensures c.flag_arg.ensures.local c.described.ensures.shape c.flag_arg.ensures.rule in
    let submitters = added_shape _ _ _ _ _ c.in_ok-arg-2.ensures c.arg-2.ensures.local jobs c.arg-2.ensures.rule in
    IfOk-weaker c.arg-4.result _ _ (λ new adds. added_shape _ _ _ _ _ adds c.script_arg.ensures.local submitters c.script_arg.ensures.rule) c.arg-4.ensures

pub returns-clause-local : goal.returns-clause-local
returns-clause-local c =
    let jobs = added_local _ _ _ _ c.in_ok-arg.ensures c.flag_arg.ensures.local c.described.ensures.local in
    let submitters = added_local _ _ _ _ c.in_ok-arg-2.ensures c.arg-2.ensures.local jobs in
    IfOk-weaker c.arg-4.result _ _ (λ new adds. added_local _ _ _ _ adds c.script_arg.ensures.local submitters) c.arg-4.ensures
