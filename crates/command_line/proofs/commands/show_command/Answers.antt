use Rattle.std.proofs.lemmas.Result.{IfOk-weaker}
use Rattle.command_line.proofs.Asking.{added_local, added_shape}
use Rattle.command_line.proofs.commands.show_command.Goals as goal

pub returns-clause-shape : goal.returns-clause-shape
returns-clause-shape c =
    let json = added_shape _ _ _ _ _ c.in_ok-arg.ensures c.flag_arg.ensures.local c.described.ensures.shape c.flag_arg.ensures.rule in
    IfOk-weaker c.arg-2.result _ _ (λ new adds. added_shape _ _ _ _ _ adds c.words_arg.ensures.local json c.words_arg.ensures.rule) c.arg-2.ensures

pub returns-clause-local : goal.returns-clause-local
returns-clause-local c =
    let json = added_local _ _ _ _ c.in_ok-arg.ensures c.flag_arg.ensures.local c.described.ensures.local in
    IfOk-weaker c.arg-2.result _ _ (λ new adds. added_local _ _ _ _ adds c.words_arg.ensures.local json) c.arg-2.ensures
