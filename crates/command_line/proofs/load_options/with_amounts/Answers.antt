use Rattle.std.proofs.lemmas.Result.{IfOk-weaker}
use Rattle.command_line.proofs.Asking.{made_all, made_local}
use Rattle.command_line.proofs.load_options.with_amounts.Goals as goal

pub returns-clause-shape : goal.returns-clause-shape
returns-clause-shape c = IfOk-weaker c.with_args.result _ _ (λ new adds. made_all _ _ _ _ adds c.amount_args.ensures.local c.amount_args.ensures.rules) c.with_args.ensures

pub returns-clause-local : goal.returns-clause-local
returns-clause-local c = IfOk-weaker c.with_args.result _ _ (λ new adds. made_local _ _ _ adds c.amount_args.ensures.local) c.with_args.ensures
