use Rattle.controller_core.proofs.Rows.{found_own}
use Rattle.std.{proofs.Common.{ap, sym, ◌∙◌}, specs.Option.option_copied}
use Rattle.controller_core.proofs.controller.Controller.check_complete.Goals as goal

pub is_waiting-requires-clause-there : goal.is_waiting-requires-clause-there
is_waiting-requires-clause-there g c =
    found_own c.args.q c.args.cid c.self.inside.commands.list c.in-Some.command.now (sym c.get.ensures.found ∙ ap option_copied c.in-Some.is)
