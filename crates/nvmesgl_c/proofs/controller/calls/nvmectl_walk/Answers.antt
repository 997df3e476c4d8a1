use Rattle.std.proofs.Common.{ap, rules}
use Rattle.nvmesgl_c.{proofs.Lending.{contents, lent_called}, specs.ControllerCalls.WalksBy}
use Rattle.nvmesgl_c.proofs.controller.calls.nvmectl_walk.Goals as goal

pub returns-clause-calls : goal.returns-clause-calls
returns-clause-calls c =
    lent_called (WalksBy c.args.q c.args.cid) _ _ c.in-Ok.value.value.contents c.deref_mut.result.now.contents c.walk-code.new.controller.contents c.args.pool.now _ c.walk-code.result c.walk-code.new.answer c.in-Ok.ensures.taken
    (ap contents c.deref_mut.ensures.value) c.put.ensures.kept c.in-Ok.ensures.fits (search rules)
