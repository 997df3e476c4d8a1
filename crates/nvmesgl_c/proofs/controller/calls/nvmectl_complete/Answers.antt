use Rattle.std.proofs.Common.{ap, rules}
use Rattle.nvmesgl_c.{proofs.Lending.{contents, lent_called}, specs.ControllerCalls.CompletesBy}
use Rattle.nvmesgl_c.proofs.controller.calls.nvmectl_complete.Goals as goal

pub returns : goal.returns
returns c =
    lent_called (CompletesBy c.args.q c.args.cid) _ _ c.in-Ok.value.value.contents c.deref_mut.result.now.contents c.complete-code.new.controller.contents c.args.pool.now _ c.complete-code.result c.complete-code.new.answer c.in-Ok.ensures.taken
    (ap contents c.deref_mut.ensures.value) (c.put.ensures.own c.complete-code.ensures.kind) c.in-Ok.ensures.fits (search rules)
