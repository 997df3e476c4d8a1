use Rattle.std.proofs.Common.{ap, rules}
use Rattle.nvmesgl_c.{proofs.Lending.{contents, lent_called}, specs.ControllerCalls.FetchesBy}
use Rattle.nvmesgl_c.proofs.controller.calls.nvmectl_fetch.Goals as goal

pub returns : goal.returns
returns c =
    lent_called (FetchesBy c.args.q) _ _ c.in-Ok.value.value.contents c.deref_mut.result.now.contents c.fetch-code.new.controller.contents c.args.pool.now _ c.fetch-code.result c.fetch-code.new.answer c.in-Ok.ensures.taken
    (ap contents c.deref_mut.ensures.value) (c.put.ensures.own c.fetch-code.ensures.kind) c.in-Ok.ensures.fits (search rules)
