use Rattle.std.proofs.Common.{ap, rules}
use Rattle.nvmesgl_c.{proofs.Lending.{called_over, contents}, specs.ControllerCalls.FetchesBy}
use Rattle.nvmesgl_c.proofs.controller.region_calls.nvmectl_fetch_over.Goals as goal

pub returns-clause-calls : goal.returns-clause-calls
returns-clause-calls c =
    called_over (FetchesBy c.args.q) _ _ c.in-Ok.value.value.contents c.deref_mut.result.now.contents c.fetch-code.new.controller.contents c.args.regions.now _ c.fetch-code.result c.fetch-code.new.answer c.in-Ok.ensures.taken
    (ap contents c.deref_mut.ensures.value) (c.put.ensures.own c.fetch-code.ensures.kind) (search rules)
