use Rattle.std.proofs.Common.{ap, rules}
use Rattle.nvmesgl_c.{proofs.Lending.{called_over, contents}, specs.ControllerCalls.CompletesBy}
use Rattle.nvmesgl_c.proofs.controller.region_calls.nvmectl_complete_over.Goals as goal

pub returns-clause-calls : goal.returns-clause-calls
returns-clause-calls c =
    called_over (CompletesBy c.args.q c.args.cid) _ _ c.in-Ok.value.value.contents c.deref_mut.result.now.contents c.complete-code.new.controller.contents c.args.regions.now _ c.complete-code.result c.complete-code.new.answer c.in-Ok.ensures.taken
    (ap contents c.deref_mut.ensures.value) (c.put.ensures.own c.complete-code.ensures.kind) (search rules)
