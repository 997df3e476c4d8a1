use Rattle.std.proofs.Common.{ap, rules}
use Rattle.nvmesgl_c.{proofs.Lending.{called_over, contents}, specs.ControllerCalls.WalksBy}
use Rattle.nvmesgl_c.proofs.controller.region_calls.nvmectl_walk_over.Goals as goal

pub returns-clause-calls : goal.returns-clause-calls
returns-clause-calls c =
    called_over (WalksBy c.args.q c.args.cid) _ _ c.in-Ok.value.value.contents c.deref_mut.result.now.contents c.walk-code.new.controller.contents c.args.regions.now _ c.walk-code.result c.walk-code.new.answer c.in-Ok.ensures.taken
    (ap contents c.deref_mut.ensures.value) c.put.ensures.kept (search rules)
