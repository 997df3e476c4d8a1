use Rattle.std.proofs.Common.{ap, rules}
use Rattle.nvmesgl_c.{proofs.{LentTold.takes_some, Lending.{called_over, contents}}, specs.ControllerLent.CompletesBlocks}
use Rattle.nvmesgl_c.proofs.controller.lent_calls.nvmectl_complete_lent.Goals as goal

pub returns-clause-calls : goal.returns-clause-calls
returns-clause-calls c =
    called_over (CompletesBlocks c.args.q c.args.cid c.args.slba c.args.blocks.now _ c.args.wanted.now c.complete-code.new.wanted) _ _ c.in-Ok.value.value.contents c.deref_mut.result.now.contents c.complete-code.new.controller.contents c.args.regions.now _ c.complete-code.result
    c.complete-code.new.answer c.in-Ok.ensures.taken (ap contents c.deref_mut.ensures.value) (c.put.ensures.lent c.complete-code.ensures.kind) (search rules)

pub returns-clause-unlent : goal.returns-clause-unlent
returns-clause-unlent c = takes_some _ _ _ _ _ _ c.in-Ok.ensures.taken
