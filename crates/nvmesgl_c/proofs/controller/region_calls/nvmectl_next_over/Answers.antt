use Rattle.std.proofs.Common.{ap, rules}
use Rattle.nvmesgl_c.proofs.Lending.{contents, seen_over}
use Rattle.nvmesgl_c.proofs.controller.region_calls.nvmectl_next_over.Goals as goal

pub returns-clause-tells : goal.returns-clause-tells
returns-clause-tells c =
    seen_over _ _ c.in-Ok.value.value.contents c.deref.result.now.contents c.args.regions.now _ c.look.result c.args.step.now c.step_of.result c.in-Ok.ensures.taken (ap contents c.deref.ensures) c.put.ensures.kept (search rules) c.look.ensures.sees
    c.step_of.ensures
