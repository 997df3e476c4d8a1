use Rattle.std.proofs.Common.{ap, rules}
use Rattle.nvmesgl_c.proofs.Lending.{contents, left_alike, looked_over}
use Rattle.nvmesgl_c.proofs.controller.next.nvmectl_next.Goals as goal

pub returns-clause-tells : goal.returns-clause-tells
returns-clause-tells c =
    looked_over _ _ c.in-Ok.value.value.contents c.deref.result.now.contents c.args.pool.now _ c.look.result c.args.step.now c.step_of.result c.in-Ok.ensures.taken (ap contents c.deref.ensures) c.put.ensures.kept c.in-Ok.ensures.fits
    (left_alike _ c.look.new.memory.bytes.now _ (search rules) c.look.ensures.kept) c.look.ensures.sees c.step_of.ensures
