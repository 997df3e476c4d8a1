use Rattle.nvmesgl_c.proofs.Told.{walk_ok, walk_err}
use Rattle.nvmesgl_c.proofs.controller.over.walk.Goals as goal

pub returns-in-Ok-clause-walks : goal.returns-in-Ok-clause-walks
returns-in-Ok-clause-walks c =
    walk_ok _ _ _ _ _ c.in-Ok.state _ _ c.args.memory.now.touched.items c.walk.new.dma.touched.items c.as_slice.result.now c.walked.result c.requires.fresh c.in-Ok.ensures.refusal c.in-Ok.ensures.walks c.walked.ensures
    c.as_slice.ensures.value

pub returns-in-Err-clause-walks : goal.returns-in-Err-clause-walks
returns-in-Err-clause-walks c =
    walk_err _ _ _ _ _ _ c.in-Err.why _ _ c.args.memory.now.touched.items c.walk.new.dma.touched.items c.as_slice-in-Err.result.now c.touching.result c.requires.fresh c.in-Err.ensures.refusal c.in-Err.ensures.refused c.touching.ensures
    c.as_slice-in-Err.ensures.value c.code_of_refusal.ensures
