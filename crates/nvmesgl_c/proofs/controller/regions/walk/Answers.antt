use Rattle.nvmesgl_c.proofs.Marks.{same_mark}
use Rattle.nvmesgl_c.proofs.Told.{walk_ok, walk_err}
use Rattle.nvmesgl_c.proofs.controller.regions.walk.Goals as goal

pub returns-in-Ok-clause-walks : goal.returns-in-Ok-clause-walks
returns-in-Ok-clause-walks c =
    walk_ok _ _ _ _ _ c.in-Ok.state _ _ c.args.memory.now.touched.items c.walk.new.dma.touched.items c.as_slice.result.now c.walked.result c.requires.fresh c.in-Ok.ensures.refusal c.in-Ok.ensures.walks c.walked.ensures
    c.as_slice.ensures.value

pub returns-in-Err-clause-walks : goal.returns-in-Err-clause-walks
returns-in-Err-clause-walks c =
    walk_err _ _ _ _ _ _ c.in-Err.why _ _ c.args.memory.now.touched.items c.walk.new.dma.touched.items c.as_slice-in-Err.result.now c.touching.result c.requires.fresh c.in-Err.ensures.refusal c.in-Err.ensures.refused c.touching.ensures
    c.as_slice-in-Err.ensures.value c.code_of_refusal.ensures

pub returns-in-Ok-clause-same : goal.returns-in-Ok-clause-same
returns-in-Ok-clause-same c = (same_mark _ _ _ _ _ _ c.walk.ensures.unlisted).0

pub returns-in-Ok-clause-table : goal.returns-in-Ok-clause-table
returns-in-Ok-clause-table c = (same_mark _ _ _ _ _ _ c.walk.ensures.unlisted).1

pub returns-in-Err-clause-same : goal.returns-in-Err-clause-same
returns-in-Err-clause-same c = (same_mark _ _ _ _ _ _ c.walk.ensures.unlisted).0

pub returns-in-Err-clause-table : goal.returns-in-Err-clause-table
returns-in-Err-clause-table c = (same_mark _ _ _ _ _ _ c.walk.ensures.unlisted).1

pub returns-in-Ok-clause-hidden : goal.returns-in-Ok-clause-hidden
returns-in-Ok-clause-hidden c = (same_mark _ _ _ _ _ _ c.walk.ensures.unlisted).2

pub returns-in-Err-clause-hidden : goal.returns-in-Err-clause-hidden
returns-in-Err-clause-hidden c = (same_mark _ _ _ _ _ _ c.walk.ensures.unlisted).2
