use Rattle.nvmesgl_c.proofs.{LentTold.complete_lent_err, Marks.same_mark}
use Rattle.nvmesgl_c.proofs.controller.lent_over.complete_over.Goals as goal

pub returns-in-Err-clause-completes : goal.returns-in-Err-clause-completes
returns-in-Err-clause-completes c =
    complete_lent_err _ _ _ c.complete_over-completed.new.lent.first c.args.lent.now.blocks c.complete_over-completed.new.lent.blocks _ _ c.opcode_of-opcode.result _ _ _ _ _ _ c.in-Err.why _ _ c.args.memory.now.touched.items
    c.complete_over-completed.new.dma.touched.items c.as_slice.result.now c.touching.result c.args.lent.now.part c.in-Err.ensures.blocks c.in-Err.ensures.first c.in-Err.ensures.length c.requires.fresh c.in-Err.ensures.refusal
    c.in-Err.ensures.refused c.touching.ensures c.as_slice.ensures.value c.refuse.ensures.code c.opcode_of-opcode.ensures c.refuse.ensures.wanted

pub returns-in-Ok-clause-same : goal.returns-in-Ok-clause-same
returns-in-Ok-clause-same c = (same_mark _ _ _ _ _ _ c.complete_over-completed.ensures.unlisted).0

pub returns-in-Ok-clause-table : goal.returns-in-Ok-clause-table
returns-in-Ok-clause-table c = (same_mark _ _ _ _ _ _ c.complete_over-completed.ensures.unlisted).1

pub returns-in-Ok-clause-hidden : goal.returns-in-Ok-clause-hidden
returns-in-Ok-clause-hidden c = (same_mark _ _ _ _ _ _ c.complete_over-completed.ensures.unlisted).2

pub returns-in-Err-clause-same : goal.returns-in-Err-clause-same
returns-in-Err-clause-same c = (same_mark _ _ _ _ _ _ c.complete_over-completed.ensures.unlisted).0

pub returns-in-Err-clause-table : goal.returns-in-Err-clause-table
returns-in-Err-clause-table c = (same_mark _ _ _ _ _ _ c.complete_over-completed.ensures.unlisted).1

pub returns-in-Err-clause-hidden : goal.returns-in-Err-clause-hidden
returns-in-Err-clause-hidden c = (same_mark _ _ _ _ _ _ c.complete_over-completed.ensures.unlisted).2
