use Rattle.std.proofs.Common.{arith}
use Rattle.nvmesgl_c.proofs.{Named.{same_name, same_memory}, Marks.same_mark, Runs.past_none, Seen.sees_named, Tables.same_pair}
use Rattle.nvmesgl_c.specs.Regions.{memory_of}
use Rattle.nvmesgl_c.proofs.controller.regions.look_over.Goals as goal

pub returns-clause-lent : goal.returns-clause-lent
returns-clause-lent c = (same_pair _ _ _ _ (same_name _ _ _ _ c.next_step.ensures.memory)).0

pub returns-clause-same : goal.returns-clause-same
returns-clause-same c = (same_mark _ _ _ _ _ _ (same_pair _ _ _ _ (same_name _ _ _ _ c.next_step.ensures.memory)).1).0

pub returns-clause-table : goal.returns-clause-table
returns-clause-table c = (same_mark _ _ _ _ _ _ (same_pair _ _ _ _ (same_name _ _ _ _ c.next_step.ensures.memory)).1).1

pub returns-clause-hidden : goal.returns-clause-hidden
returns-clause-hidden c = (same_mark _ _ _ _ _ _ (same_pair _ _ _ _ (same_name _ _ _ _ c.next_step.ensures.memory)).1).2

pub returns-clause-kept : goal.returns-clause-kept
returns-clause-kept c =
    same_memory (memory_of c.next_step.new.dma.lent.now.regions.now) (memory_of c.args.memory.now.lent.now.regions.now) _ _ (λ k high. past_none c.next_step.new.dma.lent.now.regions.now k (omega (arith, high)))
    (λ k high. past_none c.args.memory.now.lent.now.regions.now k (omega (arith, high))) c.next_step.ensures.memory

pub returns-clause-sees : goal.returns-clause-sees
returns-clause-sees c = sees_named c.args.controller.now.contents (memory_of c.args.memory.now.lent.now.regions.now) _ c.next_step.result c.next_step.ensures.possible c.next_step.ensures.rest
