use Rattle.std.proofs.Common.{arith, slice_get}
use Rattle.std.proofs.lemmas.Option.{slice_get_past}
use Rattle.nvmesgl_c.proofs.{Named.{same_name, same_memory}, Seen.sees_named, Tables.same_pair}
use Rattle.nvmesgl_c.proofs.controller.next.look_over.Goals as goal

pub returns-clause-lent : goal.returns-clause-lent
returns-clause-lent c = (same_pair _ _ _ _ (same_name _ _ _ _ c.next_step.ensures.memory)).0

pub returns-clause-same : goal.returns-clause-same
returns-clause-same c = (same_pair _ _ _ _ (same_name _ _ _ _ c.next_step.ensures.memory)).1

pub returns-clause-kept : goal.returns-clause-kept
returns-clause-kept c =
    same_memory (slice_get c.next_step.new.dma.lent.now.bytes.now) (slice_get c.args.memory.now.lent.now.bytes.now) _ _ (λ k high. slice_get_past c.next_step.new.dma.lent.now.bytes.now k (omega (arith, high, c.next_step.new.dma.lent.now.few)))
    (λ k high. slice_get_past c.args.memory.now.lent.now.bytes.now k (omega (arith, high, c.args.memory.now.lent.now.few))) c.next_step.ensures.memory

pub returns-clause-sees : goal.returns-clause-sees
returns-clause-sees c = sees_named c.args.controller.now.contents (slice_get c.args.memory.now.lent.now.bytes.now) _ c.next_step.result c.next_step.ensures.possible c.next_step.ensures.rest
