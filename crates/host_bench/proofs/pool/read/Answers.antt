use Rattle.std.proofs.Common.{◌∙◌, ap, arith, length}
use Rattle.host_core.proofs.Lists.{same_pages}
use Rattle.page_memory.specs.Pages as store
use Rattle.host_bench.proofs.pool.read.Goals as goal

pub prove-unreachable-requires : goal.prove-unreachable-requires
prove-unreachable-requires g c =
    let count = c.read-answer.ensures.pool ∙ ap (λ (x : store.Contents). length x.pages) c.clear.ensures.cleared in
    omega (arith, count, c.pages.ensures.count, c.requires.pool.few, c.if-prove.true)

pub returns-clause-same : goal.returns-clause-same
returns-clause-same g c =
    let count = c.read-answer.ensures.pool ∙ ap (λ (x : store.Contents). length x.pages) c.clear.ensures.cleared in
    same_pages c.args.store.now.pages c.read-answer.new.self.pages c.requires.pool.whole c.pages.ensures.whole count (c.read-answer.ensures.memory ∙ c.clear.ensures.memory)
