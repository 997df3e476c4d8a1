use Rattle.std.proofs.Common.{◌≡◌, ◌∙◌, ap, arith, length}
use Rattle.page_memory.specs.Pages.{byte_at}
use Rattle.host_bench.proofs.Benches.{write_keeps, write_stays}
use Rattle.page_memory.specs.Pages as store
use Rattle.host_bench.proofs.pool.write.Goals as goal

pub prove-unreachable-requires : goal.prove-unreachable-requires
prove-unreachable-requires g c =
    let count = c.write-answer.ensures.pool ∙ ap (λ (x : store.Contents). length x.pages) c.clear.ensures.cleared in
    omega (arith, count, c.pages.ensures.count, c.requires.pool.few, c.if-prove.true)

pub returns-clause-same : goal.returns-clause-same
returns-clause-same g c =
    let count = c.write-answer.ensures.pool ∙ ap (λ (x : store.Contents). length x.pages) c.clear.ensures.cleared in
    write_stays (c.write-answer.new.self.touched ≡ c.clear.new.self.touched) c.args.store.now.pages c.write-answer.new.self.pages (byte_at c.clear.new.self.pages) c.write-answer.result c.requires.pool.whole c.pages.ensures.whole count c.clear.ensures.memory
    c.write-answer.ensures.refused

pub returns-clause-keeps : goal.returns-clause-keeps
returns-clause-keeps g c =
    let count = c.write-answer.ensures.pool ∙ ap (λ (x : store.Contents). length x.pages) c.clear.ensures.cleared in
    write_keeps (c.write-answer.new.self.touched ≡ c.clear.new.self.touched) c.args.store.now.pages c.write-answer.new.self.pages (byte_at c.clear.new.self.pages) c.args.addr c.args.bytes.now c.write-answer.result c.requires.pool.whole c.pages.ensures.whole
    (omega (arith, count, c.requires.pool.few)) count c.clear.ensures.memory c.write-answer.ensures.there c.write-answer.ensures.written c.write-answer.ensures.refused
