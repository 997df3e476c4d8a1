use Rattle.std.proofs.Common.{sym}
use Rattle.host_core.{proofs.QueueLists.{see-same, see-seen, see-there}, specs.Parts.tables_of}
use Rattle.host_core.proofs.tables.HostTables.see.Goals as goal

pub peek-seen-requires-clause-there : goal.peek-seen-requires-clause-there
peek-seen-requires-clause-there g c =
    see-there (tables_of c.args.self.now c.args.store.now.pages) c.requires.whole c.clear.new.self.pages c.args.q c.from.result c.index.result.now c.requires.there c.from.ensures c.index.ensures c.clear.ensures.memory

pub returns-clause-seen : goal.returns-clause-seen
returns-clause-seen g c =
    sym (see-seen (tables_of c.args.self.now c.args.store.now.pages) c.requires.whole c.clear.new.self.pages c.args.q c.from.result c.index.result.now c.peek-seen.result c.requires.there c.from.ensures c.index.ensures c.clear.ensures.memory
    c.peek-seen.ensures.exact)

pub returns-clause-same : goal.returns-clause-same
returns-clause-same g c =
    see-same c.args.store.now.pages c.peek-seen.new.dma.pages c.clear.new.self.pages c.requires.whole.over.pool c.pages.ensures.whole c.peek-seen.ensures.pool c.clear.ensures.pool c.peek-seen.ensures.memory c.clear.ensures.memory
