use Rattle.host_core.{proofs.QueueLists.queue-written, specs.{Parts.tables_of, Reaping.with_completion_heard}}
use Rattle.host_core.proofs.tables.HostTables.accept.Goals as goal

pub returns : goal.returns
returns g c = λ pages.
    queue-written (tables_of c.args.self.now pages) (with_completion_heard c.args.entry.sqhd) c.args.q c.from.result c.index_mut.result.now c.accept_completion.new.queue
    c.requires.there c.from.ensures c.index_mut.ensures.value c.accept_completion.ensures
