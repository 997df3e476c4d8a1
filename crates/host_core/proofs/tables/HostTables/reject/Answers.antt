use Rattle.host_core.{proofs.QueueLists.queue-written, specs.{Parts.tables_of, Reaping.with_completion_taken}}
use Rattle.host_core.proofs.tables.HostTables.reject.Goals as goal

pub returns : goal.returns
returns g c = λ pages.
    queue-written (tables_of c.args.self.now pages) with_completion_taken c.args.q c.from.result c.index_mut.result.now c.take_completion.new.queue
    c.requires c.from.ensures c.index_mut.ensures.value c.take_completion.ensures
