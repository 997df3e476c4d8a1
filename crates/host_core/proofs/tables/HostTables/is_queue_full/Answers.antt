use Rattle.std.proofs.Common.{[], ◌∙◌}
use Rattle.host_core.{proofs.{QueueLists.queue-at, Submitted.full_is}, specs.{Parts.tables_of, Tables.Tables}}
use Rattle.host_core.proofs.tables.HostTables.is_queue_full.Goals as goal

pub is_full-requires : goal.is_full-requires
is_full-requires g c =
    let t : Tables = tables_of c.args.self.now [] in
    (c.requires.queues.each c.args.q c.index.result.now (queue-at t c.args.q c.from.result c.index.result.now c.requires.there c.from.ensures c.index.ensures)).entries

pub returns : goal.returns
returns g c = λ pages.
    let t : Tables = tables_of c.args.self.now pages in
    c.is_full.ensures ∙ full_is t c.requires.queues c.args.q c.index.result.now (queue-at t c.args.q c.from.result c.index.result.now c.requires.there c.from.ensures c.index.ensures)
