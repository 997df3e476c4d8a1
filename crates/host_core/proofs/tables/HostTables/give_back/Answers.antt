use Rattle.std.proofs.{Common.{◌≡◌, ◌∙◌, [], List, ap, sym}, lemmas.Option.slice_get_within}
use Rattle.page_ledger.specs.declared.owner.Owner.{Owner}
use Rattle.host_core.{proofs.{QueueLists.queue-at, Resets.half-absent}, specs.{Halves.has_half, Parts.tables_of, Rows.Queue, Tables.Tables}}
use Rattle.host_core.proofs.tables.HostTables.give_back.Goals as goal
use Rattle.page_memory.proofs.Lists.{some_is}

pub returns-else-has_half : goal.returns-else-has_half
returns-else-has_half g c = λ pages.
    let t : Tables = tables_of c.args.self.now [] in
    let inside = slice_get_within t.queues c.args.q c.requires.queue c.requires.at in
    let is : c.requires.queue ≡ c.index-queue.result.now = some_is (sym c.requires.at ∙ queue-at t c.args.q c.from.result c.index-queue.result.now inside c.from.ensures c.index-queue.ensures) in
    ap (λ (owners : List Owner). record (tables_of c.args.self.now pages) { owners = owners }) (sym (half-absent t c.args.q c.args.half c.requires
    (ap (λ (x : Queue). has_half c.args.half x.state) is ∙ (sym c.has_half.ensures ∙ c.if-has_half.false))))

pub returns-then-has_half : goal.returns-then-has_half
returns-then-has_half g c = λ pages. ap (λ (owners : List Owner). record (tables_of c.args.self.now pages) { owners = owners }) c.give_back_run.ensures
