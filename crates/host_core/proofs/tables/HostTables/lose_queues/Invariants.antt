use Rattle.page_ledger.specs.Owners.{given_back}
use Rattle.host_core.{proofs.Resets.{gone_below, is_io_below}, specs.Parts.Becomes}
use Rattle.host_core.proofs.tables.HostTables.lose_queues.Given as goal

abbrev pub invariant-loop-q : goal.invariant-loop-q
invariant-loop-q g l = record {
  gone : Becomes l.fn.self (λ t. record t { owners = given_back (is_io_below l.q) t.owners; queues = gone_below l.q t.queues }) l.self;
}
