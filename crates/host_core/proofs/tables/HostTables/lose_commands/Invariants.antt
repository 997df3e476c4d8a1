use Rattle.std.proofs.Common.{map}
use Rattle.host_core.{proofs.Identifiers.lost_below, specs.Parts.Becomes}
use Rattle.host_core.proofs.tables.HostTables.lose_commands.Given as goal

abbrev pub invariant-loop-cid : goal.invariant-loop-cid
invariant-loop-cid g l = record {
  swept : Becomes l.fn.self (λ t. record t { records = map (lost_below l.cid l.q) t.records }) l.self;
}
