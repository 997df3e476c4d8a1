use Rattle.host_core.{proofs.ResetRecords.with_lost_below, specs.Parts.Becomes}
use Rattle.host_core.proofs.tables.HostTables.reset_commands.Given as goal

abbrev pub invariant-loop-q : goal.invariant-loop-q
invariant-loop-q g l = record {
  lost : Becomes l.fn.self (with_lost_below l.q) l.self;
}
