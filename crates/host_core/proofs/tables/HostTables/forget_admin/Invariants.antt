use Rattle.host_core.{proofs.ResetRecords.own_over_below, specs.Parts.Becomes}
use Rattle.host_core.proofs.tables.HostTables.forget_admin.Given as goal

abbrev pub invariant-loop-cid : goal.invariant-loop-cid
invariant-loop-cid g l = record {
  over : Becomes l.fn.self (own_over_below l.cid) l.self;
}
