use Rattle.std.proofs.Common.{◌≡◌, ℕ, ◌<◌, false, find, is_some}
use Rattle.machine_model.specs.State.{is_at}
use Rattle.host_core.specs.Parts.{records_of}
use Rattle.host_core.proofs.tables.HostTables.has_commands.Given as goal

abbrev pub invariant-loop-cid : goal.invariant-loop-cid
invariant-loop-cid g l = record {
  none : (i : ℕ) → i < l.cid → is_some (find (is_at l.q i) (records_of l.self.records.rows)) ≡ false;
}
