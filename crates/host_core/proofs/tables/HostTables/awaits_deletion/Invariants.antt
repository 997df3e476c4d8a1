use Rattle.std.{proofs.Common.{◌≡◌, ℕ, ◌<◌, false, find}, specs.Option.option_map_or}
use Rattle.machine_model.specs.{Refusals.deletes_cq_of, State.is_at}
use Rattle.host_core.specs.Parts.{records_of}
use Rattle.host_core.proofs.tables.HostTables.awaits_deletion.Given as goal

abbrev pub invariant-loop-cid : goal.invariant-loop-cid
invariant-loop-cid g l = record {
  none : (i : ℕ) → i < l.cid → option_map_or (λ r. deletes_cq_of l.q r.work) (find (is_at 0 i) (records_of l.self.records.rows)) false ≡ false;
}
