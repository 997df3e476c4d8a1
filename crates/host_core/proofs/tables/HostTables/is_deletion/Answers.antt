use Rattle.std.{proofs.Common.{false, ap, sym, ◌∙◌}, specs.Option.option_map_or}
use Rattle.machine_model.specs.Refusals.{deletes_cq_of}
use Rattle.host_core.proofs.RowRecords.{found-row, no-row}
use Rattle.host_core.proofs.tables.HostTables.is_deletion.Goals as goal

pub returns-in-Some : goal.returns-in-Some
returns-in-Some g c =
    c.deletes_completion.ensures
    ∙ ap (λ o. option_map_or (λ r. deletes_cq_of c.args.q r.work) o false) (sym (found-row c.args.self.now.records.rows 0 c.args.cid c.in-Some.entry.now (sym c.in-Some.ensures.value)))

pub returns-in-None : goal.returns-in-None
returns-in-None g c = ap (λ o. option_map_or (λ r. deletes_cq_of c.args.q r.work) o false) (sym (no-row c.args.self.now.records.rows 0 c.args.cid (sym c.in-None.ensures.value)))
