use Rattle.std.{proofs.Common.{sym, ◌∙◌, ap, false}, specs.Option.option_map_or}
use Rattle.machine_model.specs.Refusals.{is_submitted}
use Rattle.host_core.proofs.RowRecords.{found-row, no-row}
use Rattle.host_core.proofs.tables.HostTables.has_submitted.Goals as goal

pub returns-in-Some : goal.returns-in-Some
returns-in-Some g c =
    c.is_submitted.ensures
    ∙ ap (λ o. option_map_or (λ r. is_submitted r.phase) o false) (sym (found-row c.args.self.now.records.rows c.args.q c.args.cid c.in-Some.entry.now (sym c.in-Some.ensures.value)))

pub returns-in-None : goal.returns-in-None
returns-in-None g c = ap (λ o. option_map_or (λ r. is_submitted r.phase) o false) (sym (no-row c.args.self.now.records.rows c.args.q c.args.cid (sym c.in-None.ensures.value)))
