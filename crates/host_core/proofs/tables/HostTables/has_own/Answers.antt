use Rattle.std.{proofs.Common.{false, not, ap, sym, ◌∙◌, is_some}, specs.Option.option_map_or}
use Rattle.machine_model.specs.After.{is_of_io}
use Rattle.host_core.proofs.{ResetRecords.own-is, RowRecords.{found-row, no-row}}
use Rattle.host_core.proofs.tables.HostTables.has_own.Goals as goal

pub returns-in-Some : goal.returns-in-Some
returns-in-Some g c =
    c.is_some.ensures ∙ (ap is_some c.kind.ensures ∙ (own-is c.in-Some.entry.now.work
    ∙ ap (λ o. option_map_or (λ r. not (is_of_io r.work)) o false) (sym (found-row c.args.self.now.records.rows 0 c.args.cid c.in-Some.entry.now (sym c.in-Some.ensures.value)))))

pub returns-in-None : goal.returns-in-None
returns-in-None g c = ap (λ o. option_map_or (λ r. not (is_of_io r.work)) o false) (sym (no-row c.args.self.now.records.rows 0 c.args.cid (sym c.in-None.ensures.value)))
