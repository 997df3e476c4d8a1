use Rattle.std.proofs.Common.{sym}
use Rattle.machine_model.specs.{After.held, State.with_record}
use Rattle.slot_table.specs.Rows.{with_value}
use Rattle.host_core.proofs.RowRecords.{changed-rows, with-row, with-no_row}
use Rattle.host_core.proofs.tables.HostTables.hold.Goals as goal

pub returns-in-Some : goal.returns-in-Some
returns-in-Some g c =
    let rows = c.args.self.now.records.rows in
    let same = with-row rows c.args.q c.args.cid (held c.args.status c.args.hints) c.in-Some.entry.now c.hold.new.self c.in-Some.ensures.distinct (sym c.in-Some.ensures.value) (c.hold.ensures c.args.q c.args.cid) in
    changed-rows c.args.self.now (with_value rows c.args.q c.args.cid c.hold.new.self) (with_record c.args.q c.args.cid (held c.args.status c.args.hints)) same

pub returns-in-None : goal.returns-in-None
returns-in-None g c =
    let rows = c.args.self.now.records.rows in
    changed-rows c.args.self.now rows (with_record c.args.q c.args.cid (held c.args.status c.args.hints)) (with-no_row rows c.args.q c.args.cid (held c.args.status c.args.hints) (sym c.in-None.ensures.value))
