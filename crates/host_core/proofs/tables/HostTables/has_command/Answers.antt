use Rattle.std.proofs.Common.{ap, sym, is_some}
use Rattle.host_core.proofs.RowRecords.{no-row, row-there}
use Rattle.host_core.proofs.tables.HostTables.has_command.Goals as goal

pub returns-in-Some : goal.returns-in-Some
returns-in-Some g c = row-there c.args.self.now.records.rows c.args.q c.args.cid (sym c.in-Some.ensures.value)

pub returns-in-None : goal.returns-in-None
returns-in-None g c = sym (ap is_some (no-row c.args.self.now.records.rows c.args.q c.args.cid (sym c.in-None.ensures.value)))
