use Rattle.host_core.proofs.RowRecords.{taken-becomes}
use Rattle.host_core.proofs.tables.HostTables.forget.Goals as goal

pub returns : goal.returns
returns g c = taken-becomes c.args.self.now c.args.q c.args.cid c.take.result _ c.take.ensures.value c.take.ensures.distinct c.take.ensures.rest
