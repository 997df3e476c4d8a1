use Rattle.std.proofs.Common.{ap}
use Rattle.machine_model.specs.After.{submitted}
use Rattle.host_core.specs.{Parts.record_of, Rows.RecordRow}
use Rattle.host_core.proofs.record.Record.submit.Goals as goal

pub returns : goal.returns
returns g c = λ q cid. ap (λ (k : RecordRow). submitted (record_of q cid k)) c.self.view_is
