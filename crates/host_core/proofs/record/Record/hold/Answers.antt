use Rattle.std.proofs.Common.{ap}
use Rattle.machine_model.specs.After.{held}
use Rattle.host_core.specs.{Parts.record_of, Rows.RecordRow}
use Rattle.host_core.proofs.record.Record.hold.Goals as goal

pub returns : goal.returns
returns g c = λ q cid. ap (λ (k : RecordRow). held c.args.status c.args.hints (record_of q cid k)) c.self.view_is
