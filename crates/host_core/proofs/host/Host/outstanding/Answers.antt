use Rattle.std.proofs.Common.{◌∙◌, ap, length}
use Rattle.machine_model.specs.State.{outstanding_on}
use Rattle.host_core.{proofs.Lists.rows_on-outstanding, specs.Alone.HostView}
use Rattle.host_core.proofs.host.Host.outstanding.Goals as goal

pub returns : goal.returns
returns g c = c.count_records.ensures ∙ (rows_on-outstanding c.args.q c.self.inside.parts.records.rows ∙ ap (λ (v : HostView). length (outstanding_on v.host c.args.q)) c.self.view_is)
