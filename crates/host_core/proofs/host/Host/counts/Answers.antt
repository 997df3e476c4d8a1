use Rattle.std.proofs.Common.{[], ◌∙◌, ap}
use Rattle.machine_model.specs.Claims.{counts_of}
use Rattle.host_core.{proofs.Told.table_counts, specs.{Alone.HostView, Parts.tables_of}}
use Rattle.host_core.proofs.host.Host.counts.Goals as goal

pub returns : goal.returns
returns g c =
    c.counts.ensures.counts ∙ (table_counts (tables_of c.self.inside.parts []) c.self.invariant ∙ ap (λ (v : HostView). counts_of v.host) c.self.view_is)
