use Rattle.std.proofs.Common.{ap, sym, ◌∙◌}
use Rattle.host_core.specs.{Reaping.kind_of, Rows.RecordRow}
use Rattle.host_core.proofs.record.Record.kind.Goals as goal

pub returns-in-Io : goal.returns-in-Io
returns-in-Io g c = sym (ap (λ (k : RecordRow). kind_of k.work) (sym c.self.view_is) ∙ ap kind_of c.in-Io.is)

pub returns-in-Management : goal.returns-in-Management
returns-in-Management g c = sym (ap (λ (k : RecordRow). kind_of k.work) (sym c.self.view_is) ∙ ap kind_of c.in-Management.is)
