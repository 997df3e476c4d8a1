use Rattle.std.proofs.Common.{[], ◌∙◌, ap, sym, subst}
use Rattle.machine_model.specs.Claims.{counts_of}
use Rattle.page_ledger.specs.Counting.{total}
use Rattle.host_core.{proofs.Identifiers.{count_of, sound_host}, specs.{Alone.{HostView, IsSoundHost}, Parts.tables_of}}
use Rattle.host_core.proofs.host.Host.pages.Goals as goal

pub returns-clause-pages : goal.returns-clause-pages
returns-clause-pages g c =
    c.pages.ensures.pages ∙ (sym (count_of (tables_of c.self.inside.parts []) c.self.invariant) ∙ ap (λ (v : HostView). total (counts_of v.host)) c.self.view_is)

pub returns-clause-sound : goal.returns-clause-sound
returns-clause-sound g c = subst (λ (v : HostView). IsSoundHost v) c.self.view_is (sound_host (tables_of c.self.inside.parts []) c.self.invariant)
