use Rattle.std.proofs.Common.{◌≡◌, None, option_and_then, ap, sym, ◌∙◌, subst}
use Rattle.machine_model.specs.State.{Record, record_at}
use Rattle.host_core.{proofs.RowRecords.{found-row, no-row}, specs.{Alone.HostView, Rows.RecordRow}}
use Rattle.host_core.proofs.host.Host.status_of.Goals as goal

pub returns-in-Some : goal.returns-in-Some
returns-in-Some g c =
    let rows = c.self.inside.parts.records.rows in
    subst (λ (v : HostView). c.entry.inside.status ≡ option_and_then (λ (r : Record). r.status) (record_at v.host c.args.q c.args.cid)) c.self.view_is
    (ap (λ (k : RecordRow). k.status) c.entry.view_is ∙ ap (option_and_then (λ (r : Record). r.status)) (sym (found-row rows c.args.q c.args.cid c.in-Some.entry.now (sym c.in-Some.ensures.value))))

pub returns-in-None : goal.returns-in-None
returns-in-None g c =
    let rows = c.self.inside.parts.records.rows in
    subst (λ (v : HostView). None ≡ option_and_then (λ (r : Record). r.status) (record_at v.host c.args.q c.args.cid)) c.self.view_is
    (ap (option_and_then (λ (r : Record). r.status)) (sym (no-row rows c.args.q c.args.cid (sym c.in-None.ensures.value))))
