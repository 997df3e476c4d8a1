use Rattle.std.{proofs.Common.{sym, ◌∙◌, ap, slice_get}, specs.Option.option_and_then}
use Rattle.machine_model.specs.{State.Record, Work.Work}
use Rattle.host_core.{proofs.RowRecords.{found-row, no-row}, specs.{Alone.HostView, DataPlaces.{place_at, places_of}, Rows.RecordRow}}
use Rattle.host_core.proofs.host.Host.place.Goals as goal

pub returns-in_err-entry : goal.returns-in_err-entry
returns-in_err-entry g c =
    c.from_residual.ensures
    ∙ (ap (option_and_then (λ (r : Record). slice_get (places_of r.work r.data_pages) c.args.i)) (sym (no-row c.self.inside.parts.records.rows c.args.q c.args.cid (sym c.in_err-entry.ensures.value)))
    ∙ ap (λ (v : HostView). place_at v.host c.args.q c.args.cid c.args.i) c.self.view_is)

pub returns-in-Io : goal.returns-in-Io
returns-in-Io g c =
    c.place_among.ensures
    ∙ (rw (c.pieces.ensures, c.deref.ensures.value) (ap (λ (w : Work). slice_get (places_of w c.entry.inside.data_pages.items) c.args.i) (sym c.in-Io.is))
    ∙ (ap (λ (k : RecordRow). slice_get (places_of k.work k.data_pages) c.args.i) c.entry.view_is
    ∙ (ap (option_and_then (λ (r : Record). slice_get (places_of r.work r.data_pages) c.args.i)) (sym (found-row c.self.inside.parts.records.rows c.args.q c.args.cid c.in_ok-entry.entry.now (sym c.in_ok-entry.ensures.value)))
    ∙ ap (λ (v : HostView). place_at v.host c.args.q c.args.cid c.args.i) c.self.view_is)))

pub returns-in-Management : goal.returns-in-Management
returns-in-Management g c =
    ap (λ (w : Work). slice_get (places_of w c.entry.inside.data_pages.items) c.args.i) (sym c.in-Management.is)
    ∙ (ap (λ (k : RecordRow). slice_get (places_of k.work k.data_pages) c.args.i) c.entry.view_is
    ∙ (ap (option_and_then (λ (r : Record). slice_get (places_of r.work r.data_pages) c.args.i)) (sym (found-row c.self.inside.parts.records.rows c.args.q c.args.cid c.in_ok-entry.entry.now (sym c.in_ok-entry.ensures.value)))
    ∙ ap (λ (v : HostView). place_at v.host c.args.q c.args.cid c.args.i) c.self.view_is))
