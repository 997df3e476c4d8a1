use Rattle.std.proofs.Common.{◌≡◌, [], None, sym, ◌∙◌, subst}
use Rattle.machine_model.specs.Refusals.{refusal_of}
use Rattle.host_core.{proofs.Openings.{cause-told, whole_at}, specs.{Alone.{HostView, alone}, Looks.cause_of, Parts.tables_of, Tables.{Tables, state_of}}}
use Rattle.host_core.specs.Whole.{IsWhole}
use Rattle.machine_model.specs.Events as events
use Rattle.host_core.proofs.host.Host.reserve_refusal.Goals as goal

pub returns-in-Ok : goal.returns-in-Ok
returns-in-Ok g c = λ pages over.
    subst (λ (v : HostView). None ≡ refusal_of (alone v pages) (events.Reserve c.args.q c.args.request.now)) c.self.view_is
    (sym (c.in-Ok.ensures.granted pages (whole_at (tables_of c.self.inside.parts []) c.args.self.now pages c.self.view_is c.self.invariant over)).none)

pub returns-in-Err : goal.returns-in-Err
returns-in-Err g c = λ pages over.
    let t : Tables = tables_of c.self.inside.parts pages in
    let w : IsWhole t = whole_at (tables_of c.self.inside.parts []) c.args.self.now pages c.self.view_is c.self.invariant over in
    c.cause.ensures
    ∙ subst (λ (v : HostView). cause_of c.in-Err.why ≡ refusal_of (alone v pages) (events.Reserve c.args.q c.args.request.now)) c.self.view_is
    (sym (cause-told (state_of t) (events.Reserve c.args.q c.args.request.now) c.in-Err.why (c.in-Err.ensures.refused pages w)))
