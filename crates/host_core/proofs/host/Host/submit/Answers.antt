use Rattle.std.proofs.Common.{rules, [], refl}
use Rattle.host_core.proofs.{Identifiers.host_of, Openings.{whole_at, step_at, stays_at}, QueueLists.host_step, Submitted.submit_made}
use Rattle.host_core.specs.{Parts.tables_of, Tables.Tables, Whole.IsWhole}
use Rattle.machine_model.specs.Events as events
use Rattle.host_core.proofs.host.Host.submit.Goals as goal

pub returns-in-Err-clause-step : goal.returns-in-Err-clause-step
returns-in-Err-clause-step g c =
    let t : Tables = tables_of c.self.inside.parts c.args.store.now.pages in
    let w : IsWhole t = whole_at (tables_of c.self.inside.parts []) c.args.self.now c.args.store.now.pages c.self.view_is c.self.invariant c.requires in
    stays_at t c.args.self.now (events.Submit c.args.draft) (events.Refused c.in-Err.why []) c.self.view_is
    (host_step t t (events.Submit c.args.draft) (events.Refused c.in-Err.why []) refl c.check_submit.ensures.proper (c.in-Err.ensures.refused c.args.store.now.pages w, refl))

pub commit_submit-requires-clause-whole : goal.commit_submit-requires-clause-whole
commit_submit-requires-clause-whole g c =
    whole_at (tables_of c.self.inside.parts []) c.args.self.now c.args.store.now.pages c.self.view_is c.self.invariant c.requires

pub commit_submit-requires-clause-ready : goal.commit_submit-requires-clause-ready
commit_submit-requires-clause-ready g c =
    c.in-Ok.ensures.ready c.args.store.now.pages (whole_at (tables_of c.self.inside.parts []) c.args.self.now c.args.store.now.pages c.self.view_is c.self.invariant c.requires)

pub invariant_of-self : goal.invariant_of-self
invariant_of-self g c =
    let t : Tables = tables_of c.self.inside.parts c.args.store.now.pages in
    let w : IsWhole t = whole_at (tables_of c.self.inside.parts []) c.args.self.now c.args.store.now.pages c.self.view_is c.self.invariant c.requires in
    let new : Tables = tables_of c.commit_submit.new.self c.commit_submit.new.store.pages in
    let made = submit_made t new c.args.draft c.in-Ok.entry w (c.in-Ok.ensures.ready c.args.store.now.pages w) c.commit_submit.ensures.submits in
    host_of (tables_of c.commit_submit.new.self []) c.commit_submit.new.store.pages made.whole

pub returns : goal.returns
returns g c =
    let t : Tables = tables_of c.self.inside.parts c.args.store.now.pages in
    let w : IsWhole t = whole_at (tables_of c.self.inside.parts []) c.args.self.now c.args.store.now.pages c.self.view_is c.self.invariant c.requires in
    let new : Tables = tables_of c.commit_submit.new.self c.commit_submit.new.store.pages in
    let made = submit_made t new c.args.draft c.in-Ok.entry w (c.in-Ok.ensures.ready c.args.store.now.pages w) c.commit_submit.ensures.submits in
    record {
      step = step_at t new c.args.self.now (events.Submit c.args.draft) events.Accepted c.self.view_is made.step;
      touches = c.commit_submit.ensures.touches;
      over = made.whole.over;
      back = tt;
      ticket = c.commit_submit.ensures.ticket;
    }
