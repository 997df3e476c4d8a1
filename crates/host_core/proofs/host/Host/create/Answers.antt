use Rattle.std.proofs.Common.{◌<◌, ◌^◌, IfSome, [], rules, subst}
use Rattle.host_core.proofs.{Creations.{create-refused, created_made}, Granting.next-lowest, Identifiers.host_of}
use Rattle.host_core.{proofs.{Openings.{whole_at, step_at, stays_at}, Told.{creating_refused, creating_sent, touches_none}}, specs.Alone.{HostView, IsLowest}}
use Rattle.host_core.specs.{Parts.tables_of, Sending.creating, Tables.Tables, Whole.IsWhole}
use Rattle.machine_model.specs.Events as events
use Rattle.host_core.proofs.host.Host.create.Goals as goal

pub returns-in-Err-clause-step : goal.returns-in-Err-clause-step
returns-in-Err-clause-step g c =
    let fits : IfSome c.args.vector (λ v. v < 2 ^ 16) = search rules in
    let t : Tables = tables_of c.self.inside.parts c.args.store.now.pages in
    let w : IsWhole t = whole_at (tables_of c.self.inside.parts []) c.args.self.now c.args.store.now.pages c.self.view_is c.self.invariant c.requires in
    stays_at t c.args.self.now (creating c.args.half c.args.q c.args.vector) (events.Refused c.in-Err.why []) c.self.view_is (create-refused t c.args.half c.args.q c.args.vector c.in-Err.why fits (c.in-Err.ensures.refused c.args.store.now.pages w c.args.vector))

pub commit_create-requires-clause-whole : goal.commit_create-requires-clause-whole
commit_create-requires-clause-whole g c = whole_at (tables_of c.self.inside.parts []) c.args.self.now c.args.store.now.pages c.self.view_is c.self.invariant c.requires

pub commit_create-requires-clause-ready : goal.commit_create-requires-clause-ready
commit_create-requires-clause-ready g c =
    c.in-Ok.ensures.ready c.args.store.now.pages (whole_at (tables_of c.self.inside.parts []) c.args.self.now c.args.store.now.pages c.self.view_is c.self.invariant c.requires)

pub invariant_of-self : goal.invariant_of-self
invariant_of-self g c =
    let fits : IfSome c.args.vector (λ v. v < 2 ^ 16) = search rules in
    let t : Tables = tables_of c.self.inside.parts c.args.store.now.pages in
    let w : IsWhole t = whole_at (tables_of c.self.inside.parts []) c.args.self.now c.args.store.now.pages c.self.view_is c.self.invariant c.requires in
    let ready = c.in-Ok.ensures.ready c.args.store.now.pages w in
    let new : Tables = tables_of c.commit_create.new.self c.commit_create.new.store.pages in
    let made = created_made t new c.args.half c.args.q c.args.vector c.in-Ok.creation.cid c.in-Ok.creation.first fits w ready c.commit_create.ensures.creates in
    host_of (tables_of c.commit_create.new.self []) c.commit_create.new.store.pages made.whole

pub returns : goal.returns
returns g c =
    let fits : IfSome c.args.vector (λ v. v < 2 ^ 16) = search rules in
    let t : Tables = tables_of c.self.inside.parts c.args.store.now.pages in
    let w : IsWhole t = whole_at (tables_of c.self.inside.parts []) c.args.self.now c.args.store.now.pages c.self.view_is c.self.invariant c.requires in
    let ready = c.in-Ok.ensures.ready c.args.store.now.pages w in
    let new : Tables = tables_of c.commit_create.new.self c.commit_create.new.store.pages in
    let made = created_made t new c.args.half c.args.q c.args.vector c.in-Ok.creation.cid c.in-Ok.creation.first fits w ready c.commit_create.ensures.creates in
    record {
      step = step_at t new c.args.self.now (creating c.args.half c.args.q c.args.vector) (events.Sent c.in-Ok.creation.cid) c.self.view_is made.step;
      touches = rw (creating_sent c.args.self.now.entries c.args.half c.args.q c.args.vector, ← c.self.view_is) c.commit_create.ensures.touches;
      identifier = subst (λ (v : HostView). IsLowest v.host 0 c.in-Ok.creation.cid) c.self.view_is (next-lowest t w 0 c.in-Ok.creation.cid ready.slot.queue ready.slot.at ready.slot.next);
      over = made.whole.over;
    }

pub returns-in-Err-clause-touches : goal.returns-in-Err-clause-touches
returns-in-Err-clause-touches g c = rw (creating_refused c.args.half c.args.q c.args.vector c.in-Err.why) (touches_none c.args.store.now)
