use Rattle.std.proofs.Common.{rules, [], subst}
use Rattle.host_core.proofs.{Granting.next-lowest, Identifiers.host_of, Openings.{whole_at, step_at, stays_at}}
use Rattle.host_core.proofs.{Sending.{send-typed, send_made, send-refused}, Told.{sending_refused, touches_none}}
use Rattle.host_core.specs.{Alone.{HostView, IsLowest}, Parts.tables_of, Sending.sending, Tables.Tables, Whole.IsWhole}
use Rattle.machine_model.specs.Events as events
use Rattle.host_core.proofs.host.Host.send.Goals as goal

pub returns-in-Err-clause-step : goal.returns-in-Err-clause-step
returns-in-Err-clause-step g c =
    let t : Tables = tables_of c.self.inside.parts c.args.store.now.pages in
    let w : IsWhole t = whole_at (tables_of c.self.inside.parts []) c.args.self.now c.args.store.now.pages c.self.view_is c.self.invariant c.requires.over in
    stays_at t c.args.self.now (sending c.args.kind) (events.Refused c.in-Err.why []) c.self.view_is (send-refused t c.args.kind c.in-Err.why c.requires.plain (c.in-Err.ensures.refused c.args.store.now.pages w))

pub commit_send-requires-clause-whole : goal.commit_send-requires-clause-whole
commit_send-requires-clause-whole g c =
    whole_at (tables_of c.self.inside.parts []) c.args.self.now c.args.store.now.pages c.self.view_is c.self.invariant c.requires.over

pub commit_send-requires-clause-ready : goal.commit_send-requires-clause-ready
commit_send-requires-clause-ready g c =
    c.in-Ok.ensures.ready c.args.store.now.pages (whole_at (tables_of c.self.inside.parts []) c.args.self.now c.args.store.now.pages c.self.view_is c.self.invariant c.requires.over)

pub invariant_of-self : goal.invariant_of-self
invariant_of-self g c =
    let t : Tables = tables_of c.self.inside.parts c.args.store.now.pages in
    let w : IsWhole t = whole_at (tables_of c.self.inside.parts []) c.args.self.now c.args.store.now.pages c.self.view_is c.self.invariant c.requires.over in
    let ready = c.in-Ok.ensures.ready c.args.store.now.pages w in
    let new : Tables = tables_of c.commit_send.new.self c.commit_send.new.store.pages in
    let made = send_made t new c.args.kind c.in-Ok.cid w ready (send-typed c.args.kind c.in-Ok.cid) c.commit_send.ensures.sends in
    host_of (tables_of c.commit_send.new.self []) c.commit_send.new.store.pages made.whole

pub returns : goal.returns
returns g c =
    let t : Tables = tables_of c.self.inside.parts c.args.store.now.pages in
    let w : IsWhole t = whole_at (tables_of c.self.inside.parts []) c.args.self.now c.args.store.now.pages c.self.view_is c.self.invariant c.requires.over in
    let ready = c.in-Ok.ensures.ready c.args.store.now.pages w in
    let new : Tables = tables_of c.commit_send.new.self c.commit_send.new.store.pages in
    let made = send_made t new c.args.kind c.in-Ok.cid w ready (send-typed c.args.kind c.in-Ok.cid) c.commit_send.ensures.sends in
    record {
      step = step_at t new c.args.self.now (sending c.args.kind) (events.Sent c.in-Ok.cid) c.self.view_is made.step;
      touches = search rules;
      identifier = subst (λ (v : HostView). IsLowest v.host 0 c.in-Ok.cid) c.self.view_is (next-lowest t w 0 c.in-Ok.cid ready.slot.queue ready.slot.at ready.slot.next);
      over = made.whole.over;
    }

pub returns-in-Err-clause-touches : goal.returns-in-Err-clause-touches
returns-in-Err-clause-touches g c = rw (sending_refused c.args.kind c.in-Err.why) (touches_none c.args.store.now)
