use Rattle.std.proofs.Common.{[], ℕ, Some, refl, ap, arith, sym, ◌∙◌, subst}
use Rattle.machine_model.specs.{Step.{Refuses, Step}, declared.words.{Work.TheVariants.Io}}
use Rattle.host_core.proofs.{Ending.{collect-nothing, found-at}, Identifiers.host_of}
use Rattle.host_core.{proofs.{Openings.{whole_at, step_at, stays_at}, QueueLists.host_step}, specs.{Collecting.StandsAt, Parts.{tables_of}}}
use Rattle.host_core.specs.{Tables.{Tables, state_of}, Whole.{IsWhole}}
use Rattle.machine_model.specs.Events as events
use Rattle.machine_model.specs.declared.words.Refusal.TheVariants as refusal
use Rattle.host_core.proofs.host.Host.collect.Goals as goal

pub returns-in-Err-clause-step : goal.returns-in-Err-clause-step
returns-in-Err-clause-step g c =
    let t : Tables = tables_of c.self.inside.parts c.args.store.now.pages in
    let w : IsWhole t = whole_at (tables_of c.self.inside.parts []) c.args.self.now c.args.store.now.pages c.self.view_is c.self.invariant c.requires in
    let refused = subst (λ (q : ℕ). Refuses (state_of t) (events.Collect q c.args.ticket.cid) c.in-Err.why []) c.q.ensures
    (subst (λ (cid : ℕ). Refuses (state_of t) (events.Collect c.q.result cid) c.in-Err.why []) c.cid.ensures (c.in-Err.ensures.refused c.args.store.now.pages w)) in
    stays_at t c.args.self.now (events.Collect c.args.ticket.q c.args.ticket.cid) (events.Refused c.in-Err.why []) c.self.view_is
    (host_step t t (events.Collect c.args.ticket.q c.args.ticket.cid) (events.Refused c.in-Err.why []) refl tt (refused, refl))

pub returns-in-Err-room_for-clause-step : goal.returns-in-Err-room_for-clause-step
returns-in-Err-room_for-clause-step g c =
    let t : Tables = tables_of c.self.inside.parts c.args.store.now.pages in
    let w : IsWhole t = whole_at (tables_of c.self.inside.parts []) c.args.self.now c.args.store.now.pages c.self.view_is c.self.invariant c.requires in
    let stands : StandsAt t c.args.ticket.q c.args.ticket.cid =
    subst (λ (q : ℕ). StandsAt t q c.args.ticket.cid) c.q.ensures (subst (λ (cid : ℕ). StandsAt t c.q.result cid) c.cid.ensures (c.in-Ok.ensures.stands c.args.store.now.pages w)) in
    step_at t t c.args.self.now (events.Collect c.args.ticket.q c.args.ticket.cid) (events.Refused refusal.Memory []) c.self.view_is
    (host_step t t (events.Collect c.args.ticket.q c.args.ticket.cid) (events.Refused refusal.Memory []) refl tt ((refl, collect-nothing t c.args.ticket.q c.args.ticket.cid stands, refl), refl))

pub invariant_of-self : goal.invariant_of-self
invariant_of-self g c = c.self.invariant

pub commit_collect-requires-clause-whole : goal.commit_collect-requires-clause-whole
commit_collect-requires-clause-whole g c =
    whole_at (tables_of c.self.inside.parts []) c.args.self.now c.args.store.now.pages c.self.view_is c.self.invariant c.requires

pub commit_collect-requires-clause-stands : goal.commit_collect-requires-clause-stands
commit_collect-requires-clause-stands g c =
    let t : Tables = tables_of c.self.inside.parts c.args.store.now.pages in
    let w : IsWhole t = whole_at (tables_of c.self.inside.parts []) c.args.self.now c.args.store.now.pages c.self.view_is c.self.invariant c.requires in
    let stands : StandsAt t c.args.ticket.q c.args.ticket.cid =
    subst (λ (q : ℕ). StandsAt t q c.args.ticket.cid) c.q.ensures (subst (λ (cid : ℕ). StandsAt t c.q.result cid) c.cid.ensures (c.in-Ok.ensures.stands c.args.store.now.pages w)) in
    subst (λ (q : ℕ). StandsAt t q c.apart-q.result.1) (sym c.apart-q.ensures.queue) (subst (λ (cid : ℕ). StandsAt t c.args.ticket.q cid) (sym c.apart-q.ensures.identifier) stands)

pub commit_collect-requires-clause-tells : goal.commit_collect-requires-clause-tells
commit_collect-requires-clause-tells g c = λ entry at.
    let t : Tables = tables_of c.self.inside.parts c.args.store.now.pages in
    let w : IsWhole t = whole_at (tables_of c.self.inside.parts []) c.args.self.now c.args.store.now.pages c.self.view_is c.self.invariant c.requires in
    let here = found-at t c.q.result c.cid.result c.apart-q.result.0 c.apart-q.result.1 entry (c.apart-q.ensures.queue ∙ sym c.q.ensures) (c.apart-q.ensures.identifier ∙ sym c.cid.ensures) at in
    let told = c.in-Ok.ensures.tells c.args.store.now.pages w entry here in
    (told.0 ∙ ap Io (sym c.in-Ok-room_for.ensures.same.0), told.1 ∙ ap Some (sym c.in-Ok-room_for.ensures.same.1), told.2 ∙ sym c.in-Ok-room_for.ensures.same.2)

pub commit_collect-requires-clause-space : goal.commit_collect-requires-clause-space
commit_collect-requires-clause-space g c = λ entry at.
    let t : Tables = tables_of c.self.inside.parts c.args.store.now.pages in
    let w : IsWhole t = whole_at (tables_of c.self.inside.parts []) c.args.self.now c.args.store.now.pages c.self.view_is c.self.invariant c.requires in
    let here = found-at t c.q.result c.cid.result c.apart-q.result.0 c.apart-q.result.1 entry (c.apart-q.ensures.queue ∙ sym c.q.ensures) (c.apart-q.ensures.identifier ∙ sym c.cid.ensures) at in
    omega (arith, c.in-Ok.ensures.pages c.args.store.now.pages w entry here, c.in-Ok-room_for.ensures.room.2)

pub invariant_of-self-2 : goal.invariant_of-self-2
invariant_of-self-2 g c = host_of (tables_of c.commit_collect.new.self []) c.commit_collect.new.store.pages c.commit_collect.ensures.whole

pub returns-clause-step : goal.returns-clause-step
returns-clause-step g c =
    let t : Tables = tables_of c.self.inside.parts c.args.store.now.pages in
    let new : Tables = tables_of c.commit_collect.new.self c.commit_collect.new.store.pages in
    step_at t new c.args.self.now (events.Collect c.args.ticket.q c.args.ticket.cid) (events.Collects c.commit_collect.result) c.self.view_is
    (subst (λ (q : ℕ). Step (state_of t) (events.Collect q c.args.ticket.cid) (events.Collects c.commit_collect.result) (state_of new)) c.apart-q.ensures.queue
    (subst (λ (cid : ℕ). Step (state_of t) (events.Collect c.apart-q.result.0 cid) (events.Collects c.commit_collect.result) (state_of new)) c.apart-q.ensures.identifier c.commit_collect.ensures.step))
