use Rattle.std.proofs.Common.{rules, ◌≡◌, [], List, true, false, ap, sym, ◌∙◌, subst}
use Rattle.machine_model.specs.Refusals.{is_deleted}
use Rattle.page_memory.specs.Pages.{Pages}
use Rattle.host_core.proofs.{Identifiers.host_of, Openings.{whole_at, step_at, stays_at}, Reaps.{retire-half, retire-made, retire-drained}}
use Rattle.host_core.specs.{Alone.{HostStep, IsOver}, Commands.{passes, state_at}, Parts.tables_of, Rows.Queue, Tables.{Tables, view_of}, Whole.IsWhole}
use Rattle.machine_model.specs.Events as events
use Rattle.machine_model.specs.declared.words.Refusal.TheVariants as refusal
use Rattle.host_core.proofs.Refusing.{retire-refused}
use Rattle.host_core.proofs.host.Host.retire.Goals as goal

pub see-requires-clause-whole : goal.see-requires-clause-whole
see-requires-clause-whole g c =
    whole_at (tables_of c.self.inside.parts []) c.args.self.now c.args.store.now.pages c.self.view_is c.self.invariant c.requires

pub returns-in-Some-clause-step : goal.returns-in-Some-clause-step
returns-in-Some-clause-step g c =
    let t : Tables = tables_of c.self.inside.parts c.args.store.now.pages in
    let w : IsWhole t = whole_at (tables_of c.self.inside.parts []) c.args.self.now c.args.store.now.pages c.self.view_is c.self.invariant c.requires in
    let deleted : passes is_deleted (state_at t.queues c.args.q) ≡ true =
    ap (passes is_deleted) (sym (c.host_state.ensures ∙ ap (λ (qs : List Queue). state_at qs c.args.q) c.deref.ensures.value)) ∙ (sym c.is_deleted.ensures ∙ c.if-not-is_deleted.false) in
    subst (λ (pages : Pages). HostStep c.args.self.now c.args.store.now.pages (events.Retire c.args.q) (events.Refused refusal.NotDrained []) c.args.self.now pages) (sym c.see.ensures.same)
    (stays_at t c.args.self.now (events.Retire c.args.q) (events.Refused refusal.NotDrained []) c.self.view_is (retire-drained t c.args.q c.in-Some.field-0 deleted c.in-Some.ensures.seen))

pub commit_retire-requires-clause-half : goal.commit_retire-requires-clause-half
commit_retire-requires-clause-half g c =
    let t : Tables = tables_of c.self.inside.parts [] in
    retire-half t c.self.invariant c.args.q
    (ap (passes is_deleted) (sym (c.host_state.ensures ∙ ap (λ (qs : List Queue). state_at qs c.args.q) c.deref.ensures.value)) ∙ (sym c.is_deleted.ensures ∙ c.if-not-is_deleted.false))

pub invariant_of-self : goal.invariant_of-self
invariant_of-self g c =
    let t : Tables = tables_of c.self.inside.parts c.args.store.now.pages in
    let w : IsWhole t = whole_at (tables_of c.self.inside.parts []) c.args.self.now c.args.store.now.pages c.self.view_is c.self.invariant c.requires in
    let deleted : passes is_deleted (state_at t.queues c.args.q) ≡ true =
    ap (passes is_deleted) (sym (c.host_state.ensures ∙ ap (λ (qs : List Queue). state_at qs c.args.q) c.deref.ensures.value)) ∙ (sym c.is_deleted.ensures ∙ c.if-not-is_deleted.false) in
    let new : Tables = tables_of c.commit_retire.new.self c.args.store.now.pages in
    let made = retire-made t new w c.args.q deleted c.in-None.ensures.seen (c.commit_retire.ensures c.args.store.now.pages) in
    host_of (tables_of c.commit_retire.new.self []) c.args.store.now.pages made.whole

pub returns-in-None : goal.returns-in-None
returns-in-None g c =
    let t : Tables = tables_of c.self.inside.parts c.args.store.now.pages in
    let w : IsWhole t = whole_at (tables_of c.self.inside.parts []) c.args.self.now c.args.store.now.pages c.self.view_is c.self.invariant c.requires in
    let deleted : passes is_deleted (state_at t.queues c.args.q) ≡ true =
    ap (passes is_deleted) (sym (c.host_state.ensures ∙ ap (λ (qs : List Queue). state_at qs c.args.q) c.deref.ensures.value)) ∙ (sym c.is_deleted.ensures ∙ c.if-not-is_deleted.false) in
    let new : Tables = tables_of c.commit_retire.new.self c.args.store.now.pages in
    let made = retire-made t new w c.args.q deleted c.in-None.ensures.seen (c.commit_retire.ensures c.args.store.now.pages) in
    record {
      step = subst (λ (pages : Pages). HostStep c.args.self.now c.args.store.now.pages (events.Retire c.args.q) events.Accepted (view_of new) pages) (sym c.see.ensures.same)
          (step_at t new c.args.self.now (events.Retire c.args.q) events.Accepted c.self.view_is made.step);
      touches = search rules;
      over = subst (λ (pages : Pages). IsOver (view_of new) pages) (sym c.see.ensures.same) made.whole.over;
    }

pub returns-then-not-is_deleted-clause-step : goal.returns-then-not-is_deleted-clause-step
returns-then-not-is_deleted-clause-step g c =
    let t : Tables = tables_of c.self.inside.parts c.args.store.now.pages in
    let other : passes is_deleted (state_at t.queues c.args.q) ≡ false =
    ap (passes is_deleted) (sym (c.host_state.ensures ∙ ap (λ (qs : List Queue). state_at qs c.args.q) c.deref.ensures.value)) ∙ (sym c.is_deleted.ensures ∙ c.if-not-is_deleted.true) in
    stays_at t c.args.self.now (events.Retire c.args.q) (events.Refused refusal.NotDeleted []) c.self.view_is (retire-refused t c.args.q other)
