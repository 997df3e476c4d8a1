use Rattle.std.proofs.Common.{rules, ◌≡◌, ◌<◌, [], ℕ, List, None, Some, true, false, length, slice_get, arith, ap, sym, ◌∙◌, subst}
use Rattle.page_memory.specs.Pages.{Pages}
use Rattle.host_core.proofs.{Identifiers.host_of, Openings.{whole_at, step_at, stays_at, head-told}, QueueLists.{queue-at, completion-inside}}
use Rattle.host_core.{proofs.Reaps.{looks, reaps-none}, specs.{Alone.{HostStep, IsOver}, Parts.tables_of, Reaping.lacks_completion, Tables.{Tables, view_of}}}
use Rattle.host_core.specs.Whole.{IsWhole}
use Rattle.machine_model.specs.Events as events
use Rattle.machine_model.specs.declared.words.Reaped.TheVariants as found
use Rattle.host_core.{proofs.Refusing.reap-refused, specs.Rows.Queue}
use Rattle.machine_model.specs.declared.words.Refusal.TheVariants as refusal
use Rattle.host_core.proofs.host.Host.reap.Goals as goal

pub see-requires-clause-whole : goal.see-requires-clause-whole
see-requires-clause-whole g c =
    whole_at (tables_of c.self.inside.parts []) c.args.self.now c.args.store.now.pages c.self.view_is c.self.invariant c.requires

pub returns-in_default-clause-step : goal.returns-in_default-clause-step
returns-in_default-clause-step g c =
    let t : Tables = tables_of c.self.inside.parts c.args.store.now.pages in
    let w : IsWhole t = whole_at (tables_of c.self.inside.parts []) c.args.self.now c.args.store.now.pages c.self.view_is c.self.invariant c.requires in
    let there : lacks_completion (slice_get t.queues c.args.q) ≡ false = sym (rw c.deref.ensures.value at c.has_no_completion.ensures) ∙ c.if-has_no_completion.false in
    subst (λ (pages : Pages). HostStep c.args.self.now c.args.store.now.pages (events.Reap c.args.q) (events.Reaps found.Empty) c.args.self.now pages) (sym c.see.ensures.same)
    (stays_at t c.args.self.now (events.Reap c.args.q) (events.Reaps found.Empty) c.self.view_is (reaps-none t w c.args.q (looks t c.args.q None there c.in_default.ensures.seen)).step)

pub index-requires : goal.index-requires
index-requires g c =
    let t : Tables = tables_of c.self.inside.parts c.args.store.now.pages in
    let w : IsWhole t = whole_at (tables_of c.self.inside.parts []) c.args.self.now c.args.store.now.pages c.self.view_is c.self.invariant c.requires in
    let there : lacks_completion (slice_get t.queues c.args.q) ≡ false = sym (rw c.deref.ensures.value at c.has_no_completion.ensures) ∙ c.if-has_no_completion.false in
    let inside : c.args.q < length c.end_or_reject-found.new.self.queues.items =
    subst (λ (n : ℕ). c.args.q < n) (sym c.end_or_reject-found.ensures.many) (completion-inside t.queues c.args.q there) in
    omega (arith, c.from.ensures, inside, c.end_or_reject-found.new.self.queues.ok)

pub invariant_of-self : goal.invariant_of-self
invariant_of-self g c =
    let t : Tables = tables_of c.self.inside.parts c.args.store.now.pages in
    let w : IsWhole t = whole_at (tables_of c.self.inside.parts []) c.args.self.now c.args.store.now.pages c.self.view_is c.self.invariant c.requires in
    let new : Tables = tables_of c.end_or_reject-found.new.self c.args.store.now.pages in
    let made = c.end_or_reject-found.ensures.reaps c.args.store.now.pages w c.in-Some.ensures.seen in
    host_of (tables_of c.end_or_reject-found.new.self []) c.args.store.now.pages made.whole

pub returns : goal.returns
returns g c =
    let t : Tables = tables_of c.self.inside.parts c.args.store.now.pages in
    let w : IsWhole t = whole_at (tables_of c.self.inside.parts []) c.args.self.now c.args.store.now.pages c.self.view_is c.self.invariant c.requires in
    let new : Tables = tables_of c.end_or_reject-found.new.self c.args.store.now.pages in
    let made = c.end_or_reject-found.ensures.reaps c.args.store.now.pages w c.in-Some.ensures.seen in
    let there : lacks_completion (slice_get t.queues c.args.q) ≡ false = sym (rw c.deref.ensures.value at c.has_no_completion.ensures) ∙ c.if-has_no_completion.false in
    let inside : c.args.q < length c.end_or_reject-found.new.self.queues.items =
    subst (λ (n : ℕ). c.args.q < n) (sym c.end_or_reject-found.ensures.many) (completion-inside t.queues c.args.q there) in
    let bare : Tables = tables_of c.end_or_reject-found.new.self [] in
    record {
      step = subst (λ (pages : Pages). HostStep c.args.self.now c.args.store.now.pages (events.Reap c.args.q) (events.Reaps c.end_or_reject-found.result) (view_of new) pages) (sym c.see.ensures.same)
          (step_at t new c.args.self.now (events.Reap c.args.q) (events.Reaps c.end_or_reject-found.result) c.self.view_is made.step);
      head = sym (c.end_or_reject-found.ensures.taken (view_of new)
          ∙ (head-told bare c.args.q c.index.result.now (queue-at bare c.args.q c.from.result c.index.result.now inside c.from.ensures c.index.ensures)
          ∙ ap (λ (n : ℕ). Some n) (sym c.head_value-head.ensures.head)));
      touches = search rules;
      over = subst (λ (pages : Pages). IsOver (view_of new) pages) (sym c.see.ensures.same) made.whole.over;
    }

pub returns-then-has_no_completion-clause-step : goal.returns-then-has_no_completion-clause-step
returns-then-has_no_completion-clause-step g c =
    let t : Tables = tables_of c.self.inside.parts c.args.store.now.pages in
    stays_at t c.args.self.now (events.Reap c.args.q) (events.Refused refusal.NoQueue []) c.self.view_is
    (reap-refused t c.args.q (subst (λ (queues : List Queue). lacks_completion (slice_get queues c.args.q) ≡ true) c.deref.ensures.value (sym c.if-has_no_completion.ensures)))
