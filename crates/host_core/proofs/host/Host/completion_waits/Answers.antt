use Rattle.std.proofs.Common.{refl, ◌≡◌, [], false, slice_get, sym, ◌∙◌, subst}
use Rattle.host_core.{proofs.{Openings.whole_at, Reaps.{looks, waits-told}}, specs.{Alone.{HostView, alone}, Looks.completion_waits, Parts.tables_of}}
use Rattle.host_core.specs.{Reaping.lacks_completion, Tables.Tables}
use Rattle.host_core.proofs.host.Host.completion_waits.Goals as goal

pub see-requires-clause-whole : goal.see-requires-clause-whole
see-requires-clause-whole g c = whole_at (tables_of c.self.inside.parts []) c.args.self.now c.args.store.now.pages c.self.view_is c.self.invariant c.requires

pub returns-clause-answer : goal.returns-clause-answer
returns-clause-answer g c =
    let t : Tables = tables_of c.self.inside.parts c.args.store.now.pages in
    let there : lacks_completion (slice_get t.queues c.args.q) ≡ false = sym (rw c.deref.ensures.value at c.has_no_completion.ensures) ∙ c.if-has_no_completion.false in
    subst (λ (v : HostView). c.is_some.result ≡ completion_waits (alone v c.args.store.now.pages) c.args.q) c.self.view_is
    (c.is_some.ensures ∙ sym (waits-told t c.args.q c.see.result (looks t c.args.q c.see.result there c.see.ensures.seen)))

pub returns-then-has_no_completion-clause-same : goal.returns-then-has_no_completion-clause-same
returns-then-has_no_completion-clause-same g c = refl

pub see-requires-clause-there : goal.see-requires-clause-there
see-requires-clause-there g c = cc

pub returns-clause-same : goal.returns-clause-same
returns-clause-same g c = cc
