use Rattle.std.proofs.{Common.{List, Some, true, ap, sym, refl, ◌≡◌, ◌∙◌}, lemmas.Bool.ne_eqb}
use Rattle.machine_model.specs.{Refusals.is_half_made, declared.words.HostState.TheVariants.HalfMade}
use Rattle.host_core.{proofs.Refusing.{io-zeroth, io-unknown, io-there, state-seen, create_sq-no_queue, create_sq-outstanding, create_sq-free}, specs.{Commands.state_at, Parts.tables_of, Rows.Queue, Tables.{Tables, state_of}}}
use Rattle.host_core.proofs.tables.HostTables.check_create_sq.Goals as goal

pub returns-then-q-eq0-clause-refused : goal.returns-then-q-eq0-clause-refused
returns-then-q-eq0-clause-refused g c = λ pages.
    let t : Tables = tables_of c.args.self.now pages in
    create_sq-no_queue (state_of t) c.args.q (io-zeroth (state_of t) c.args.q c.if-q-eq0.true)

pub returns-in-None-clause-refused : goal.returns-in-None-clause-refused
returns-in-None-clause-refused g c = λ pages.
    let t : Tables = tables_of c.args.self.now pages in
    create_sq-no_queue (state_of t) c.args.q (io-unknown t c.args.q (sym (c.host_state.ensures ∙ ap (λ (qs : List Queue). state_at qs c.args.q) c.deref.ensures.value) ∙ c.in-None.is))

pub returns-then-awaits_deletion-clause-refused : goal.returns-then-awaits_deletion-clause-refused
returns-then-awaits_deletion-clause-refused g c = λ pages.
    let t : Tables = tables_of c.args.self.now pages in
    let is : state_at t.queues c.args.q ≡ Some HalfMade = sym (c.host_state.ensures ∙ ap (λ (qs : List Queue). state_at qs c.args.q) c.deref.ensures.value) ∙ (c.in-Some-HalfMade.is ∙ ap Some c.in-Some-HalfMade.field-0-is) in
    create_sq-outstanding (state_of t) c.args.q (io-there t c.args.q HalfMade (ne_eqb c.args.q 0 c.if-q-eq0.false) is) (state-seen is_half_made t c.args.q (Some HalfMade) true (sym is) refl)
    (sym c.awaits_deletion.ensures ∙ c.if-awaits_deletion.true)

pub returns-clause-free : goal.returns-clause-free
returns-clause-free g c = λ pages.
    let t : Tables = tables_of c.args.self.now pages in
    let is : state_at t.queues c.args.q ≡ Some HalfMade = sym (c.host_state.ensures ∙ ap (λ (qs : List Queue). state_at qs c.args.q) c.deref.ensures.value) ∙ (c.in-Some-HalfMade.is ∙ ap Some c.in-Some-HalfMade.field-0-is) in
    create_sq-free (state_of t) c.args.q (io-there t c.args.q HalfMade (ne_eqb c.args.q 0 c.if-q-eq0.false) is) (state-seen is_half_made t c.args.q (Some HalfMade) true (sym is) refl)
    (sym c.awaits_deletion.ensures ∙ c.if-awaits_deletion.false)
