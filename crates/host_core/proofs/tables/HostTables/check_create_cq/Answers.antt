use Rattle.std.proofs.{Common.{List, Some, ap, sym, ◌∙◌}, lemmas.Bool.ne_eqb}
use Rattle.host_core.{proofs.{Making.{create_cq-busy, create_cq-free}, Refusing.{io-zeroth, io-unknown, create_cq-no_queue}}, specs.{Commands.state_at, Parts.tables_of, Rows.Queue, Tables.{Tables, state_of}}}
use Rattle.host_core.proofs.tables.HostTables.check_create_cq.Goals as goal

pub returns-then-has_commands-clause-refused : goal.returns-then-has_commands-clause-refused
returns-then-has_commands-clause-refused g c = λ pages vector.
    create_cq-busy (tables_of c.args.self.now pages) c.args.q vector (ne_eqb c.args.q 0 c.if-q-eq0.false)
    (sym (c.host_state.ensures ∙ ap (λ (qs : List Queue). state_at qs c.args.q) c.deref.ensures.value) ∙ (c.in-Some-Gone.is ∙ ap Some c.in-Some-Gone.field-0-is))
    (sym c.has_commands.ensures ∙ c.if-has_commands.true)

pub returns-clause-free : goal.returns-clause-free
returns-clause-free g c = λ pages.
    create_cq-free (tables_of c.args.self.now pages) c.args.q (ne_eqb c.args.q 0 c.if-q-eq0.false)
    (sym (c.host_state.ensures ∙ ap (λ (qs : List Queue). state_at qs c.args.q) c.deref.ensures.value) ∙ (c.in-Some-Gone.is ∙ ap Some c.in-Some-Gone.field-0-is))
    (sym c.has_commands.ensures ∙ c.if-has_commands.false)

pub returns-then-q-eq0-clause-refused : goal.returns-then-q-eq0-clause-refused
returns-then-q-eq0-clause-refused g c = λ pages vector.
    let t : Tables = tables_of c.args.self.now pages in
    create_cq-no_queue (state_of t) c.args.q vector (io-zeroth (state_of t) c.args.q c.if-q-eq0.true)

pub returns-in-None-clause-refused : goal.returns-in-None-clause-refused
returns-in-None-clause-refused g c = λ pages vector.
    let t : Tables = tables_of c.args.self.now pages in
    create_cq-no_queue (state_of t) c.args.q vector (io-unknown t c.args.q (sym (c.host_state.ensures ∙ ap (λ (qs : List Queue). state_at qs c.args.q) c.deref.ensures.value) ∙ c.in-None.is))
