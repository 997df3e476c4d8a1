use Rattle.std.proofs.Common.{◌≡◌, true, false, List, ap, ◌∙◌}
use Rattle.machine_model.specs.Refusals.{is_deleting}
use Rattle.host_core.{proofs.Refusing.{service-seen, state-seen, delete_sq-no_queue, delete_sq-deleting, delete_sq-free}, specs.{Commands.state_at, Parts.tables_of, Rows.Queue, Tables.{Tables, state_of}}}
use Rattle.host_core.proofs.tables.HostTables.check_delete_sq.Goals as goal

pub returns-then-takes_no_io-clause-refused : goal.returns-then-takes_no_io-clause-refused
returns-then-takes_no_io-clause-refused g c = λ pages.
    let t : Tables = tables_of c.args.self.now pages in
    let seen : c.host_state-state.result ≡ state_at t.queues c.args.q = c.host_state-state.ensures ∙ ap (λ (qs : List Queue). state_at qs c.args.q) c.deref.ensures.value in
    delete_sq-no_queue (state_of t) c.args.q (service-seen t c.args.q c.host_state-state.result true seen c.if-takes_no_io.ensures)

pub returns-then-is_deleting-clause-refused : goal.returns-then-is_deleting-clause-refused
returns-then-is_deleting-clause-refused g c = λ pages.
    let t : Tables = tables_of c.args.self.now pages in
    let seen : c.host_state-state.result ≡ state_at t.queues c.args.q = c.host_state-state.ensures ∙ ap (λ (qs : List Queue). state_at qs c.args.q) c.deref.ensures.value in
    delete_sq-deleting (state_of t) c.args.q (service-seen t c.args.q c.host_state-state.result false seen c.if-takes_no_io.ensures)
    (state-seen is_deleting t c.args.q c.host_state-state.result true seen c.if-is_deleting.ensures)

pub returns-clause-free : goal.returns-clause-free
returns-clause-free g c = λ pages.
    let t : Tables = tables_of c.args.self.now pages in
    let seen : c.host_state-state.result ≡ state_at t.queues c.args.q = c.host_state-state.ensures ∙ ap (λ (qs : List Queue). state_at qs c.args.q) c.deref.ensures.value in
    delete_sq-free (state_of t) c.args.q (service-seen t c.args.q c.host_state-state.result false seen c.if-takes_no_io.ensures)
    (state-seen is_deleting t c.args.q c.host_state-state.result false seen c.if-is_deleting.ensures)
