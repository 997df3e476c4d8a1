use Rattle.std.proofs.Common.{◌≡◌, true, false, List, ap, ◌∙◌}
use Rattle.machine_model.specs.Refusals.{is_changing}
use Rattle.host_core.{proofs.Refusing.{lack-seen, state-seen, delete_cq-no_queue, delete_cq-changing}, specs.{Commands.state_at, Parts.tables_of, Rows.Queue, Tables.{Tables, state_of}}}
use Rattle.host_core.proofs.tables.HostTables.check_delete_cq.Goals as goal

pub returns-then-lacks_queue-clause-refused : goal.returns-then-lacks_queue-clause-refused
returns-then-lacks_queue-clause-refused g c = λ pages.
    let t : Tables = tables_of c.args.self.now pages in
    let seen : c.host_state-state.result ≡ state_at t.queues c.args.q = c.host_state-state.ensures ∙ ap (λ (qs : List Queue). state_at qs c.args.q) c.deref.ensures.value in
    delete_cq-no_queue (state_of t) c.args.q (lack-seen t c.args.q c.host_state-state.result true seen c.if-lacks_queue.ensures)

pub returns-then-is_changing-clause-refused : goal.returns-then-is_changing-clause-refused
returns-then-is_changing-clause-refused g c = λ pages.
    let t : Tables = tables_of c.args.self.now pages in
    let seen : c.host_state-state.result ≡ state_at t.queues c.args.q = c.host_state-state.ensures ∙ ap (λ (qs : List Queue). state_at qs c.args.q) c.deref.ensures.value in
    delete_cq-changing (state_of t) c.args.q (lack-seen t c.args.q c.host_state-state.result false seen c.if-lacks_queue.ensures)
    (state-seen is_changing t c.args.q c.host_state-state.result true seen c.if-is_changing.ensures)
