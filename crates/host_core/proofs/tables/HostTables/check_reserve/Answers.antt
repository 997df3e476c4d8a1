use Rattle.std.proofs.Common.{arith, ◌≡◌, ℕ, List, true, false, ap, sym, ◌∙◌, slice_get}
use Rattle.io_commands.specs.declared.request.Kind.{Kind}
use Rattle.machine_model.specs.Refusals.{lacks_queue, in_state, is_deleting, takes}
use Rattle.host_core.proofs.Granting.{in_state-is, lacks-is, refuses-other_blocks, refuses-no_identifier, refuses-too_few, none-left, next-left, granted, Asked}
use Rattle.host_core.{specs.{Commands.{state_at, passes, lacks}, Parts.tables_of, Rows.Queue, Tables.{Tables, state_of}}, proofs.Granted.queue_there}
use Rattle.host_core.proofs.Refusing.{reserve-no_queue, reserve-deleting, reserve-bad}
use Rattle.host_core.proofs.tables.HostTables.check_reserve.Goals as goal

pub returns-then-not-takes-clause-refused : goal.returns-then-not-takes-clause-refused
returns-then-not-takes-clause-refused g c = λ pages w.
    let t : Tables = tables_of c.args.self.now pages in
    let q : ℕ = c.args.q in
    let kind : Kind = c.args.request.now.kind in
    let seen : c.host_state-state.result ≡ state_at t.queues q = c.host_state-state.ensures ∙ ap (λ (qs : List Queue). state_at qs q) c.deref.ensures.value in
    let known : lacks_queue (state_of t) q kind ≡ false = lacks-is t q kind ∙ (ap (λ o. lacks t.peer q o kind) (sym seen) ∙ (sym c.lacks_queue.ensures ∙ c.if-lacks_queue.false)) in
    let stays : in_state is_deleting (state_of t) q ≡ false = in_state-is is_deleting t q ∙ (ap (passes is_deleting) (sym seen) ∙ (sym c.is_deleting.ensures ∙ c.if-is_deleting.false)) in
    refuses-other_blocks (state_of t) q c.args.request.now known stays (sym c.in-Ok.ensures) (sym c.if-not-takes.ensures)

pub returns-in_default-clause-refused : goal.returns-in_default-clause-refused
returns-in_default-clause-refused g c = λ pages w.
    let t : Tables = tables_of c.args.self.now pages in
    let q : ℕ = c.args.q in
    let kind : Kind = c.args.request.now.kind in
    let seen : c.host_state-state.result ≡ state_at t.queues q = c.host_state-state.ensures ∙ ap (λ (qs : List Queue). state_at qs q) c.deref.ensures.value in
    let known : lacks_queue (state_of t) q kind ≡ false = lacks-is t q kind ∙ (ap (λ o. lacks t.peer q o kind) (sym seen) ∙ (sym c.lacks_queue.ensures ∙ c.if-lacks_queue.false)) in
    let stays : in_state is_deleting (state_of t) q ≡ false = in_state-is is_deleting t q ∙ (ap (passes is_deleting) (sym seen) ∙ (sym c.is_deleting.ensures ∙ c.if-is_deleting.false)) in
    let fits : takes t.peer c.args.request.now.block_size ≡ true = sym c.if-not-takes.ensures in
    let there = queue_there t w.host q kind known in
    let next = c.in_default.ensures there.0 (ap (λ (qs : List Queue). slice_get qs q) c.deref-2.ensures.value ∙ there.1) in
    refuses-no_identifier (state_of t) q c.args.request.now known stays (sym c.in-Ok.ensures) fits (none-left t w q there.0 there.1 (sym next))

pub returns-in-Err-pages_wanted-clause-refused : goal.returns-in-Err-pages_wanted-clause-refused
returns-in-Err-pages_wanted-clause-refused g c = λ pages w.
    let t : Tables = tables_of c.args.self.now pages in
    let q : ℕ = c.args.q in
    let kind : Kind = c.args.request.now.kind in
    let seen : c.host_state-state.result ≡ state_at t.queues q = c.host_state-state.ensures ∙ ap (λ (qs : List Queue). state_at qs q) c.deref.ensures.value in
    let known : lacks_queue (state_of t) q kind ≡ false = lacks-is t q kind ∙ (ap (λ o. lacks t.peer q o kind) (sym seen) ∙ (sym c.lacks_queue.ensures ∙ c.if-lacks_queue.false)) in
    let stays : in_state is_deleting (state_of t) q ≡ false = in_state-is is_deleting t q ∙ (ap (passes is_deleting) (sym seen) ∙ (sym c.is_deleting.ensures ∙ c.if-is_deleting.false)) in
    let fits : takes t.peer c.args.request.now.block_size ≡ true = sym c.if-not-takes.ensures in
    let there = queue_there t w.host q kind known in
    let next = c.in-Some.ensures there.0 (ap (λ (qs : List Queue). slice_get qs q) c.deref-2.ensures.value ∙ there.1) in
    refuses-too_few (state_of t) q c.args.request.now c.in-Err-pages_wanted.field-0.need c.in-Err-pages_wanted.field-0.free known stays (sym c.in-Ok.ensures) fits
    (next-left t w q c.in-Some.cid there.0 there.1 (sym next)) c.in-Err-pages_wanted.ensures.need c.in-Err-pages_wanted.ensures.free c.in-Err-pages_wanted.ensures.too_few

pub returns-in-Ok-pages_wanted-clause-granted : goal.returns-in-Ok-pages_wanted-clause-granted
returns-in-Ok-pages_wanted-clause-granted g c = λ pages w.
    let t : Tables = tables_of c.args.self.now pages in
    let q : ℕ = c.args.q in
    let kind : Kind = c.args.request.now.kind in
    let seen : c.host_state-state.result ≡ state_at t.queues q = c.host_state-state.ensures ∙ ap (λ (qs : List Queue). state_at qs q) c.deref.ensures.value in
    let known : lacks_queue (state_of t) q kind ≡ false = lacks-is t q kind ∙ (ap (λ o. lacks t.peer q o kind) (sym seen) ∙ (sym c.lacks_queue.ensures ∙ c.if-lacks_queue.false)) in
    let stays : in_state is_deleting (state_of t) q ≡ false = in_state-is is_deleting t q ∙ (ap (passes is_deleting) (sym seen) ∙ (sym c.is_deleting.ensures ∙ c.if-is_deleting.false)) in
    let fits : takes t.peer c.args.request.now.block_size ≡ true = sym c.if-not-takes.ensures in
    let there = queue_there t w.host q kind known in
    let next = c.in-Some.ensures there.0 (ap (λ (qs : List Queue). slice_get qs q) c.deref-2.ensures.value ∙ there.1) in
    let asked : Asked t q c.args.request.now = record { queue = there.0; at = there.1; known = known; stays = stays; good = sym c.in-Ok.ensures; fits = fits } in
    granted t q c.args.request.now c.in-Some.cid c.in-Ok-pages_wanted.data_pages c.in-Ok-pages_wanted.chain_pages w asked (sym next)
    c.in-Ok-pages_wanted.ensures.data_pages c.in-Ok-pages_wanted.ensures.chain_pages c.in-Ok-pages_wanted.ensures.enough

pub pages_wanted-requires-clause-low : goal.pages_wanted-requires-clause-low
pages_wanted-requires-clause-low g c = omega arith

pub pages_wanted-requires-clause-high : goal.pages_wanted-requires-clause-high
pages_wanted-requires-clause-high g c = omega arith

pub returns-then-lacks_queue-clause-refused : goal.returns-then-lacks_queue-clause-refused
returns-then-lacks_queue-clause-refused g c = λ pages w.
    let t : Tables = tables_of c.args.self.now pages in
    let q : ℕ = c.args.q in
    let kind : Kind = c.args.request.now.kind in
    let seen : c.host_state-state.result ≡ state_at t.queues q = c.host_state-state.ensures ∙ ap (λ (qs : List Queue). state_at qs q) c.deref.ensures.value in
    let known : lacks_queue (state_of t) q kind ≡ true = lacks-is t q kind ∙ (ap (λ o. lacks t.peer q o kind) (sym seen) ∙ (sym c.lacks_queue.ensures ∙ c.if-lacks_queue.true)) in
    reserve-no_queue (state_of t) q c.args.request.now known

pub returns-then-is_deleting-clause-refused : goal.returns-then-is_deleting-clause-refused
returns-then-is_deleting-clause-refused g c = λ pages w.
    let t : Tables = tables_of c.args.self.now pages in
    let q : ℕ = c.args.q in
    let kind : Kind = c.args.request.now.kind in
    let seen : c.host_state-state.result ≡ state_at t.queues q = c.host_state-state.ensures ∙ ap (λ (qs : List Queue). state_at qs q) c.deref.ensures.value in
    let known : lacks_queue (state_of t) q kind ≡ false = lacks-is t q kind ∙ (ap (λ o. lacks t.peer q o kind) (sym seen) ∙ (sym c.lacks_queue.ensures ∙ c.if-lacks_queue.false)) in
    let stays : in_state is_deleting (state_of t) q ≡ true = in_state-is is_deleting t q ∙ (ap (passes is_deleting) (sym seen) ∙ (sym c.is_deleting.ensures ∙ c.if-is_deleting.true)) in
    reserve-deleting (state_of t) q c.args.request.now known stays

pub returns-in-Err-clause-refused : goal.returns-in-Err-clause-refused
returns-in-Err-clause-refused g c = λ pages w.
    let t : Tables = tables_of c.args.self.now pages in
    let q : ℕ = c.args.q in
    let kind : Kind = c.args.request.now.kind in
    let seen : c.host_state-state.result ≡ state_at t.queues q = c.host_state-state.ensures ∙ ap (λ (qs : List Queue). state_at qs q) c.deref.ensures.value in
    let known : lacks_queue (state_of t) q kind ≡ false = lacks-is t q kind ∙ (ap (λ o. lacks t.peer q o kind) (sym seen) ∙ (sym c.lacks_queue.ensures ∙ c.if-lacks_queue.false)) in
    let stays : in_state is_deleting (state_of t) q ≡ false = in_state-is is_deleting t q ∙ (ap (passes is_deleting) (sym seen) ∙ (sym c.is_deleting.ensures ∙ c.if-is_deleting.false)) in
    reserve-bad (state_of t) q c.args.request.now c.in-Err.fault known stays (sym c.in-Err.ensures)
