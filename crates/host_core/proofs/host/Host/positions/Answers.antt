use Rattle.std.proofs.Common.{◌≡◌, ◌≤◌, ◌∙◌, ℕ, arith, ap, sym, subst, get_or, length, option_map, slice_get, List, Some, None, []}
use Rattle.std.proofs.lemmas.Option.{slice_get_past, slice_get-map}
use Rattle.machine_model.specs.State.{HostQueue}
use Rattle.queue_pair.specs.Positions.{host_positions}
use Rattle.host_core.{proofs.{Lists.get-at, QueueLists.host-at}, specs.{Alone.HostView, Parts.tables_of, Rows.Queue, Tables.host_queue_of}}
use Rattle.host_core.proofs.host.Host.positions.Goals as goal

pub returns-in-None : goal.returns-in-None
returns-in-None g c =
    let queues : List Queue = c.self.inside.parts.queues.items in
    let outside : length queues ≤ c.args.q = omega (arith, c.in-None.ensures.lookup.3, c.from.ensures, ap length c.deref.ensures.value) in
    subst (λ (v : HostView). None ≡ option_map (λ (queue : HostQueue). host_positions queue.ring) (slice_get v.host.queues c.args.q)) c.self.view_is
    (sym (ap (option_map (λ (queue : HostQueue). host_positions queue.ring)) (slice_get-map host_queue_of queues c.args.q ∙ ap (option_map host_queue_of) (slice_get_past queues c.args.q outside))))

pub returns-in-Some : goal.returns-in-Some
returns-in-Some g c =
    let at = c.in-Some.ensures.lookup in
    let there : slice_get c.deref.result.now c.args.q ≡ Some c.in-Some.queue.now =
    get-at c.args.q c.deref.result.now c.in-Some.queue.now (omega (arith, at.3.0, c.from.ensures)) (subst (λ (k : ℕ). c.in-Some.queue.now ≡ get_or c.deref.result.now k c.in-Some.queue.now) c.from.ensures at.1) in
    let here = sym (ap (λ (queues : List Queue). slice_get queues c.args.q) c.deref.ensures.value) ∙ there in
    subst (λ (v : HostView). Some c.positions.result ≡ option_map (λ (queue : HostQueue). host_positions queue.ring) (slice_get v.host.queues c.args.q)) c.self.view_is
    (ap (λ p. Some p) c.positions.ensures ∙ sym (ap (option_map (λ (queue : HostQueue). host_positions queue.ring)) (host-at (tables_of c.self.inside.parts []) c.args.q c.in-Some.queue.now here)))
