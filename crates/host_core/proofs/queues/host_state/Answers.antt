use Rattle.std.proofs.{Common.{◌≡◌, ℕ, arith, ap, sym, get_or, option_map, slice_get, Some, subst}, lemmas.Option.slice_get_past}
use Rattle.host_core.{proofs.Lists.get-at, specs.Rows.Queue}
use Rattle.host_core.proofs.queues.host_state.Goals as goal

pub returns-in-None : goal.returns-in-None
returns-in-None g c = sym (ap (option_map (λ (queue : Queue). queue.state)) (slice_get_past c.args.queues.now c.args.q (omega (arith, c.in-None.ensures.lookup.3, c.from.ensures))))

pub returns-in-Some : goal.returns-in-Some
returns-in-Some g c =
    let at = c.in-Some.ensures.lookup in
    let here : slice_get c.args.queues.now c.args.q ≡ Some c.in-Some.queue.now =
    get-at c.args.q c.args.queues.now c.in-Some.queue.now (omega (arith, at.3.0, c.from.ensures)) (subst (λ (k : ℕ). c.in-Some.queue.now ≡ get_or c.args.queues.now k c.in-Some.queue.now) c.from.ensures at.1) in
    sym (ap (option_map (λ (queue : Queue). queue.state)) here)
