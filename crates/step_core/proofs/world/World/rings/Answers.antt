use Rattle.std.proofs.Common.{◌∙◌, ap, sym}
use Rattle.step_core.{proofs.Looks.{told_past, told_there}, specs.World.{WorldContents, sides_of}}
use Rattle.step_core.proofs.world.World.rings.Goals as goal

pub returns-in_err-queue-clause-state : goal.returns-in_err-queue-clause-state
returns-in_err-queue-clause-state g c =
    (told_past (sides_of c.self.inside.host c.self.inside.controller c.self.inside.store.pages c.self.inside.trusted) c.args.self.now.state c.args.q c.from.result c.queues.result.now c.from_residual-in_err-queue.result c.self.invariant (ap (λ (w : WorldContents). w.state) c.self.view_is) c.queues.ensures c.from.ensures c.in_err-queue.ensures.lookup.3 c.from_residual-in_err-queue.ensures).state

pub returns-in_err-queue-clause-host : goal.returns-in_err-queue-clause-host
returns-in_err-queue-clause-host g c =
    (told_past (sides_of c.self.inside.host c.self.inside.controller c.self.inside.store.pages c.self.inside.trusted) c.args.self.now.state c.args.q c.from.result c.queues.result.now c.from_residual-in_err-queue.result c.self.invariant (ap (λ (w : WorldContents). w.state) c.self.view_is) c.queues.ensures c.from.ensures c.in_err-queue.ensures.lookup.3 c.from_residual-in_err-queue.ensures).host

pub returns-clause-halves : goal.returns-clause-halves
returns-clause-halves g c =
    (told_there (sides_of c.self.inside.host c.self.inside.controller c.self.inside.store.pages c.self.inside.trusted) c.args.self.now.state c.args.q c.from.result c.queues.result.now c.in_ok-queue.queue.now (record { state = c.in_ok-state.state; outstanding = c.outstanding.result; host = c.in_ok-host.host; submission = c.fetching.result; completion = c.posting.result }) c.self.invariant (ap (λ (w : WorldContents). w.state) c.self.view_is) c.queues.ensures c.from.ensures c.in_ok-queue.ensures.lookup.3.0 c.in_ok-queue.ensures.lookup.1
    (sym c.in_ok-state.was ∙ c.queue_state.ensures) (sym c.in_ok-host.was ∙ c.positions.ensures) c.fetching.ensures c.posting.ensures c.outstanding.ensures).halves

pub returns-clause-rung : goal.returns-clause-rung
returns-clause-rung g c =
    (told_there (sides_of c.self.inside.host c.self.inside.controller c.self.inside.store.pages c.self.inside.trusted) c.args.self.now.state c.args.q c.from.result c.queues.result.now c.in_ok-queue.queue.now (record { state = c.in_ok-state.state; outstanding = c.outstanding.result; host = c.in_ok-host.host; submission = c.fetching.result; completion = c.posting.result }) c.self.invariant (ap (λ (w : WorldContents). w.state) c.self.view_is) c.queues.ensures c.from.ensures c.in_ok-queue.ensures.lookup.3.0 c.in_ok-queue.ensures.lookup.1
    (sym c.in_ok-state.was ∙ c.queue_state.ensures) (sym c.in_ok-host.was ∙ c.positions.ensures) c.fetching.ensures c.posting.ensures c.outstanding.ensures).rung

pub returns-clause-fetching : goal.returns-clause-fetching
returns-clause-fetching g c =
    (told_there (sides_of c.self.inside.host c.self.inside.controller c.self.inside.store.pages c.self.inside.trusted) c.args.self.now.state c.args.q c.from.result c.queues.result.now c.in_ok-queue.queue.now (record { state = c.in_ok-state.state; outstanding = c.outstanding.result; host = c.in_ok-host.host; submission = c.fetching.result; completion = c.posting.result }) c.self.invariant (ap (λ (w : WorldContents). w.state) c.self.view_is) c.queues.ensures c.from.ensures c.in_ok-queue.ensures.lookup.3.0 c.in_ok-queue.ensures.lookup.1
    (sym c.in_ok-state.was ∙ c.queue_state.ensures) (sym c.in_ok-host.was ∙ c.positions.ensures) c.fetching.ensures c.posting.ensures c.outstanding.ensures).fetching

pub returns-clause-posting : goal.returns-clause-posting
returns-clause-posting g c =
    (told_there (sides_of c.self.inside.host c.self.inside.controller c.self.inside.store.pages c.self.inside.trusted) c.args.self.now.state c.args.q c.from.result c.queues.result.now c.in_ok-queue.queue.now (record { state = c.in_ok-state.state; outstanding = c.outstanding.result; host = c.in_ok-host.host; submission = c.fetching.result; completion = c.posting.result }) c.self.invariant (ap (λ (w : WorldContents). w.state) c.self.view_is) c.queues.ensures c.from.ensures c.in_ok-queue.ensures.lookup.3.0 c.in_ok-queue.ensures.lookup.1
    (sym c.in_ok-state.was ∙ c.queue_state.ensures) (sym c.in_ok-host.was ∙ c.positions.ensures) c.fetching.ensures c.posting.ensures c.outstanding.ensures).posting
