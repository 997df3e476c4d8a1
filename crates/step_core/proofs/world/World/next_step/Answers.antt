use Rattle.std.proofs.Common.{◌≡◌, ◌∙◌, ap, ℕ, ◌<◌, subst, sym, refl, length, arith, ◌+◌, ◌*◌, ◌≤◌}
use Rattle.page_memory.{proofs.Bytes.told, specs.{Memory.Memory, Pages.{Pages, byte_at}}}
use Rattle.two_sides.specs.{Sides.state_of, Ties.IsWorld}
use Rattle.step_core.{proofs.Looks.{possible, rests, as_many, looks_at, looked_few, cleared_more}, specs.World.{WorldContents, sides_of}}
use Rattle.controller_core.specs.Looks.{looked}
use Rattle.step_core.proofs.world.World.next_step.Goals as goal

pub invariant_of-self : goal.invariant_of-self
invariant_of-self g c =
    subst (λ (pages : Pages). IsWorld (sides_of c.self.inside.host c.self.inside.controller pages c.self.inside.trusted))
    (sym (told c.next_step-step.new.dma.pages c.self.inside.store.pages c.pages.ensures.whole c.self.invariant.sides.over.pool.whole c.next_step-step.ensures.pool (λ place. ap (λ (m : Memory). m place) c.next_step-step.ensures.memory)))
    c.self.invariant

pub returns-clause-possible : goal.returns-clause-possible
returns-clause-possible g c =
    possible (sides_of c.self.inside.host c.self.inside.controller c.self.inside.store.pages c.self.inside.trusted) c.args.self.now.state c.next_step-step.result (ap (λ (w : WorldContents). w.state) c.self.view_is) c.self.invariant c.next_step-step.ensures.possible

pub returns-clause-rest : goal.returns-clause-rest
returns-clause-rest g c =
    rests (sides_of c.self.inside.host c.self.inside.controller c.self.inside.store.pages c.self.inside.trusted) c.args.self.now.state c.next_step-step.result (ap (λ (w : WorldContents). w.state) c.self.view_is) c.self.invariant
    (subst (λ (n : ℕ). n < 65536) c.queue_count.ensures c.queue_count.type_inv) c.next_step-step.ensures.rest

pub returns-clause-same : goal.returns-clause-same
returns-clause-same g c =
    ap (λ (pages : Pages). state_of (sides_of c.self.inside.host c.self.inside.controller pages c.self.inside.trusted))
    (told c.next_step-step.new.dma.pages c.self.inside.store.pages c.pages.ensures.whole c.self.invariant.sides.over.pool.whole c.next_step-step.ensures.pool (λ place. ap (λ (m : Memory). m place) c.next_step-step.ensures.memory))
    ∙ (ap (λ (w : WorldContents). w.state) c.self.view_is)

pub returns-clause-looks : goal.returns-clause-looks
returns-clause-looks g c =
    let pages = looked c.self.inside.controller (byte_at c.self.inside.store.pages) c.next_step-step.result in
    let many : length c.self.inside.controller.queues ≡ length c.self.inside.host.host.queues = as_many c.self.inside.host.entries 0 c.self.inside.host.host.queues c.self.inside.controller.queues c.self.invariant.sides.queues in
    let same : length c.self.inside.host.host.queues ≡ length c.args.self.now.state.host.queues = ap (λ (w : WorldContents). length w.state.host.queues) c.self.view_is in
    let few : pages ≤ 2 * length c.args.self.now.state.host.queues + 1 = omega (arith, many, same, looked_few c.self.inside.controller (byte_at c.self.inside.store.pages) c.next_step-step.result) in
    looks_at (2 * length c.args.self.now.state.host.queues + 1) c.args.self.now.touches _ c.self.inside.store.unlisted c.next_step-step.new.dma.unlisted pages c.self.inside.store.touched c.next_step-step.new.dma.touched few
    (ap (λ (w : WorldContents). w.touches) c.self.view_is) refl
    (cleared_more _ _ _ _ _ c.next_step-step.ensures.touches c.next_step-step.ensures.cleared)
