-- The descriptor is read before the step, and that changes no byte.
use Rattle.std.proofs.Common.{◌≡◌, sym, subst}
use Rattle.controller_walk.specs.Walks.{is_over}
use Rattle.views.{proofs.{Fetched.step_fetches, Telling.{tells_on, steps_on}}, specs.{Ending.Goes, Fetched.Fetches, Taking.{TellsTaken, ToldTo, taken_next, with_next}}}
use Rattle.page_memory.specs.Memory.{Memory}
use Rattle.views.proofs.explain.list.step.Goals as goal

pub returns-clause-walked : goal.returns-clause-walked
returns-clause-walked g c at m list apart goes =
    let same : g.D.Dma.memory c.next_taken-next.new.dma ≡ g.D.Dma.memory c.args.dma.now = c.next_taken-next.ensures.memory in
    let goes' : Goes at m list c.args.walk.now (g.D.Dma.memory c.next_taken-next.new.dma) =
    subst (λ (x : Memory). Goes at m list c.args.walk.now x) (sym same) goes in
    steps_on at m list c.args.walk.now c.step.new.self c.step.result _ _ _ _ _ _ apart goes' c.step.ensures.does c.step.ensures.leaves
    c.step.ensures.over c.step.ensures.fault c.step.ensures.status

pub returns-clause-tells : goal.returns-clause-tells
returns-clause-tells g c at m list told apart tells =
    let same : g.D.Dma.memory c.next_taken-next.new.dma ≡ g.D.Dma.memory c.args.dma.now = c.next_taken-next.ensures.memory in
    let tells' : TellsTaken at m c.args.sgl1.now list told c.args.walk.now (g.D.Dma.memory c.next_taken-next.new.dma) =
    subst (λ (x : Memory). TellsTaken at m c.args.sgl1.now list told c.args.walk.now x) (sym same) tells in
    subst (λ (x : Memory). ToldTo (is_over c.step.new.self) at m c.args.sgl1.now list (with_next told (taken_next x c.args.sgl1.now c.args.walk.now)) c.step.new.self (g.D.Dma.memory c.step.new.dma)) same
    (tells_on at m c.args.sgl1.now list told c.args.walk.now c.step.new.self c.step.result _ _ _ _ _ _ c.next_taken-next.ensures.reads apart tells' c.step.ensures.does
    c.step.ensures.leaves c.step.ensures.over)

pub returns-clause-fetches : goal.returns-clause-fetches
returns-clause-fetches g c =
    let same : g.D.Dma.memory c.next_taken-next.new.dma ≡ g.D.Dma.memory c.args.dma.now = c.next_taken-next.ensures.memory in
    subst (λ (x : Memory). Fetches c.args.walk.now c.step.new.self x (g.D.Dma.memory c.step.new.dma) c.args.staging.now c.step.new.staging) same
    (step_fetches c.args.walk.now c.step.new.self c.step.result _ _ _ _ _ _ c.step.ensures.does c.step.ensures.leaves c.step.ensures.over)
