use Rattle.std.proofs.Common.{ap, arith}
use Rattle.queue_pair.specs.Rings.{ControllerSide}
use Rattle.controller_core.{proofs.Lists.change_at, specs.{Doorbells.with_side, Managing.with_taken}}
use Rattle.controller_core.proofs.fetch.take_entry.Goals as goal

pub returns : goal.returns
returns g c =
    change_at c.args.q c.from.result with_taken c.args.queues.now.items c.index_mut.result.now _ c.from.ensures (omega (arith, c.from.ensures, c.requires.there)) c.index_mut.ensures.value
    (ap (λ (controller : ControllerSide). with_side controller c.index_mut.result.now) c.take.ensures.taken)
