use Rattle.std.proofs.Common.{◌++◌, ◌∷◌, [], length, List, ap, ap₂, sym, ◌∙◌, arith}
use Rattle.controller_core.{proofs.ResetQueues.{many_taken, queues-more}, specs.declared.queue.ControllerQueue.ControllerQueue}
use Rattle.controller_core.proofs.controller.open_queues.Goals as goal

pub push_reserved-requires : goal.push_reserved-requires
push_reserved-requires g c =
    omega (arith, ap length c.loop-i.invariant.queues, many_taken c.args.entries c.loop-i.i c.args.pages.now, c.loop-i.invariant.room, c.in_ok-queues.ensures.exact, c.loop-i-test.true)

pub loop-i-preserved : goal.loop-i-preserved
loop-i-preserved g c =
    record {
      queues = c.push_reserved.ensures.items
          ∙ ap₂ (λ (l : List ControllerQueue) (x : ControllerQueue). l ++ x ∷ []) c.loop-i.invariant.queues c.open_queue.ensures
          ∙ sym (queues-more c.args.entries c.loop-i.i c.args.pages.now c.index-pages-i.result c.loop-i-test.true c.index-pages-i.is);
      room = c.push_reserved.ensures.capacity ∙ c.loop-i.invariant.room;
    }
