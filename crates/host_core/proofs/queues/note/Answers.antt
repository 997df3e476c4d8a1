use Rattle.std.proofs.Common.{ap, sym, arith}
use Rattle.host_core.{proofs.Lists.{change-at, change-past}, specs.Reaping.with_state}
use Rattle.host_core.proofs.queues.note.Goals as goal

pub returns-then-from-queues : goal.returns-then-from-queues
returns-then-from-queues g c =
    change-at c.args.q c.from-then-from-queues.result (with_state c.args.state) c.args.queues.now c.index-queues-from.result _ c.from-then-from-queues.ensures (omega arith) c.index-queues-from.is
    (ap (with_state c.args.state) (sym c.index-queues-from.is))

pub returns-else-from-queues : goal.returns-else-from-queues
returns-else-from-queues g c = change-past c.args.q c.from.result (with_state c.args.state) c.args.queues.now c.from.ensures (omega arith)
