use Rattle.controller_core.{proofs.{Counting.outstanding, Lists.swept}, specs.{Looks.name_at, Managing.stopped_with_queue, Tables.count_of}}
use Rattle.std.proofs.Common.{◌≡◌, drop}
use Rattle.controller_core.proofs.commands.Commands.stop_queue.Given as goal

abbrev pub invariant-loop : goal.invariant-loop
invariant-loop g l =
    (l.self ≡ outstanding l.fn.self.queues (swept (stopped_with_queue l.deleted) l.counter l.fn.self.list))
    × (l.place ≡ name_at l.fn.self.list l.counter)
    × (l.left ≡ count_of (drop l.counter l.fn.self.list) l.deleted)
