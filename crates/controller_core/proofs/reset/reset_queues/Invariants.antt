use Rattle.std.proofs.Common.{◌≡◌}
use Rattle.controller_core.proofs.ResetQueues.{first_reset}
use Rattle.controller_core.proofs.reset.reset_queues.Given as goal

abbrev pub invariant-loop-q : goal.invariant-loop-q
invariant-loop-q l = l.queues ≡ first_reset 0 l.q l.initial.queues
