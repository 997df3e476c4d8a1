-- a look at a queue leaves the host as it was
use Rattle.std.proofs.Common.{◌≡◌}
use Rattle.shared.proofs.host.HostBenchMachine.can_reap.Given as goal

abbrev pub invariant-loop-q : goal.invariant-loop-q
invariant-loop-q g l = l.self ≡ l.fn.self
