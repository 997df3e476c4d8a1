use Rattle.std.proofs.Common.{◌-◌, not, map, ap, ◌∙◌}
use Rattle.queue_pair.proofs.Halves.{claims-none}
use Rattle.queue_pair.proofs.host.HostPair.open.Goals as goal

pub returns-clause-unclaimed : goal.returns-clause-unclaimed
returns-clause-unclaimed g c = ap (map not) (rw c.from.ensures at c.in_ok-free.ensures) ∙ claims-none (c.args.entries - 1)
