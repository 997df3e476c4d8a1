use Rattle.std.proofs.Common.{ap}
use Rattle.queue_pair.specs.Rings.{HostSide}
use Rattle.host_core.specs.Rows.{Queue}
use Rattle.host_core.proofs.reset.reset_admin.Goals as goal

pub returns : goal.returns
returns g c = let queue : Queue = c.args.queue.now in ap (λ (side : HostSide). record queue { host = side }) c.restart.ensures.restarted
