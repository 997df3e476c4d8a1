use Rattle.std.proofs.Common.{Bool, true, List, ap}
use Rattle.queue_pair.{proofs.Halves.claims-set, specs.Views.host_side}
use Rattle.queue_pair.proofs.host.HostPair.free.Goals as goal

pub returns : goal.returns
returns g c =
    rw (← c.self.view_is)
    (ap (λ (l : List Bool). record (host_side c.self.inside) { claimed = l }) (claims-set c.self.inside.free c.set.new.self c.args.cid true (rw c.from.ensures at c.set.ensures)))
