use Rattle.std.proofs.Common.{sym}
use Rattle.queue_pair.proofs.Halves.{lowest_free, none_free}
use Rattle.queue_pair.proofs.host.HostPair.unclaimed.Goals as goal

pub returns-in_err-cid : goal.returns-in_err-cid
returns-in_err-cid g c = rw (c.from_residual.ensures, ← c.self.view_is) (record { lowest = sym (none_free c.self.inside.free c.in_err-cid.ensures.lowest) })

pub returns : goal.returns
returns g c = rw (← c.self.view_is) (record { lowest = sym (lowest_free c.self.inside.free c.in_ok-cid.cid c.in_ok-cid.ensures.lowest) })
