-- Where the host stands in its rings.
use Rattle.std.specs.{List.AllByRecursion, Prelude.{ℕ, ◌<◌}}
use Rattle.queue_pair.specs.Rings.{HostRing}
use Rattle.machine_model.specs.State.{State}

pub record IsInRing (n : ℕ) (ring : HostRing) : Type 0 where
  pub head : ring.head < n
  pub known_head : ring.known_head < n
  pub tail : ring.tail < n

-- every position of the host is a slot of its ring
abbrev pub StandsInRings : State → Type 0
StandsInRings s = AllByRecursion (λ queue. IsInRing s.entries queue.ring) s.host.queues
