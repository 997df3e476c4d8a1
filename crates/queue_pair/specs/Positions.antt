-- Where each side stands in its rings, as a look tells it.
use Rattle.queue_pair.specs.{Rings.{HostRing, ControllerRing}, declared.positions.{ControllerPositions.ControllerPositions, HostPositions.HostPositions}}

abbrev pub host_positions : HostRing → HostPositions
host_positions ring = record { submission_tail = ring.tail; submission_head = ring.known_head; completion_head = ring.head; phase = ring.phase }

abbrev pub controller_positions : ControllerRing → ControllerPositions
controller_positions ring =
    record { submission_head = ring.head; tail_doorbell = ring.bell; completion_tail = ring.tail; phase = ring.phase; head_doorbell = ring.known_head }
