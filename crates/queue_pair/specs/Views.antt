-- What contracts see of each side.
use Rattle.std.specs.Prelude.{map, not}
use Rattle.queue_pair.specs.Rings.{HostSide, ControllerSide}
use Rattle.queue_pair.specs.declared.host.HostPair.TheInside as host
use Rattle.queue_pair.specs.declared.device.DevicePair.TheInside as controller

abbrev pub host_side : {A : Type 0} → host.Inside A → HostSide
host_side pair = record {
  q = pair.q;
  entries = pair.entries;
  sq = pair.sq;
  cq = pair.cq;
  ring = record { head = pair.head; phase = pair.phase; known_head = pair.known_head; tail = pair.tail };
  claimed = map not pair.free;
}

abbrev pub controller_side : controller.Inside → ControllerSide
controller_side pair = record {
  q = pair.q;
  entries = pair.entries;
  sq = pair.sq;
  cq = pair.cq;
  ring = record { head = pair.head; bell = pair.bell; tail = pair.tail; phase = pair.phase; known_head = pair.known_head };
}

abbrev pub controller_inside : ControllerSide → controller.Inside
controller_inside side = record {
  q = side.q;
  entries = side.entries;
  sq = side.sq;
  cq = side.cq;
  head = side.ring.head;
  bell = side.ring.bell;
  tail = side.ring.tail;
  phase = side.ring.phase;
  known_head = side.ring.known_head;
}
