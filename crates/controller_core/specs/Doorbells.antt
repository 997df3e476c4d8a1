-- The doorbells: a value outside its range is ignored.
use Rattle.std.specs.Prelude.{ℕ, nat_lt, if◌then◌else◌}
use Rattle.queue_pair.specs.{Rings.{ControllerSide, hearing_tail, hearing_head}, Slots.is_in_range}
use Rattle.controller_core.specs.{Contents.{Contents, change}, declared.queue.ControllerQueue.ControllerQueue}

abbrev pub with_side : ControllerSide → ControllerQueue → ControllerQueue
with_side controller queue = record queue { controller = controller }

-- a tail is a slot
abbrev pub with_tail : ℕ → ControllerQueue → ControllerQueue
with_tail v queue =
    if nat_lt v queue.controller.entries then with_side (record queue.controller { ring = hearing_tail v queue.controller.ring }) queue else queue

-- a head lies from the one that was taken last to the tail, in ring order
abbrev pub with_head : ℕ → ControllerQueue → ControllerQueue
with_head v queue =
    if is_in_range queue.controller.entries queue.controller.ring.known_head queue.controller.ring.tail v
    then with_side (record queue.controller { ring = hearing_head v queue.controller.ring }) queue else queue

abbrev pub tail_rung : ℕ → ℕ → Contents → Contents
tail_rung q v c = record c { queues = change q (with_tail v) c.queues }

abbrev pub head_rung : ℕ → ℕ → Contents → Contents
head_rung q v c = record c { queues = change q (with_head v) c.queues }
