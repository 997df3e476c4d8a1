-- What a call of the host makes of the controller: a doorbell may be rung.
use Rattle.std.specs.Option.{option_map_or}
use Rattle.controller_core.specs.Contents.{Contents}
use Rattle.host_core.specs.{Alone.HostView, Ringing.{tail_of, head_rung}}
use Rattle.machine_model.specs.Events.{Event, Reply}
use Rattle.controller_core.specs.Doorbells as controller
use Rattle.machine_model.specs.Events as events

-- The tail doorbell is rung by its call, and the head doorbell by a reap that took a completion; nothing else rings one.
abbrev pub heard : Event → Reply → HostView → Contents → Contents
heard e (events.Refused why touched) v c = c
heard (events.Ring q) events.Accepted v c = option_map_or (λ tail. controller.tail_rung q tail c) (tail_of v q) c
heard (events.Reap q) (events.Reaps what) v c = option_map_or (λ head. controller.head_rung q head c) (head_rung v q what) c
heard e reply v c = c
