-- The values that a host hands to the doorbells.
use Rattle.std.specs.{Option.option_map_or, Prelude.{ℕ, Bool, Option, None, false, slice_get, option_map, not}}
use Rattle.machine_model.specs.{Refusals.in_service, declared.words.Reaped.{Reaped, TheVariants.{Empty, Done, AdminDone, Rejected}}}
use Rattle.host_core.specs.{Alone.HostView, Rows.Queue}

-- no queue of a number is in service
abbrev pub lacks_submission : Option Queue → Bool
lacks_submission o = not (option_map_or (λ queue. in_service queue.state) o false)

-- the tail of a queue's submission ring, and the head of its completion ring
abbrev pub tail_of : HostView → ℕ → Option ℕ
tail_of v q = option_map (λ queue. queue.ring.tail) (slice_get v.host.queues q)

abbrev pub head_of : HostView → ℕ → Option ℕ
head_of v q = option_map (λ queue. queue.ring.head) (slice_get v.host.queues q)

-- the head to write to the doorbell after a reap: none where no completion was taken
abbrev pub head_rung : HostView → ℕ → Reaped → Option ℕ
head_rung v q Empty = None
head_rung v q (Done cid status) = head_of v q
head_rung v q (AdminDone cid status dw0) = head_of v q
head_rung v q (Rejected why) = head_of v q
