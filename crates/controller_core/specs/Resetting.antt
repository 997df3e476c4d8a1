-- A controller as a controller reset leaves it.
use Rattle.std.specs.Prelude.{◌≡◌, ℕ, zero, suc, ◌==◌, true, false, Some, List, [], ◌∷◌}
use Rattle.admin_commands.specs.declared.SqState.TheVariants.{Absent, Live}
use Rattle.page_memory.specs.Memory.{Memory}
use Rattle.queue_pair.specs.Rings.{fresh_controller_ring}
use Rattle.controller_core.specs.{Completing.complete_refusal, Contents.Contents, Doorbells.{head_rung, tail_rung}, Fetching.fetch_refusal}
use Rattle.controller_core.specs.{Walking.walk_refusal, declared.queue.ControllerQueue.ControllerQueue}
use Rattle.controller_core.specs.declared.refusal.ControllerRefusal.TheVariants as refusal

-- the queue of a number: queue 0 is live, and no other queue is there; both rings are as they are opened, over the halves that they have
abbrev pub queue_reset : ℕ → ControllerQueue → ControllerQueue
queue_reset zero queue = record { state = Live; cq_there = true; controller = record queue.controller { ring = fresh_controller_ring } }
queue_reset (suc q) queue = record { state = Absent; cq_there = false; controller = record queue.controller { ring = fresh_controller_ring } }

-- queues that are numbered from q on
abbrev pub queues_reset : ℕ → List ControllerQueue → List ControllerQueue
queues_reset q [] = []
queues_reset q (queue ∷ queues) = queue_reset q queue ∷ queues_reset (suc q) queues

-- no command is left, and the image is as it was
abbrev pub reset : Contents → Contents
reset c = record { queues = queues_reset 0 c.queues; commands = []; image = c.image }

-- Nothing is fetched, and there is no command of any name, whatever the memory holds.
pub record IsQuiet (c : Contents) : Type 0 where
  pub fetches : (m : Memory) (q : ℕ) → fetch_refusal c m q ≡ Some refusal.Idle
  pub walks : (q cid : ℕ) → walk_refusal c q cid ≡ Some refusal.NoJob
  pub completes : (m : Memory) (q cid : ℕ) → complete_refusal c m q cid ≡ Some refusal.NoJob

-- So it is after a reset, whatever the controller was, and a write of a head doorbell then changes nothing of that.
abbrev pub ResetIsQuiet : Type 0
ResetIsQuiet = (c : Contents) → IsQuiet (reset c)

abbrev pub QuietUntilTail : Type 0
QuietUntilTail = (c : Contents) (q v : ℕ) → IsQuiet (head_rung q v (reset c))

-- An I/O queue waits for its creation: a tail that is rung, there or at any other queue, is of no use to it.
abbrev pub IdleUntilCreated : Type 0
IdleUntilCreated = (c : Contents) (m : Memory) (q r v : ℕ) → (q == 0) ≡ false → fetch_refusal (tail_rung r v (reset c)) m q ≡ Some refusal.Idle

-- The image is as it was, and a second reset changes nothing.
abbrev pub ResetKeepsImage : Type 0
ResetKeepsImage = (c : Contents) → (reset c).image ≡ c.image

abbrev pub ResetOnce : Type 0
ResetOnce = (c : Contents) → reset (reset c) ≡ reset c
