-- A completion is posted.
use Rattle.std.specs.{Option.option_map_or, Prelude.{◌≡◌, ℕ, ◌++◌, ◌∷◌, [], Option, Some, None, List, slice_get, is_none, if◌then◌else◌}}
use Rattle.entry_codec.specs.{Completion.{completion_bytes, IsComEntry}, declared.{completion.ComEntry.ComEntry, status.Status.Status}}
use Rattle.entry_codec.specs.declared.hints.TheConstants.Hints.{NONE}
use Rattle.page_memory.specs.Memory.{Memory, written}
use Rattle.queue_pair.specs.{Memory.{completion_page, completion_place, completion_slot}, Rings.{ControllerSide, completion_posted}, Slots.is_full}
use Rattle.controller_core.specs.{Contents.change, Doorbells.with_side, declared.{queue.ControllerQueue.ControllerQueue, refusal.ControllerRefusal.ControllerRefusal}}
use Rattle.controller_core.specs.declared.refusal.ControllerRefusal.TheVariants as refusal

-- what a completion is refused for: the ring is full, or a byte of the slot at the tail is missing
abbrev pub post_refusal : Memory → ControllerSide → Option ControllerRefusal
post_refusal m controller =
    if is_full controller.entries controller.ring.known_head controller.ring.tail then Some refusal.Full
    else if is_none (completion_slot m controller.cq controller.ring.tail) then Some refusal.SlotOut
    else None

-- the same of a queue by its number
abbrev pub post_refusal_at : List ControllerQueue → Memory → ℕ → Option ControllerRefusal
post_refusal_at queues m q = option_map_or (λ queue. post_refusal m queue.controller) (slice_get queues q) None

-- the completion of a command, with the submission head and the phase of this moment
abbrev pub completion_by : ℕ → ℕ → Status → ℕ → ControllerSide → ComEntry
completion_by q cid st dw0 controller = record { dw0 = dw0; sqhd = controller.ring.head; sqid = q; cid = cid; phase = controller.ring.phase; status = st; hints = NONE }

-- the memory with a completion in the slot at the tail, the page of that slot, and the queue after it
abbrev pub memory_posted : Memory → ControllerSide → ComEntry → Memory
memory_posted m controller e = written m (completion_place controller.cq controller.ring.tail) (completion_bytes e)

abbrev pub page_posted : ControllerSide → ℕ
page_posted controller = completion_page controller.cq controller.ring.tail

abbrev pub with_posted : ControllerQueue → ControllerQueue
with_posted queue = with_side (record queue.controller { ring = completion_posted queue.controller.entries queue.controller.ring }) queue

-- A completion is posted for a command of a queue: what is left of the queues and of the memory, with the one page that is touched. The
-- completion's numbers are those of a value of its type, so its bytes tell it.
pub record Posts (queues : List ControllerQueue) (q cid : ℕ) (st : Status) (dw0 : ℕ) (m : Memory) (reached : List ℕ)
    (queues' : List ControllerQueue) (m' : Memory) (reached' : List ℕ) : Type 0 where
  pub queue : ControllerQueue
  pub here : slice_get queues q ≡ Some queue
  pub queues_posted : queues' ≡ change q with_posted queues
  pub typed : IsComEntry (completion_by q cid st dw0 queue.controller)
  pub memory : m' ≡ memory_posted m queue.controller (completion_by q cid st dw0 queue.controller)
  pub touches : reached' ≡ reached ++ page_posted queue.controller ∷ []
