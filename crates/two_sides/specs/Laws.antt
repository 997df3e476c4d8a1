-- That both sides together are the machine.
use Rattle.std.specs.Prelude.{◌≡◌, ◌≢◌, ℕ, Bool, true, false, List, Some, slice_get}
use Rattle.host_core.specs.Alone.{HostView, HostStep}
use Rattle.machine_model.specs.{Events.{Event, Reply}, State.HostQueue, Step.{Step, Permits, IsController}, declared.words.Refusal.Refusal}
use Rattle.page_memory.specs.Pages.{Pages}
use Rattle.controller_core.specs.{Doorbells.{with_side, with_tail, with_head}, declared.queue.ControllerQueue.ControllerQueue}
use Rattle.queue_pair.specs.{Rings.{hearing_tail, hearing_head}, Slots.next_slot}
use Rattle.two_sides.specs.{Hearing.heard, Sides.{Sides, state_of}, Ties.{AreSides, AreTied, ShareQueues, has_ring}}
use Rattle.machine_model.specs.Events as events

-- both sides after a call of the host
abbrev pub behind : Sides → Event → Reply → HostView → Pages → Sides
behind s e reply host pages = record s { host = host; pages = pages; controller = heard e reply host s.controller }

-- Whatever was forged: where both sides have the same number of queues, and each at the controller has its number, as many entries as the host's and
-- a side that fits them, a step of the host keeps it so.
abbrev pub hosts_share_queues : Type 0
hosts_share_queues =
    (s : Sides) (e : Event) (reply : Reply) (host : HostView) (pages : Pages)
    → IsController e ≡ false → HostStep s.host s.pages e reply host pages
    → ShareQueues s.host.entries 0 s.host.host.queues s.controller.queues
    → ShareQueues host.entries 0 host.host.queues (heard e reply host s.controller).queues

-- After a forged entry a step of the host is one of the machine.
abbrev pub forged_hosts_step : Type 0
forged_hosts_step =
    (s : Sides) (e : Event) (reply : Reply) (host : HostView) (pages : Pages)
    → s.trusted ≡ false → IsController e ≡ false → HostStep s.host s.pages e reply host pages
    → ShareQueues s.host.entries 0 s.host.host.queues s.controller.queues
    → Step (state_of s) e reply (state_of (behind s e reply host pages))

-- the calls that look at a completion ring: what they see there is the controller's, too
abbrev pub looks_at_completions : Event → Bool
looks_at_completions (events.Reap q) = true
looks_at_completions (events.Retire q) = true
looks_at_completions e = false

-- Whatever was forged or not, what the host answers to any other call is what the machine may answer.
abbrev pub hosts_answer : Type 0
hosts_answer =
    (s : Sides) (e : Event) (reply : Reply) (host : HostView) (pages : Pages)
    → IsController e ≡ false → looks_at_completions e ≡ false → HostStep s.host s.pages e reply host pages
    → Permits (state_of s) e reply

-- A refusal of such a call changes neither side, and is a step of the machine.
abbrev pub hosts_refuse : Type 0
hosts_refuse =
    (s : Sides) (e : Event) (why : Refusal) (touched : List ℕ) (host : HostView) (pages : Pages)
    → IsController e ≡ false → looks_at_completions e ≡ false → HostStep s.host s.pages e (events.Refused why touched) host pages
    → (behind s e (events.Refused why touched) host pages ≡ s) × Step (state_of s) e (events.Refused why touched) (state_of s)

-- Whatever was forged, the controller takes the tail that the host writes to a queue's doorbell.
abbrev pub tails_are_heard : Type 0
tails_are_heard =
    (s : Sides) (q : ℕ) (h : HostQueue) (c : ControllerQueue)
    → AreSides s → slice_get s.host.host.queues q ≡ Some h → slice_get s.controller.queues q ≡ Some c
    → with_tail h.ring.tail c ≡ with_side (record c.controller { ring = hearing_tail h.ring.tail c.controller.ring }) c

-- Where nothing was forged, and a completion waits in the completion ring of a queue that is in use, the controller takes the head after it.
abbrev pub heads_are_heard : Type 0
heads_are_heard =
    (s : Sides) (q : ℕ) (h : HostQueue) (c : ControllerQueue)
    → AreSides s → AreTied s → slice_get s.host.host.queues q ≡ Some h → slice_get s.controller.queues q ≡ Some c
    → has_ring h c ≡ true → h.ring.head ≢ c.controller.ring.tail
    → with_head (next_slot s.host.entries h.ring.head) c ≡ with_side (record c.controller { ring = hearing_head (next_slot s.host.entries h.ring.head) c.controller.ring }) c
