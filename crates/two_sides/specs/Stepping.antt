-- Each call of one side, with what the other sees of it, is a step of the machine, and leaves both tied as they were.
use Rattle.std.specs.{Option.option_map, Prelude.{◌≡◌, ◌≢◌, ℕ, Some, None, true, false, List, [], Result, length, is_some, slice_get}}
use Rattle.controller_core.specs.{Completing.complete_refusal, Contents.{Contents, IsController}, Fetching.{Fetches, fetch_refusal}}
use Rattle.controller_core.specs.{Resetting.reset as controller_reset, Walking.walk_refusal}
use Rattle.controller_walk.specs.declared.walk.WalkState.{WalkState}
use Rattle.host_core.specs.{Alone.{HostView, HostStep, IsOver, alone}, Resetting.{host_reset, pages_reset}}
use Rattle.machine_model.specs.{Events.{Event, Reply}, Refusals.{refusal_of, seen_entry, is_reaped}, State.HostQueue, Step.{Step, forges}}
use Rattle.page_memory.specs.{Memory.written, Pages.{Pages, byte_at, AreWhole}}
use Rattle.queue_pair.specs.Memory.{completion_place, completion_slot}
use Rattle.two_sides.specs.{Laws.behind, Serving.{Walks, Completes, why_of, fetch_reply, walk_reply, complete_reply}, Sides.{Sides, state_of}}
use Rattle.two_sides.specs.Ties.{IsWorld, first_completion_page}
use Rattle.controller_core.specs.declared.refusal.ControllerRefusal.{ControllerRefusal}
use Rattle.machine_model.specs.Events as events
use Rattle.machine_model.specs.Step as machine

-- A step of the machine, after which both sides are tied as a world's are.
abbrev pub StepsTo : Sides → Event → Reply → Sides → Type 0
StepsTo s e reply new = Step (state_of s) e reply (state_of new) × IsWorld new

-- The host's calls
abbrev pub hosts_step : Type 0
hosts_step =
    (s : Sides) (e : Event) (reply : Reply) (host : HostView) (pages : Pages)
    → IsWorld s → machine.IsController e ≡ false → forges e ≡ false → HostStep s.host s.pages e reply host pages → IsOver host pages
    → StepsTo s e reply (behind s e reply host pages)

-- the host finds a completion at the head of a queue that is reaped exactly where the machine has one
abbrev pub completions_are_seen : Type 0
completions_are_seen =
    (s : Sides) (q : ℕ) (h : HostQueue) → IsWorld s → slice_get s.host.host.queues q ≡ Some h → is_reaped h.state ≡ true
    → is_some (seen_entry (alone s.host s.pages) q) ≡ is_some (seen_entry (state_of s) q)

-- A call of the controller leaves as many pages, and those that are in whole.
pub record LeavesPages (old new : Pages) : Type 0 where
  pub whole : AreWhole new
  pub count : length new ≡ length old

-- both sides after a call of the controller
abbrev pub served : Sides → Contents → Pages → Sides
served s c pages = record s { controller = c; pages = pages }

abbrev pub fetches_step : Type 0
fetches_step =
    (s : Sides) (q : ℕ) (result : Result ℕ ControllerRefusal) (c : Contents) (pages : Pages) (touched : List ℕ)
    → IsWorld s → IsController c → LeavesPages s.pages pages → Fetches s.controller (length s.pages) (byte_at s.pages) [] q result c (byte_at pages) touched
    → StepsTo s (events.Fetch q) (fetch_reply result touched) (served s c pages)

abbrev pub walks_step : Type 0
walks_step =
    (s : Sides) (q cid : ℕ) (result : Result WalkState ControllerRefusal) (c : Contents) (pages : Pages) (touched : List ℕ)
    → IsWorld s → IsController c → LeavesPages s.pages pages → Walks s.controller (byte_at s.pages) [] q cid result c (byte_at pages) touched
    → StepsTo s (events.Walk q cid) (walk_reply result touched) (served s c pages)

abbrev pub completes_step : Type 0
completes_step =
    (s : Sides) (q cid : ℕ) (result : Result (Unit {0}) ControllerRefusal) (c : Contents) (pages : Pages) (touched : List ℕ)
    → IsWorld s → IsController c → LeavesPages s.pages pages → Completes s.controller (byte_at s.pages) [] q cid result c (byte_at pages) touched
    → StepsTo s (events.Complete q cid) (complete_reply result touched) (served s c pages)

-- Where nothing was forged, the controller refuses what the machine does.
abbrev pub fetches_refuse_alike : Type 0
fetches_refuse_alike =
    (s : Sides) (q : ℕ) → IsWorld s → s.trusted ≡ true
    → refusal_of (state_of s) (events.Fetch q) ≡ option_map why_of (fetch_refusal s.controller (byte_at s.pages) q)

abbrev pub walks_refuse_alike : Type 0
walks_refuse_alike =
    (s : Sides) (q cid : ℕ) → IsWorld s → s.trusted ≡ true
    → refusal_of (state_of s) (events.Walk q cid) ≡ option_map why_of (walk_refusal s.controller q cid)

abbrev pub completes_refuse_alike : Type 0
completes_refuse_alike =
    (s : Sides) (q cid : ℕ) → IsWorld s → s.trusted ≡ true
    → refusal_of (state_of s) (events.Complete q cid) ≡ option_map why_of (complete_refusal s.controller (byte_at s.pages) q cid)

-- A forged entry: any bytes in a completion slot. Nothing is trusted from then on, until a reset.
abbrev pub forged : Sides → Pages → Sides
forged s pages = record s { pages = pages; trusted = false }

-- a slot of a completion ring that the host reaps is in, where the host has it
abbrev pub completion_slots_are_in : Type 0
completion_slots_are_in =
    (s : Sides) (q slot : ℕ) (bytes : List ℕ) (h : HostQueue) → IsWorld s → refusal_of (state_of s) (events.Forge q slot bytes) ≡ None
    → slice_get s.host.host.queues q ≡ Some h → completion_slot (byte_at s.pages) (first_completion_page h) slot ≢ None

abbrev pub forged_entries_step : Type 0
forged_entries_step =
    (s : Sides) (q slot : ℕ) (bytes : List ℕ) (h : HostQueue) (pages : Pages)
    → IsWorld s → length bytes ≡ 16 → refusal_of (state_of s) (events.Forge q slot bytes) ≡ None → slice_get s.host.host.queues q ≡ Some h
    → LeavesPages s.pages pages → byte_at pages ≡ written (byte_at s.pages) (completion_place (first_completion_page h) slot) bytes
    → StepsTo s (events.Forge q slot bytes) events.Accepted (forged s pages)

-- A reset: the host's call and the controller's, over the same pages. From then on the machine is trusted.
abbrev pub reset_sides : Sides → Sides
reset_sides s =
    record {
      host = host_reset s.host s.pages;
      controller = controller_reset s.controller;
      pages = pages_reset s.host s.pages;
      trusted = true;
    }

-- Whatever was forged before, it is a step of the machine, and ties both sides.
abbrev pub resets_step : Type 0
resets_step =
    (s : Sides) → IsWorld s → IsController (controller_reset s.controller) → IsOver (host_reset s.host s.pages) (pages_reset s.host s.pages)
    → StepsTo s events.Reset events.Accepted (reset_sides s)
