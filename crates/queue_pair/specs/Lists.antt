-- Each ring as a list, and the phases of the completion ring.
use Rattle.std.specs.Prelude.{◌≡◌, ℕ, ◌<◌, Bool, not, List, [], ◌∷◌, Option, Some, None, option_map, map, nat_le, nat_lt, if◌then◌else◌}
use Rattle.page_memory.specs.Memory.{Memory}
use Rattle.entry_codec.specs.declared.{completion.ComEntry.ComEntry, submission.SubEntry.SubEntry}
use Rattle.queue_pair.specs.{Memory.{entry_at, completion_at}, Rings.{HostSide, ControllerSide}, Slots.slots_between}

-- the submission entries in the slots from one position to another, in ring order
abbrev pub entries_between : Memory → ℕ → ℕ → ℕ → ℕ → List (Option SubEntry)
entries_between m sq n from to = map (entry_at m sq) (slots_between n from to)

-- the completions in the slots from one position to another, in ring order
abbrev pub completions_from : Memory → ℕ → ℕ → ℕ → ℕ → List (Option ComEntry)
completions_from m cq n from to = map (completion_at m cq) (slots_between n from to)

-- the entries that the host posted and the controller has not taken
abbrev pub unfetched : Memory → HostSide → ControllerSide → List (Option SubEntry)
unfetched m host controller = entries_between m controller.sq controller.entries controller.ring.head host.ring.tail

-- those of them that the doorbell announced
abbrev pub rung : Memory → ControllerSide → List (Option SubEntry)
rung m controller = entries_between m controller.sq controller.entries controller.ring.head controller.ring.bell

-- the completions that the controller posted and the host has not taken
abbrev pub posted_completions : Memory → HostSide → ControllerSide → List (Option ComEntry)
posted_completions m host controller = completions_from m controller.cq controller.entries host.ring.head controller.ring.tail

-- the first of a list of slots, where there is one whose page is in
abbrev pub front : {X : Type 0} → List (Option X) → Option X
front [] = None
front (x ∷ xs) = x

-- the phase of a slot of the completion ring: the controller's before its tail, and the other one from the tail
abbrev pub phase_of_slot : ℕ → Bool → ℕ → Bool
phase_of_slot tail phase slot = if nat_lt slot tail then phase else not phase

-- Each slot of the completion ring has its phase.
pub record PhasesStand (m : Memory) (cq n tail : ℕ) (phase : Bool) : Type 0 where
  pub stands : (slot : ℕ) → slot < n → option_map (λ entry. entry.phase) (completion_at m cq slot) ≡ Some (phase_of_slot tail phase slot)

abbrev pub HasPhases : Memory → ControllerSide → Type 0
HasPhases m controller = PhasesStand m controller.cq controller.entries controller.ring.tail controller.ring.phase

-- the phase that the host expects at its head: the controller's, until the controller's tail has wrapped and the head not
abbrev pub expected_phase : ℕ → ℕ → Bool → Bool
expected_phase head tail phase = if nat_le head tail then phase else not phase

-- The host expects the phase that the controller wrote, or is about to write, at the host's head.
abbrev pub AreTied : HostSide → ControllerSide → Type 0
AreTied host controller = host.ring.phase ≡ expected_phase host.ring.head controller.ring.tail controller.ring.phase

-- both sides speak of the same halves
pub record IsPair (host : HostSide) (controller : ControllerSide) : Type 0 where
  pub q : host.q ≡ controller.q
  pub entries : host.entries ≡ controller.entries
  pub sq : host.sq ≡ controller.sq
  pub cq : host.cq ≡ controller.cq
