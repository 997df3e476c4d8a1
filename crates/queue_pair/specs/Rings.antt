-- What each side of a queue pair knows of its two rings.
use Rattle.std.specs.Prelude.{◌≡◌, ℕ, ◌+◌, ◌<◌, ◌≤◌, ◌==◌, Bool, true, false, not, List, length, replicate, if◌then◌else◌}
use Rattle.page_memory.specs.declared.page.Half.{Half, TheVariants.{Submission, Completion}}
use Rattle.queue_pair.specs.Slots.{next_slot}

-- the host: where it reads the completion ring and which phase a new entry has there; the submission head that it was
-- told last, and its submission tail
pub record HostRing : Type 0 where
  pub head : ℕ
  pub phase : Bool
  pub known_head : ℕ
  pub tail : ℕ

-- the controller: where it reads the submission ring, and the tail written to the doorbell; where it writes the completion ring, in
-- which phase, and the completion head written to the doorbell
pub record ControllerRing : Type 0 where
  pub head : ℕ
  pub bell : ℕ
  pub tail : ℕ
  pub phase : Bool
  pub known_head : ℕ

-- the host's side of queue q, with n entries in each ring: the first pages of the two halves, and which of the
-- identifiers 0 to n - 2 are claimed
pub record HostSide : Type 0 where
  pub q : ℕ
  pub entries : ℕ
  pub sq : ℕ
  pub cq : ℕ
  pub ring : HostRing
  pub claimed : List Bool

-- the first page of a half
abbrev pub first_page_of : Half → HostSide → ℕ
first_page_of Submission side = side.sq
first_page_of Completion side = side.cq

pub record ControllerSide : Type 0 where
  pub q : ℕ
  pub entries : ℕ
  pub sq : ℕ
  pub cq : ℕ
  pub ring : ControllerRing

-- and the same of the controller
abbrev pub first_page_at : Half → ControllerSide → ℕ
first_page_at Submission side = side.sq
first_page_at Completion side = side.cq

pub record IsHostSide (side : HostSide) : Type 0 where
  pub least : 2 ≤ side.entries
  pub most : side.entries ≤ 1024
  pub head : side.ring.head < side.entries
  pub known_head : side.ring.known_head < side.entries
  pub tail : side.ring.tail < side.entries
  pub identifiers : length side.claimed + 1 ≡ side.entries

pub record IsControllerSide (side : ControllerSide) : Type 0 where
  pub least : 2 ≤ side.entries
  pub most : side.entries ≤ 1024
  pub head : side.ring.head < side.entries
  pub bell : side.ring.bell < side.entries
  pub tail : side.ring.tail < side.entries
  pub known_head : side.ring.known_head < side.entries

-- both rings as they are opened
abbrev pub fresh_host_ring : HostRing
fresh_host_ring = record { head = 0; phase = true; known_head = 0; tail = 0 }

abbrev pub fresh_controller_ring : ControllerRing
fresh_controller_ring = record { head = 0; bell = 0; tail = 0; phase = true; known_head = 0 }

-- the phase after the move from a slot: it turns at the wrap
abbrev pub next_phase : ℕ → ℕ → Bool → Bool
next_phase n slot phase = if slot + 1 == n then not phase else phase

-- the host posted an entry
abbrev pub next_tail : ℕ → HostRing → HostRing
next_tail n ring = record ring { tail = next_slot n ring.tail }

-- the host took a completion
abbrev pub next_head : ℕ → HostRing → HostRing
next_head n ring = record ring { head = next_slot n ring.head; phase = next_phase n ring.head ring.phase }

-- the host was told the controller's submission head
abbrev pub knowing : ℕ → HostRing → HostRing
knowing head ring = record ring { known_head = head }

-- the controller saw the host's submission tail
abbrev pub hearing_tail : ℕ → ControllerRing → ControllerRing
hearing_tail tail ring = record ring { bell = tail }

-- the controller saw the host's completion head
abbrev pub hearing_head : ℕ → ControllerRing → ControllerRing
hearing_head head ring = record ring { known_head = head }

-- the controller took an entry
abbrev pub entry_taken : ℕ → ControllerRing → ControllerRing
entry_taken n ring = record ring { head = next_slot n ring.head }

-- the controller posted a completion
abbrev pub completion_posted : ℕ → ControllerRing → ControllerRing
completion_posted n ring = record ring { tail = next_slot n ring.tail; phase = next_phase n ring.tail ring.phase }

-- no identifier is claimed
abbrev pub none_claimed : ℕ → List Bool
none_claimed many = replicate many false
