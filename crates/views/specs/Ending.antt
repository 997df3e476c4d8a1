-- How the walk over a list ends, by the list alone: for memories in which nobody but the list writes, and whose list writes none of its descriptors.
use Rattle.std.specs.Prelude.{◌≡◌, ◌≤◌, ℕ, suc, Bool, true, false, List, Option, Some, None, length}
use Rattle.controller_walk.specs.{Faults.{fault_met, fault_of, fault_status, answered_status}, Laws.{Agree, StandsAfter}}
use Rattle.controller_walk.specs.{Units.{Course, cause_status, course_of_list, units, verdict}, declared.{cause.WalkFault.WalkFault, walk.Walk.Walk}}
use Rattle.entry_codec.specs.declared.{status.Status.Status, submission.SubEntry.SubEntry}
use Rattle.io_commands.specs.Jobs.{direction_of_entry, kind_of_opcode}
use Rattle.page_memory.specs.Memory.{Memory}
use Rattle.views.specs.Stored.{bytes_moved, status_by}
use Rattle.io_commands.specs.declared.block_size.BlockSize.{BlockSize}

-- the list of an entry whose blocks have this size
abbrev pub list_of : BlockSize → Memory → SubEntry → Course
list_of size m e = course_of_list m e.sgl1 (direction_of_entry e) (bytes_moved size e)

-- A walk has done some units of a list; the memory is that of the list, but for bytes which that has moved.
pub record Goes (at : ℕ → Bool) (m : Memory) (c : Course) (w : Walk) (now : Memory) : Type 0 where
  pub unit : ℕ
  pub agrees : Agree at m now
  pub stands : StandsAfter at m unit c w

-- The fault with which a list ends, if it ends with one: its status is that of the list's verdict, and a walk that had the last unit to do met it.
pub record Ends (at : ℕ → Bool) (m : Memory) (c : Course) (fault : Option WalkFault) : Type 0 where
  pub status : fault_status fault ≡ answered_status (verdict c)
  pub last : Walk
  pub now : Memory
  pub going : Goes at m c last now
  pub last_unit : length (units c) ≤ suc going.unit
  pub met : fault ≡ fault_met now last

abbrev pub WalkedTo : Bool → (ℕ → Bool) → Memory → Course → Walk → Memory → Type 0
WalkedTo true at m c w now = Ends at m c (fault_of w)
WalkedTo false at m c w now = Goes at m c w now

-- how a command ends whose list was walked, by what is in its blocks, with the bytes that it then has
abbrev pub ends_with : List ℕ → SubEntry → List ℕ → Option WalkFault → Status
ends_with stored e bytes (Some fault) = cause_status fault.cause
ends_with stored e bytes None = status_by stored bytes (kind_of_opcode e.opcode)
