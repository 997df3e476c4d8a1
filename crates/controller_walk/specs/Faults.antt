-- Which fault ends a walk, and at which descriptor. What a step finds wrong is looked up in the table of faults (`Units`), at the descriptor
-- that it takes or at the block that it moves; nothing here goes over a list.
use Rattle.std.specs.{Option.option_map, Prelude.{◌-◌, ◌&&◌, ◌∷◌, [], ℕ, Bool, false, not, List, Option, Some, None, if◌then◌else◌, nat_eq, is_some}}
use Rattle.entry_codec.specs.declared.status.Status.{Status}
use Rattle.page_memory.specs.Memory.{Memory, bytes_at}
use Rattle.sgl_descriptor.specs.{Spelling.descriptor_of, Targets.counted, declared.Descriptor.Descriptor}
use Rattle.sgl_descriptor.specs.declared.{Descriptor.TheVariants.{DataBlock, BitBucket, Segment, LastSegment}, Direction.Direction}
use Rattle.controller_walk.specs.{Units.{cause_status, first_cause, first_passing, first_part, next, entry_cursor}, declared.cause.DescriptorAt.DescriptorAt}
use Rattle.controller_walk.specs.declared.cause.FaultCause.{FaultCause}
use Rattle.controller_walk.specs.declared.cause.FaultCause.TheVariants.{TooManyDescriptors, UnreadableDescriptor, UnknownType, UnreadableData, ListTooShort}
use Rattle.controller_walk.specs.declared.{cause.WalkFault.WalkFault, cursor.Cursor.Cursor, progress.{Block.Block, State.State}}
use Rattle.controller_walk.specs.declared.{progress.State.TheVariants.{First, Next, Data, Over}, walk.{Walk.Walk, WalkState.WalkState}}
use Rattle.controller_walk.specs.declared.walk.WalkState.TheVariants.{More, End, Fault}

-- the list ends here, and bytes are still wanted
abbrev pub ends_short : Option Cursor → ℕ → Bool
ends_short None wanted = not (nat_eq wanted 0)
ends_short (Some c) wanted = false

-- A descriptor without fault that is done as soon as it is taken ends the list too early.
abbrev pub is_short : Direction → Cursor → ℕ → Descriptor → Bool
is_short dir c wanted (DataBlock addr len) = nat_eq len 0 && ends_short (next c) wanted
is_short dir c wanted (BitBucket len) = ends_short (next c) (wanted - counted dir (BitBucket len))
is_short dir c wanted (Segment addr len) = false
is_short dir c wanted (LastSegment addr len) = false

abbrev pub cause_if : Bool → FaultCause → Option FaultCause
cause_if applies cause = first_passing ((applies, cause) ∷ [])

abbrev pub cause_or : Option FaultCause → Option FaultCause → Option FaultCause
cause_or (Some cause) other = Some cause
cause_or None other = other

-- what is wrong with a descriptor whose bytes were read, or with the list that it ends
abbrev pub cause_taken : Direction → Cursor → ℕ → Option Descriptor → Option FaultCause
cause_taken dir c wanted None = Some UnknownType
cause_taken dir c wanted (Some d) = cause_or (first_cause c d) (cause_if (is_short dir c wanted d) ListTooShort)

abbrev pub cause_read : Direction → Cursor → ℕ → Option (List ℕ) → Option FaultCause
cause_read dir c wanted None = Some UnreadableDescriptor
cause_read dir c wanted (Some bytes) = cause_taken dir c wanted (descriptor_of bytes)

-- what is wrong at a descriptor's address, where the list may have this many more descriptors
abbrev pub cause_next : Memory → Direction → ℕ → Cursor → ℕ → Option FaultCause
cause_next m dir allowed c wanted = if nat_eq allowed 0 then Some TooManyDescriptors else cause_read dir c wanted (bytes_at m c.place 16)

-- what is wrong with the first part of a block, or with the list that it ends
abbrev pub cause_moved : Memory → Block → Option Cursor → ℕ → Option FaultCause
cause_moved m block after wanted =
    first_passing (
    (not (is_some (bytes_at m block.place (first_part block.place block.len))), UnreadableData)
    ∷ (nat_eq (first_part block.place block.len) block.len && ends_short after wanted, ListTooShort)
    ∷ [])

-- the descriptor that a walk took last, which is there
abbrev pub taken_last : Walk → Option ℕ → DescriptorAt
taken_last w place = record { number = 4096 - w.allowed; place = place }

-- the descriptor that a walk takes next
abbrev pub next_in : Walk → State → Option DescriptorAt
next_in w (First sgl1) = Some (taken_last w None)
next_in w (Next c) = Some (record { number = 4097 - w.allowed; place = Some c.place })
next_in w (Data block after) = None
next_in w (Over fault) = None

abbrev pub next_of : Walk → Option DescriptorAt
next_of w = next_in w w.state

-- the fault of that cause at a descriptor, if there is one
abbrev pub fault_at : DescriptorAt → Option FaultCause → Option WalkFault
fault_at place cause = option_map (λ (it : FaultCause). record { cause = it; at = place }) cause

abbrev pub fault_met_in : Memory → Walk → State → Option WalkFault
fault_met_in m w (First sgl1) = fault_at (taken_last w None) (cause_taken w.direction entry_cursor w.wanted (descriptor_of sgl1))
fault_met_in m w (Next c) = fault_at (record { number = 4097 - w.allowed; place = Some c.place }) (cause_next m w.direction w.allowed c w.wanted)
fault_met_in m w (Data block after) = fault_at (taken_last w block.descriptor) (cause_moved m block after w.wanted)
fault_met_in m w (Over fault) = None

-- THE FAULT that the next step of a walk meets in a memory, if it meets one
abbrev pub fault_met : Memory → Walk → Option WalkFault
fault_met m w = fault_met_in m w w.state

abbrev pub fault_in : State → Option WalkFault
fault_in (First sgl1) = None
fault_in (Next c) = None
fault_in (Data block after) = None
fault_in (Over fault) = fault

-- the fault that a walk has answered, if it has
abbrev pub fault_of : Walk → Option WalkFault
fault_of w = fault_in w.state

-- its status
abbrev pub fault_status : Option WalkFault → Option Status
fault_status fault = option_map (λ (f : WalkFault). cause_status f.cause) fault

-- the status of an answer that is a fault
abbrev pub answered_status : WalkState → Option Status
answered_status More = None
answered_status End = None
answered_status (Fault status) = Some status

-- How many bytes the descriptor that a step takes counts; none where it has a fault. More than are wanted are not counted.
abbrev pub counted_unless : Option FaultCause → ℕ → ℕ
counted_unless (Some cause) n = 0
counted_unless None n = n

abbrev pub counts_taken : Direction → Cursor → Option Descriptor → ℕ
counts_taken dir c None = 0
counts_taken dir c (Some d) = counted_unless (first_cause c d) (counted dir d)

abbrev pub counts_read : Direction → Cursor → Option (List ℕ) → ℕ
counts_read dir c None = 0
counts_read dir c (Some bytes) = counts_taken dir c (descriptor_of bytes)

abbrev pub counts_next : Memory → Direction → ℕ → Cursor → ℕ
counts_next m dir allowed c = if nat_eq allowed 0 then 0 else counts_read dir c (bytes_at m c.place 16)

abbrev pub counts_in : Memory → Walk → State → ℕ
counts_in m w (First sgl1) = counts_taken w.direction entry_cursor (descriptor_of sgl1)
counts_in m w (Next c) = counts_next m w.direction w.allowed c
counts_in m w (Data block after) = 0
counts_in m w (Over fault) = 0

abbrev pub counts_of : Memory → Walk → ℕ
counts_of m w = counts_in m w w.state
