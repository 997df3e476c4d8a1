-- What each step of a walk does, and how the walk ends (NVM Express Base Specification 2.0, "Scatter Gather List (SGL)", section 4.1.2).
use Rattle.std.specs.Option.{option_map}
use Rattle.std.specs.Prelude.{◌+◌, ◌-◌, ◌/◌, ◌%◌, ◌^◌, ◌&&◌, ◌||◌, ◌∷◌, [], ℕ, Bool, true, false, not, List, Option, Some, None, if◌then◌else◌, nat_eq, nat_le, nat_lt, zero, suc, min, is_some}
use Rattle.entry_codec.specs.declared.status.Status.{Status}
use Rattle.entry_codec.specs.declared.status.TheConstants.Status.{DATA_TRANSFER_ERROR, INVALID_SGL_SEGMENT, INVALID_SGL_COUNT, DATA_SGL_LENGTH_INVALID, SGL_TYPE_INVALID}
use Rattle.page_memory.specs.Memory.{Memory, bytes_at, pages_reached}
use Rattle.sgl_descriptor.specs.{Spelling.{descriptor_of, is_link}, Targets.counted, declared.Descriptor.Descriptor}
use Rattle.sgl_descriptor.specs.declared.{Descriptor.TheVariants.{DataBlock, BitBucket, Segment, LastSegment}, Direction.Direction}
use Rattle.controller_walk.specs.declared.cause.FaultCause.{FaultCause}
use Rattle.controller_walk.specs.declared.cause.FaultCause.TheVariants.{TooManyDescriptors, UnreadableDescriptor, UnknownType, LinkInLastSegment, LinkNotLast, MalformedLink, MissingLink, PastEndOfAddresses, UnreadableData, ListTooShort}
use Rattle.controller_walk.specs.declared.{cursor.{Cursor.Cursor, Named.{Named, TheVariants.{Unnamed, BySegment, ByLastSegment}}}, walk.WalkState.WalkState}
use Rattle.controller_walk.specs.declared.walk.WalkState.TheVariants.{End, Fault}

-- A unit, which one step does: it reaches no memory, or reads the descriptor at an address, or moves this many bytes
-- between an address and the command's bytes starting at an offset.
pub data Act : Type 0 where
  Stays : Act
  Reads : ℕ → Act
  Moves : ℕ → ℕ → ℕ → Act

-- the pages that a unit touches, in order
abbrev pub touched : Act → List ℕ
touched Stays = []
touched (Reads place) = pages_reached place 16
touched (Moves place n offset) = pages_reached place n

-- the course of a walk: its units, and then its verdict
pub data Course : Type 0 where
  Closes : WalkState → Course
  Does : Act → Course → Course

-- THE TABLE OF FAULTS. At each descriptor, in list order, the first of these that applies:
--   it is the 4,097th descriptor of the list, the entry's being the first    Invalid Number of SGL Descriptors   `from_place`
--   one of its bytes is unreadable                                           Data Transfer Error                 `read_at`
--   its type is above 3, or its subtype is not 0                             SGL Descriptor Type Invalid         `after_read`
--   the rows of `first_cause`, in their order
--   a byte of its data is unreadable                                         Data Transfer Error                 `moving`
-- The list is over as soon as all bytes that the command moves are counted: what comes after is no fault. At the end of
-- a list with bytes still wanted: Data SGL Length Invalid (`behind`).

-- the status of each fault
abbrev pub cause_status : FaultCause → Status
cause_status TooManyDescriptors = INVALID_SGL_COUNT
cause_status UnreadableDescriptor = DATA_TRANSFER_ERROR
cause_status UnknownType = SGL_TYPE_INVALID
cause_status LinkInLastSegment = INVALID_SGL_SEGMENT
cause_status LinkNotLast = INVALID_SGL_COUNT
cause_status MalformedLink = INVALID_SGL_SEGMENT
cause_status MissingLink = INVALID_SGL_SEGMENT
cause_status PastEndOfAddresses = DATA_SGL_LENGTH_INVALID
cause_status UnreadableData = DATA_TRANSFER_ERROR
cause_status ListTooShort = DATA_SGL_LENGTH_INVALID

-- a row of the table: whether it applies, and which fault it is
abbrev pub Row : Type 0
Row = Bool × FaultCause

-- what is in the first row that applies
abbrev pub first_passing : {A : Type 0} → List (Bool × A) → Option A
first_passing [] = None
first_passing (row ∷ rows) = if row.0 then Some row.1 else first_passing rows

-- what names a segment: a Last Segment descriptor, or a Segment descriptor
abbrev pub named_last : Named → Bool
named_last Unnamed = false
named_last BySegment = false
named_last ByLastSegment = true

abbrev pub named_on : Named → Bool
named_on Unnamed = false
named_on BySegment = true
named_on ByLastSegment = false

-- the address of a descriptor, none for a Bit Bucket, and its length
abbrev pub address : Descriptor → ℕ
address (DataBlock addr len) = addr
address (BitBucket len) = 0
address (Segment addr len) = addr
address (LastSegment addr len) = addr

abbrev pub size : Descriptor → ℕ
size (DataBlock addr len) = len
size (BitBucket len) = len
size (Segment addr len) = len
size (LastSegment addr len) = len

-- A segment has one or more descriptors of 16 bytes, and begins at a multiple of 8.
abbrev pub names_no_segment : Descriptor → Bool
names_no_segment d = nat_eq (size d) 0 || not (nat_eq (size d % 16) 0) || not (nat_eq (address d % 8) 0)

-- A range may end at 2 ^ 64, and not above it.
abbrev pub passes_end : Descriptor → Bool
passes_end d = nat_lt (2 ^ 64) (address d + size d)

-- The first fault of a descriptor that was read and has a type, at a cursor (which says how many descriptors are
-- left in the segment, itself among them, and what names the segment). How many bytes are wanted does not matter.
abbrev pub first_cause : Cursor → Descriptor → Option FaultCause
first_cause c d =
    first_passing (
    -- a link, in a segment that a Last Segment descriptor names
    (is_link d && named_last c.named, LinkInLastSegment)
    -- a link, not in the last place of its segment
    ∷ (is_link d && nat_lt 1 c.left, LinkNotLast)
    -- a link with length zero, length no multiple of 16, or address no multiple of 8
    ∷ (is_link d && names_no_segment d, MalformedLink)
    -- no link, in the last place of a segment that a Segment descriptor names
    ∷ (not (is_link d) && named_on c.named && nat_eq c.left 1, MissingLink)
    -- a Data Block or a link whose address plus its whole length is above 2 ^ 64
    ∷ (passes_end d, PastEndOfAddresses)
    ∷ [])

-- and its status
abbrev pub first_fault : Cursor → Descriptor → Option Status
first_fault c d = option_map cause_status (first_cause c d)

-- in how many pages a range lies
abbrev pub pages_spanned : ℕ → ℕ → ℕ
pages_spanned place len = if nat_eq len 0 then 0 else (place + len - 1) / 4096 - place / 4096 + 1

-- how much of a range lies in its first page
abbrev pub first_part : ℕ → ℕ → ℕ
first_part place len = if nat_le len (4096 - place % 4096) then len else 4096 - place % 4096

-- One move for the part of a range in each of its n pages, in order. The first part with an unreadable byte ends the walk.
unfoldable pub moving : Memory → ℕ → ℕ → ℕ → ℕ → Course → Course
moving m zero place len offset rest = rest
moving m (suc n) place len offset rest =
    if is_some (bytes_at m place (first_part place len))
    then Does (Moves place (first_part place len) offset)
    (moving m n (place + first_part place len) (len - first_part place len) (offset + first_part place len) rest)
    else Does Stays (Closes (Fault DATA_TRANSFER_ERROR))

-- where the descriptor after one is, if there is another in its segment
abbrev pub next : Cursor → Option Cursor
next c = if nat_lt 1 c.left then Some (record { place = c.place + 16; left = c.left - 1; named = c.named }) else None

-- the first descriptor of a segment
abbrev pub segment_start : Named → ℕ → ℕ → Cursor
segment_start named addr len = record { place = addr; left = len / 16; named = named }

-- What follows a descriptor without fault. `later` says what follows it, with this many bytes still wanted. Of a Data
-- Block the wanted prefix is moved, and no descriptor counts more than is wanted.
abbrev pub goes_on : Memory → Direction → ℕ → Cursor → ℕ → (Option Cursor → ℕ → Course) → Descriptor → Course
goes_on m dir need c wanted later (DataBlock addr len) =
    moving m (pages_spanned addr (min len wanted)) addr (min len wanted) (need - wanted) (later (next c) (wanted - len))
goes_on m dir need c wanted later (BitBucket len) = later (next c) (wanted - counted dir (BitBucket len))
goes_on m dir need c wanted later (Segment addr len) = later (Some (segment_start BySegment addr len)) wanted
goes_on m dir need c wanted later (LastSegment addr len) = later (Some (segment_start ByLastSegment addr len)) wanted

abbrev pub unless_fault : Option Status → Course → Course
unless_fault (Some status) course = Closes (Fault status)
unless_fault None course = course

-- what follows the reading of a descriptor
abbrev pub after_read : Memory → Direction → ℕ → Cursor → ℕ → (Option Cursor → ℕ → Course) → Option Descriptor → Course
after_read m dir need c wanted later None = Closes (Fault SGL_TYPE_INVALID)
after_read m dir need c wanted later (Some d) = unless_fault (first_fault c d) (goes_on m dir need c wanted later d)

-- what is left at a descriptor's address, given the bytes there
abbrev pub read_at : Memory → Direction → ℕ → Cursor → ℕ → (Option Cursor → ℕ → Course) → Option (List ℕ) → Course
read_at m dir need c wanted later None = Does Stays (Closes (Fault DATA_TRANSFER_ERROR))
read_at m dir need c wanted later (Some bytes) = Does (Reads c.place) (after_read m dir need c wanted later (descriptor_of bytes))

-- What is left after a descriptor, where `from` says what is left at an address: nothing, where no more bytes are wanted.
abbrev pub behind : (Cursor → ℕ → Course) → Option Cursor → ℕ → Course
behind from None wanted = Closes (if nat_eq wanted 0 then End else Fault DATA_SGL_LENGTH_INVALID)
behind from (Some c) wanted = if nat_eq wanted 0 then Closes End else from c wanted

-- what is left at an address, where the list may have k more descriptors
unfoldable pub from_place : ℕ → Memory → Direction → ℕ → Cursor → ℕ → Course
from_place zero m dir need c wanted = Does Stays (Closes (Fault INVALID_SGL_COUNT))
from_place (suc k) m dir need c wanted = read_at m dir need c wanted (behind (from_place k m dir need)) (bytes_at m c.place 16)

abbrev pub rest_of : ℕ → Memory → Direction → ℕ → Option Cursor → ℕ → Course
rest_of k m dir need = behind (from_place k m dir need)

-- The entry's descriptor is in a segment of one descriptor that no descriptor names.
abbrev pub entry_cursor : Cursor
entry_cursor = record { place = 0; left = 1; named = Unnamed }

-- The course of a list: `sgl1` is the entry's descriptor, and `need` is how many bytes the command moves.
abbrev pub course_of_list : Memory → List ℕ → Direction → ℕ → Course
course_of_list m sgl1 dir need = Does Stays (after_read m dir need entry_cursor need (rest_of 4095 m dir need) (descriptor_of sgl1))

abbrev pub units : Course → List Act
units (Closes v) = []
units (Does a rest) = a ∷ units rest

abbrev pub verdict : Course → WalkState
verdict (Closes v) = v
verdict (Does a rest) = verdict rest

-- the units of a list, one for each step
abbrev pub units_of_list : Memory → List ℕ → Direction → ℕ → List Act
units_of_list m sgl1 dir need = units (course_of_list m sgl1 dir need)

-- what the last step answers
abbrev pub verdict_of_list : Memory → List ℕ → Direction → ℕ → WalkState
verdict_of_list m sgl1 dir need = verdict (course_of_list m sgl1 dir need)
