-- The entries of admin commands, and what they name.
use Rattle.std.specs.Int.{w64, to_le_bytes, from_le_bytes}
use Rattle.std.specs.Prelude.{ℕ, ◌+◌, ◌*◌, ◌-◌, ◌/◌, ◌%◌, ◌==◌, Bool, ◌||◌, not, List, ◌++◌, if◌then◌else◌, Option, Some, None, Result, Ok, Err, replicate, take}
use Rattle.entry_codec.specs.declared.{status.{Status.Status, TheConstants.Status.{INVALID_OPCODE, INVALID_FIELD}}, submission.SubEntry.SubEntry}
use Rattle.admin_commands.specs.declared.AdminKind.{AdminKind, TheVariants.{Abort, DeleteSq, DeleteCq, CreateCq, CreateSq}}
use Rattle.entry_codec.specs.declared.admin_opcode.TheConstants as opcodes

abbrev pub opcode_of : AdminKind → ℕ
opcode_of (Abort q cid) = opcodes.ABORT
opcode_of (DeleteSq q) = opcodes.DELETE_IO_SQ
opcode_of (DeleteCq q) = opcodes.DELETE_IO_CQ
opcode_of (CreateCq q n base vector) = opcodes.CREATE_IO_CQ
opcode_of (CreateSq q n base) = opcodes.CREATE_IO_SQ

-- CDW10: the queue in its low half; in its high half the command that an Abort names, and one less than the entries of a ring
abbrev pub named_by : AdminKind → ℕ
named_by (Abort q cid) = q + 65536 * cid
named_by (DeleteSq q) = q
named_by (DeleteCq q) = q
named_by (CreateCq q n base vector) = q + 65536 * (n - 1)
named_by (CreateSq q n base) = q + 65536 * (n - 1)

-- CDW11 of a creation: the ring lies in consecutive pages (bit 0), a completion queue is polled, or has interrupts (bit 1) on a vector (bits
-- 31:16), and a submission queue's completions go to the completion queue of its number (bits 31:16)
abbrev pub qualified_by : AdminKind → ℕ
qualified_by (Abort q cid) = 0
qualified_by (DeleteSq q) = 0
qualified_by (DeleteCq q) = 0
qualified_by (CreateCq q n base None) = 1
qualified_by (CreateCq q n base (Some vector)) = 1 + 2 + 65536 * vector
qualified_by (CreateSq q n base) = 1 + 65536 * q

-- the address where a creation's ring begins
abbrev pub base_of : AdminKind → ℕ
base_of (Abort q cid) = 0
base_of (DeleteSq q) = 0
base_of (DeleteCq q) = 0
base_of (CreateCq q n base vector) = base
base_of (CreateSq q n base) = base

-- the data pointer: an address in its first eight bytes
abbrev pub pointer_to : ℕ → List ℕ
pointer_to address = to_le_bytes w64 address ++ replicate 8 0

-- the entry that the driver sends
abbrev pub admin_entry : AdminKind → ℕ → SubEntry
admin_entry kind cid =
    record {
      opcode = opcode_of kind;
      fuse = 0;
      psdt = 0;
      cid = cid;
      nsid = 0;
      mptr = 0;
      sgl1 = pointer_to (base_of kind);
      cdw10 = named_by kind;
      cdw11 = qualified_by kind;
      cdw12 = 0;
      cdw13 = 0;
      cdw14 = 0;
      cdw15 = 0;
    }

-- the queue that an entry names
abbrev pub named_queue : SubEntry → ℕ
named_queue entry = entry.cdw10 % 65536

-- the command that an entry names, of that queue
abbrev pub named_command : SubEntry → ℕ
named_command entry = entry.cdw10 / 65536

-- how many entries the ring of a creation has
abbrev pub named_size : SubEntry → ℕ
named_size entry = entry.cdw10 / 65536 + 1

-- whether the ring lies in consecutive pages, and the completion queue of a submission queue
abbrev pub is_contiguous : SubEntry → Bool
is_contiguous entry = entry.cdw11 % 2 == 1

abbrev pub named_completion_queue : SubEntry → ℕ
named_completion_queue entry = entry.cdw11 / 65536

-- the vector of a completion queue's interrupts, where they are enabled
abbrev pub named_vector : SubEntry → Option ℕ
named_vector entry = if entry.cdw11 / 2 % 2 == 1 then Some (entry.cdw11 / 65536) else None

-- the address where the ring begins
abbrev pub named_base : SubEntry → ℕ
named_base entry = from_le_bytes w64 (take 8 entry.sgl1)

-- whether an opcode is one of the five
abbrev pub is_opcode : ℕ → Bool
is_opcode code =
    (code == opcodes.ABORT) || (code == opcodes.DELETE_IO_SQ) || (code == opcodes.DELETE_IO_CQ) || (code == opcodes.CREATE_IO_CQ) || (code == opcodes.CREATE_IO_SQ)

-- the command that an entry asks for, or the status of the first field that is refused: the opcode, and then FUSE
abbrev pub kind_or_fault : SubEntry → Result AdminKind Status
kind_or_fault entry =
    if not (is_opcode entry.opcode) then Err INVALID_OPCODE
    else if not (entry.fuse == 0) then Err INVALID_FIELD
    else if entry.opcode == opcodes.ABORT then Ok (Abort (named_queue entry) (named_command entry))
    else if entry.opcode == opcodes.DELETE_IO_SQ then Ok (DeleteSq (named_queue entry))
    else if entry.opcode == opcodes.DELETE_IO_CQ then Ok (DeleteCq (named_queue entry))
    else if entry.opcode == opcodes.CREATE_IO_CQ then Ok (CreateCq (named_queue entry) (named_size entry) (named_base entry) (named_vector entry))
    else Ok (CreateSq (named_queue entry) (named_size entry) (named_base entry))
