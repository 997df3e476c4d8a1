-- Descriptors and entries of queues by their fields, as text.
use Rattle.std.specs.{Fmt.{decimal, digits}, Int.{from_bool, from_le_bytes, w32}}
use Rattle.std.specs.Prelude.{◌==◌, ◌&&◌, ◌%◌, ◌≡◌, ◌++◌, ◌∷◌, [], ℕ, true, List, Option, Some, None, codes, drop, if◌then◌else◌, nat_le, take}
use Rattle.entry_codec.specs.declared.admin_opcode.TheConstants as admin
use Rattle.entry_codec.specs.declared.io_opcode.TheConstants as io
use Rattle.entry_codec.specs.{Status.status_text, declared.{completion.ComEntry.ComEntry, status.Status.Status, submission.SubEntry.SubEntry}}
use Rattle.sgl_descriptor.specs.Spelling.{address_of, descriptor_of, length_of, subtype_of, type_of}
use Rattle.sgl_descriptor.specs.declared.Descriptor.{Descriptor, TheVariants.{BitBucket, DataBlock, LastSegment, Segment}}
use Rattle.texts.specs.Slots.{byte_text}

-- Descriptors (NVM Express Base Specification 2.0, "SGL Descriptor Type", "SGL Descriptor Sub Type")

-- the name of a type
abbrev pub type_name : ℕ → List ℕ
type_name kind =
    if kind == 0 then codes "Data Block"
    else if kind == 1 then codes "Bit Bucket"
    else if kind == 2 then codes "Segment"
    else if kind == 3 then codes "Last Segment"
    else if kind == 4 then codes "Keyed Data Block"
    else if kind == 5 then codes "Transport Data Block"
    else if kind == 15 then codes "Vendor Specific"
    else codes "Reserved"

-- the name of a subtype
abbrev pub subtype_name : ℕ → List ℕ
subtype_name subtype =
    if subtype == 0 then codes "Address"
    else if subtype == 1 then codes "Offset"
    else if nat_le 10 subtype && nat_le subtype 15 then codes "NVMe Transport Specific"
    else codes "Reserved"

-- an address and a length
unfoldable pub extent_text : ℕ → ℕ → List ℕ
extent_text addr len = codes ", address " ++ (digits 16 true addr ++ (codes "h, length " ++ decimal len))

-- a descriptor of this profile
abbrev pub known_text : Descriptor → List ℕ
known_text (DataBlock addr len) = codes "Data Block" ++ extent_text addr len
known_text (BitBucket len) = codes "Bit Bucket, length " ++ decimal len
known_text (Segment addr len) = codes "Segment" ++ extent_text addr len
known_text (LastSegment addr len) = codes "Last Segment" ++ extent_text addr len

-- the type and the subtype of 16 bytes, by number and name
unfoldable pub types_text : ℕ → ℕ → List ℕ
types_text kind subtype =
    codes "type " ++ (digits 16 true kind ++ (codes "h " ++ (type_name kind
    ++ (codes ", subtype " ++ (digits 16 true subtype ++ (codes "h " ++ subtype_name subtype))))))

-- the key of a Keyed SGL Data Block, bytes 14:11
abbrev pub key_of : List ℕ → ℕ
key_of bytes = from_le_bytes w32 (take 4 (drop 11 bytes))

-- its fields: its length has three bytes, 10:8
unfoldable pub keyed_text : List ℕ → List ℕ
keyed_text bytes = extent_text (address_of bytes) (length_of bytes % 0x1000000) ++ (codes ", key " ++ (digits 16 true (key_of bytes) ++ codes "h"))

-- the fields of a type: a Transport SGL Data Block has no address
unfoldable pub fields_text : ℕ → List ℕ → List ℕ
fields_text kind bytes =
    if kind == 4 then keyed_text bytes
    else if kind == 5 then codes ", length " ++ decimal (length_of bytes)
    else extent_text (address_of bytes) (length_of bytes)

-- a descriptor of a type or a subtype that this profile does not have
abbrev pub unknown_text : List ℕ → List ℕ
unknown_text bytes = types_text (type_of bytes) (subtype_of bytes) ++ fields_text (type_of bytes) bytes

abbrev pub text_by : List ℕ → Option Descriptor → List ℕ
text_by bytes None = unknown_text bytes
text_by bytes (Some descriptor) = known_text descriptor

-- THE TEXT of a descriptor, by its 16 bytes
unfoldable pub descriptor_text : List ℕ → List ℕ
descriptor_text bytes = text_by bytes (descriptor_of bytes)

-- Entries

-- what an opcode asks for on queue 0
abbrev pub admin_opcode_name : ℕ → List ℕ
admin_opcode_name opcode =
    if opcode == admin.DELETE_IO_SQ then codes "Delete I/O Submission Queue"
    else if opcode == admin.CREATE_IO_SQ then codes "Create I/O Submission Queue"
    else if opcode == admin.DELETE_IO_CQ then codes "Delete I/O Completion Queue"
    else if opcode == admin.CREATE_IO_CQ then codes "Create I/O Completion Queue"
    else if opcode == admin.ABORT then codes "Abort"
    else codes "no command of this profile"

-- what it asks for on another queue
abbrev pub io_opcode_name : ℕ → List ℕ
io_opcode_name opcode =
    if opcode == io.WRITE then codes "Write"
    else if opcode == io.READ then codes "Read"
    else if opcode == io.COMPARE then codes "Compare"
    else if opcode == io.WRITE_ZEROES then codes "Write Zeroes"
    else if opcode == io.VERIFY then codes "Verify"
    else if opcode == io.FLUSH then codes "Flush"
    else if opcode == io.DATASET_MANAGEMENT then codes "Dataset Management"
    else codes "no command of this profile"

unfoldable pub opcode_name : ℕ → ℕ → List ℕ
opcode_name q opcode = if q == 0 then admin_opcode_name opcode else io_opcode_name opcode

-- what an entry asks for, where its opcode has such a name
unfoldable pub asks_text : List ℕ → SubEntry → List ℕ
asks_text name entry =
    codes "    OPC" ++ (byte_text entry.opcode ++ (codes "h " ++ (name
    ++ (codes ", FUSE " ++ (decimal entry.fuse ++ (codes ", PSDT " ++ decimal entry.psdt))))))

-- the fields before the data pointer, a line
unfoldable pub head_text : List ℕ → SubEntry → List ℕ
head_text name entry =
    asks_text name entry ++ (codes ", CID " ++ (decimal entry.cid
    ++ (codes ", NSID " ++ (decimal entry.nsid ++ (codes ", MPTR " ++ (digits 16 true entry.mptr ++ (codes "h" ++ (10 ∷ []))))))))

-- the first three words after it
unfoldable pub first_words_text : SubEntry → List ℕ
first_words_text entry =
    codes "    CDW10 " ++ (digits 16 true entry.cdw10 ++ (codes "h, CDW11 " ++ (digits 16 true entry.cdw11
    ++ (codes "h, CDW12 " ++ (digits 16 true entry.cdw12 ++ codes "h")))))

-- the words after it, a line
unfoldable pub words_text : SubEntry → List ℕ
words_text entry =
    first_words_text entry ++ (codes ", CDW13 " ++ (digits 16 true entry.cdw13 ++ (codes "h, CDW14 " ++ (digits 16 true entry.cdw14
    ++ (codes "h, CDW15 " ++ (digits 16 true entry.cdw15 ++ (codes "h" ++ (10 ∷ []))))))))

-- THE LINES of a submission queue entry of a queue
abbrev pub submission_text : ℕ → SubEntry → List ℕ
submission_text q entry = head_text (opcode_name q entry.opcode) entry ++ (codes "    SGL1 " ++ (descriptor_text entry.sgl1 ++ ((10 ∷ []) ++ words_text entry)))

-- the fields of a completion queue entry before its status
unfoldable pub completion_head_text : ComEntry → List ℕ
completion_head_text entry =
    codes "    DW0 " ++ (digits 16 true entry.dw0 ++ (codes "h, SQHD " ++ (decimal entry.sqhd ++ (codes ", SQID " ++ (decimal entry.sqid
    ++ (codes ", CID " ++ (decimal entry.cid ++ (codes ", P " ++ (decimal (from_bool entry.phase) ++ codes ", SF ")))))))))

-- a status, followed by its name if it has one, and the end of the line
abbrev pub named_text : Status → Option (List ℕ) → List ℕ
named_text status None = status_text status ++ (10 ∷ [])
named_text status (Some name) = status_text status ++ (codes " " ++ (name ++ (10 ∷ [])))

-- the line of the entry, whose status has such a name
abbrev pub completion_text : ComEntry → Option (List ℕ) → List ℕ
completion_text entry name = completion_head_text entry ++ named_text entry.status name

-- THE LINE of a completion queue entry is appended to a text. The name of its status is for people: no clause spells it.
pub record PutsCompletion (entry : ComEntry) (before after : List ℕ) : Type 0 where
  pub name : Option (List ℕ)
  pub put : after ≡ before ++ completion_text entry name
