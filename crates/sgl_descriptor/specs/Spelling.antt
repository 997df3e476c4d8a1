-- SGL descriptors as 16 bytes (NVM Express Base Specification 2.0, "Scatter Gather List (SGL)", section 4.1.2), least significant byte first.
use Rattle.std.specs.Int.{w32, w64, to_le_bytes, from_le_bytes}
use Rattle.std.specs.Prelude.{if◌then◌else◌, nat_eq, ◌≡◌, ◌≢◌, ◌⊎◌, ◌<◌, ◌≤◌, ◌/◌, ◌%◌, ◌^◌, ◌++◌, ◌∷◌, [], ℕ, Bool, true, false, IsTrue, List, Option, Some, None, take, drop, slice_index}
use Rattle.sgl_descriptor.specs.declared.Descriptor.{Descriptor, TheVariants.{DataBlock, BitBucket, Segment, LastSegment}}

-- the type of a descriptor, the high half of byte 15
abbrev pub type_of : List ℕ → ℕ
type_of bytes = slice_index bytes 15 / 16

-- its subtype, the low half
abbrev pub subtype_of : List ℕ → ℕ
subtype_of bytes = slice_index bytes 15 % 16

-- the types are 0 to 3, each only with subtype 0
abbrev pub HasValidType : List ℕ → Type 0
HasValidType bytes = (type_of bytes ≤ 3) × (subtype_of bytes ≡ 0)

abbrev pub HasInvalidType : List ℕ → Type 0
HasInvalidType bytes = (3 < type_of bytes) ⊎ (subtype_of bytes ≢ 0)

-- bytes 7:0
abbrev pub address_of : List ℕ → ℕ
address_of bytes = from_le_bytes w64 (take 8 bytes)

-- bytes 11:8
abbrev pub length_of : List ℕ → ℕ
length_of bytes = from_le_bytes w32 (take 4 (drop 8 bytes))

-- Byte 15 is the type times 16, and the bytes that are not reserved are the fields.
abbrev pub IsSpelling : Descriptor → List ℕ → Type 0
IsSpelling (DataBlock addr len) bytes = (slice_index bytes 15 ≡ 0x00) × (address_of bytes ≡ addr) × (length_of bytes ≡ len)
IsSpelling (BitBucket len) bytes = (slice_index bytes 15 ≡ 0x10) × (length_of bytes ≡ len)
IsSpelling (Segment addr len) bytes = (slice_index bytes 15 ≡ 0x20) × (address_of bytes ≡ addr) × (length_of bytes ≡ len)
IsSpelling (LastSegment addr len) bytes = (slice_index bytes 15 ≡ 0x30) × (address_of bytes ≡ addr) × (length_of bytes ≡ len)

-- address, length, three bytes of zero, and byte 15
abbrev pub descriptor_bytes : ℕ → ℕ → ℕ → List ℕ
descriptor_bytes addr len last = to_le_bytes w64 addr ++ to_le_bytes w32 len ++ 0 ∷ 0 ∷ 0 ∷ last ∷ []

-- the one spelling whose reserved bytes are zero
abbrev pub spelling : Descriptor → List ℕ
spelling (DataBlock addr len) = descriptor_bytes addr len 0x00
spelling (BitBucket len) = descriptor_bytes 0 len 0x10
spelling (Segment addr len) = descriptor_bytes addr len 0x20
spelling (LastSegment addr len) = descriptor_bytes addr len 0x30

-- the descriptor that 16 bytes spell, if they spell one
unfoldable pub descriptor_of : List ℕ → Option Descriptor
descriptor_of bytes =
    let addr = address_of bytes in
    let len = length_of bytes in
    let last = slice_index bytes 15 in
    if nat_eq last 0x00 then Some (DataBlock addr len)
    else (if nat_eq last 0x10 then Some (BitBucket len)
    else (if nat_eq last 0x20 then Some (Segment addr len)
    else (if nat_eq last 0x30 then Some (LastSegment addr len)
    else None)))

-- an address is below 2 ^ 64, a length below 2 ^ 32
abbrev pub Fits : Descriptor → Type 0
Fits (DataBlock addr len) = (addr < 2 ^ 64) × (len < 2 ^ 32)
Fits (BitBucket len) = len < 2 ^ 32
Fits (Segment addr len) = (addr < 2 ^ 64) × (len < 2 ^ 32)
Fits (LastSegment addr len) = (addr < 2 ^ 64) × (len < 2 ^ 32)

-- a link names a segment
abbrev pub is_link : Descriptor → Bool
is_link (DataBlock addr len) = false
is_link (BitBucket len) = false
is_link (Segment addr len) = true
is_link (LastSegment addr len) = true

abbrev pub IsLink : Descriptor → Type 0
IsLink d = IsTrue (is_link d)

-- Bytes 14:12 are reserved in each type, and bytes 7:0 in a Bit Bucket, type 1.
abbrev pub IsReserved : ℕ → ℕ → Type 0
IsReserved kind i = ((12 ≤ i) × (i ≤ 14)) ⊎ ((kind ≡ 1) × (i ≤ 7))

-- The same bytes, except those that the type reserves. Byte 15 is never reserved, so both have the same type.
abbrev pub AgreeOutsideReserved : List ℕ → List ℕ → Type 0
AgreeOutsideReserved a b = (i : ℕ) → i < 16 → ¬ IsReserved (type_of a) i → slice_index a i ≡ slice_index b i
