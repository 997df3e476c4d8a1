-- The 64 bytes of a submission queue entry (NVM Express Base Specification 2.0, "Submission Queue Entry", section 3.3.3.1).
-- Numbers are little-endian. Bits 5:2 of byte 1 (bits 13:10 of the first doubleword), which are reserved, and bytes 15:8
-- (CDW2 and CDW3) are ignored. "Reserved" below means both.
use Rattle.std.specs.Int.{w16, w32, w64, to_le_bytes, from_le_bytes}
use Rattle.std.specs.Prelude.{◌≡◌, ◌<◌, ◌+◌, ◌*◌, ◌/◌, ◌%◌, ◌^◌, ◌++◌, ◌∷◌, [], ℕ, List, drop, replicate, slice_index, slice_range}
use Rattle.entry_codec.specs.{Bytes.IsBytes, declared.submission.SubEntry.SubEntry}

-- the two fields that have 2 bits of a byte each fit them
pub record FitsSubmission (entry : SubEntry) : Type 0 where
  pub fuse : entry.fuse < 4
  pub psdt : entry.psdt < 4

-- the numbers except FUSE and PSDT are those of a value of the type `SubEntry`
pub record IsSubEntry (entry : SubEntry) : Type 0 where
  pub opcode : entry.opcode < 2 ^ 8
  pub cid : entry.cid < 2 ^ 16
  pub nsid : entry.nsid < 2 ^ 32
  pub mptr : entry.mptr < 2 ^ 64
  pub sgl1 : IsBytes 16 entry.sgl1
  pub cdw10 : entry.cdw10 < 2 ^ 32
  pub cdw11 : entry.cdw11 < 2 ^ 32
  pub cdw12 : entry.cdw12 < 2 ^ 32
  pub cdw13 : entry.cdw13 < 2 ^ 32
  pub cdw14 : entry.cdw14 < 2 ^ 32
  pub cdw15 : entry.cdw15 < 2 ^ 32

-- bytes 15:0: opcode, fused operation and data transfer, the identifiers, and zeros
abbrev pub submission_head : SubEntry → List ℕ
submission_head entry =
    entry.opcode ∷ (entry.fuse + entry.psdt * 64) ∷ []
    ++ to_le_bytes w16 entry.cid
    ++ to_le_bytes w32 entry.nsid
    ++ replicate 8 0

-- bytes 63:40: the command specific doublewords
abbrev pub command_words : SubEntry → List ℕ
command_words entry =
    to_le_bytes w32 entry.cdw10
    ++ to_le_bytes w32 entry.cdw11
    ++ to_le_bytes w32 entry.cdw12
    ++ to_le_bytes w32 entry.cdw13
    ++ to_le_bytes w32 entry.cdw14
    ++ to_le_bytes w32 entry.cdw15

-- the bytes that are written for an entry: zero in what is reserved
unfoldable pub submission_bytes : SubEntry → List ℕ
submission_bytes entry = submission_head entry ++ to_le_bytes w64 entry.mptr ++ entry.sgl1 ++ command_words entry

-- the bytes spell the entry: each field is in its bytes, and what is reserved may be anything
pub record IsSubmission (entry : SubEntry) (bytes : List ℕ) : Type 0 where
  pub typed : IsSubEntry entry
  pub opcode : slice_index bytes 0 ≡ entry.opcode
  pub fuse : slice_index bytes 1 % 4 ≡ entry.fuse
  pub psdt : slice_index bytes 1 / 64 ≡ entry.psdt
  pub cid : slice_range bytes 2 4 ≡ to_le_bytes w16 entry.cid
  pub nsid : slice_range bytes 4 8 ≡ to_le_bytes w32 entry.nsid
  pub mptr : slice_range bytes 16 24 ≡ to_le_bytes w64 entry.mptr
  pub sgl1 : slice_range bytes 24 40 ≡ entry.sgl1
  pub cdw10 : slice_range bytes 40 44 ≡ to_le_bytes w32 entry.cdw10
  pub cdw11 : slice_range bytes 44 48 ≡ to_le_bytes w32 entry.cdw11
  pub cdw12 : slice_range bytes 48 52 ≡ to_le_bytes w32 entry.cdw12
  pub cdw13 : slice_range bytes 52 56 ≡ to_le_bytes w32 entry.cdw13
  pub cdw14 : slice_range bytes 56 60 ≡ to_le_bytes w32 entry.cdw14
  pub cdw15 : slice_range bytes 60 64 ≡ to_le_bytes w32 entry.cdw15

-- the entry that 64 bytes spell
unfoldable pub submission_of : List ℕ → SubEntry
submission_of bytes = record {
  opcode = slice_index bytes 0;
  fuse = slice_index bytes 1 % 4;
  psdt = slice_index bytes 1 / 64;
  cid = from_le_bytes w16 (slice_range bytes 2 4);
  nsid = from_le_bytes w32 (slice_range bytes 4 8);
  mptr = from_le_bytes w64 (slice_range bytes 16 24);
  sgl1 = slice_range bytes 24 40;
  cdw10 = from_le_bytes w32 (slice_range bytes 40 44);
  cdw11 = from_le_bytes w32 (slice_range bytes 44 48);
  cdw12 = from_le_bytes w32 (slice_range bytes 48 52);
  cdw13 = from_le_bytes w32 (slice_range bytes 52 56);
  cdw14 = from_le_bytes w32 (slice_range bytes 56 60);
  cdw15 = from_le_bytes w32 (slice_range bytes 60 64);
}

-- the same bytes, except what is reserved
pub record AgreeOutsideReserved (a b : List ℕ) : Type 0 where
  pub opcode : slice_index a 0 ≡ slice_index b 0
  pub fuse : slice_index a 1 % 4 ≡ slice_index b 1 % 4
  pub psdt : slice_index a 1 / 64 ≡ slice_index b 1 / 64
  pub identifiers : slice_range a 2 8 ≡ slice_range b 2 8
  pub rest : drop 16 a ≡ drop 16 b
