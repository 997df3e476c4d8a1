-- The 16 bytes of a completion queue entry (NVM Express Base Specification 2.0, "Common Completion Queue Entry", section
-- 3.3.3.2). Numbers are little-endian. Bytes 7:4 (DW1) are ignored.
use Rattle.std.specs.Int.{w16, w32, to_le_bytes, from_le_bytes}
use Rattle.std.specs.Prelude.{◌≡◌, ◌<◌, ◌+◌, ◌*◌, ◌/◌, ◌%◌, ◌^◌, ◌==◌, ◌++◌, ℕ, List, drop, take, replicate, slice_range}
use Rattle.entry_codec.specs.{Hints.{hint_bits, FitsHints}, Status.status_halfword, declared.completion.ComEntry.ComEntry}

-- the status code type fits its 3 bits, and the retry delay its 2
pub record FitsCompletion (entry : ComEntry) : Type 0 where
  pub sct : entry.status.sct < 8
  pub hints : FitsHints entry.hints

-- the numbers except the status code type and the retry delay are those of a value of the type `ComEntry`
pub record IsComEntry (entry : ComEntry) : Type 0 where
  pub dw0 : entry.dw0 < 2 ^ 32
  pub sqhd : entry.sqhd < 2 ^ 16
  pub sqid : entry.sqid < 2 ^ 16
  pub cid : entry.cid < 2 ^ 16
  pub sc : entry.status.sc < 2 ^ 8

-- phase and status in bits 11:0, and the hints above
abbrev pub last_halfword : ComEntry → ℕ
last_halfword entry = hint_bits entry.hints * 4096 + status_halfword entry.status entry.phase

-- the bytes that are written for an entry: zero in what is ignored
unfoldable pub completion_bytes : ComEntry → List ℕ
completion_bytes entry =
    to_le_bytes w32 entry.dw0
    ++ replicate 4 0
    ++ to_le_bytes w16 entry.sqhd
    ++ to_le_bytes w16 entry.sqid
    ++ to_le_bytes w16 entry.cid
    ++ to_le_bytes w16 (last_halfword entry)

-- the bytes spell the entry: each field is in its bytes, and what is ignored may be anything
pub record IsCompletion (entry : ComEntry) (bytes : List ℕ) : Type 0 where
  pub typed : IsComEntry entry
  pub fits : FitsCompletion entry
  pub dw0 : take 4 bytes ≡ to_le_bytes w32 entry.dw0
  pub sqhd : slice_range bytes 8 10 ≡ to_le_bytes w16 entry.sqhd
  pub sqid : slice_range bytes 10 12 ≡ to_le_bytes w16 entry.sqid
  pub cid : slice_range bytes 12 14 ≡ to_le_bytes w16 entry.cid
  pub halfword : slice_range bytes 14 16 ≡ to_le_bytes w16 (last_halfword entry)

-- the entry that 16 bytes spell
unfoldable pub completion_of : List ℕ → ComEntry
completion_of bytes =
    let halfword = from_le_bytes w16 (slice_range bytes 14 16) in
    record {
      dw0 = from_le_bytes w32 (take 4 bytes);
      sqhd = from_le_bytes w16 (slice_range bytes 8 10);
      sqid = from_le_bytes w16 (slice_range bytes 10 12);
      cid = from_le_bytes w16 (slice_range bytes 12 14);
      phase = halfword % 2 == 1;
      status = record { sct = halfword / 512 % 8; sc = halfword / 2 % 256 };
      hints = record { retry_delay = halfword / 4096 % 4; more = halfword / 16384 % 2 == 1; do_not_retry = halfword / 32768 == 1 };
    }

-- the same bytes, except what is ignored
pub record AgreeOutsideIgnored (a b : List ℕ) : Type 0 where
  pub dw0 : take 4 a ≡ take 4 b
  pub rest : drop 8 a ≡ drop 8 b
