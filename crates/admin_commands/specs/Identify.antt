-- Fields of what Identify brings, by their offsets in its bytes. Numbers are little-endian.
use Rattle.std.specs.Int.{w16, w32, w64, from_le_bytes}
use Rattle.std.specs.Prelude.{ℕ, ◌+◌, ◌*◌, ◌^◌, ◌/◌, ◌%◌, ◌==◌, ◌||◌, nat_lt, Bool, Option, Some, None, List, slice_index, slice_range, if◌then◌else◌}
use Rattle.admin_commands.specs.declared.identify.{controller.ListSupport.{ListSupport, TheVariants.{No, Bytes, Words}}, namespace.Format.Format}

abbrev pub halfword_at : List ℕ → ℕ → ℕ
halfword_at bytes at = from_le_bytes w16 (slice_range bytes at (at + 2))

abbrev pub word_at : List ℕ → ℕ → ℕ
word_at bytes at = from_le_bytes w32 (slice_range bytes at (at + 4))

abbrev pub double_word_at : List ℕ → ℕ → ℕ
double_word_at bytes at = from_le_bytes w64 (slice_range bytes at (at + 8))

abbrev pub has_bit : ℕ → ℕ → Bool
has_bit n k = n / 2 ^ k % 2 == 1

-- a power of two, if it is one of 32 bits and not the zeroth
abbrev pub power_of : ℕ → Option ℕ
power_of k = if (k == 0) || nat_lt 31 k then None else Some (2 ^ k)

abbrev pub most_pages : List ℕ → Option ℕ
most_pages bytes = power_of (slice_index bytes 77)

abbrev pub list_support : ℕ → ListSupport
list_support byte = if byte % 4 == 1 then Bytes else (if byte % 4 == 2 then Words else No)

-- a format of four bytes: its metadata, the power of its blocks, and what is left aside
abbrev pub format_at : List ℕ → ℕ → Format
format_at bytes number = record { metadata = halfword_at bytes (128 + 4 * number); power = slice_index bytes (128 + 4 * number + 2) }

abbrev pub block_bytes : ℕ → Option ℕ
block_bytes power = power_of power
