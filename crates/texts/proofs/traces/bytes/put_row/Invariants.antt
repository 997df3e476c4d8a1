-- what is put so far, and the bytes left, go on to the same text
use Rattle.std.proofs.Common.{◌≡◌, ◌++◌, codes, drop, string_bytes}
use Rattle.texts.specs.Slots.{row_bytes_text}
use Rattle.texts.proofs.traces.bytes.put_row.Given as goal

abbrev pub invariant-loop-byte : goal.invariant-loop-byte
invariant-loop-byte l = string_bytes l.out ++ row_bytes_text (drop l.byte-index l.row) ≡ string_bytes l.fn.out ++ (codes "   " ++ row_bytes_text l.fn.row)
