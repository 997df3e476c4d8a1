-- what is put so far, and the rows left, go on to the same text
use Rattle.std.proofs.Common.{◌≡◌, ◌++◌, ◌/◌, length, string_bytes}
use Rattle.texts.specs.Slots.{rows_text}
use Rattle.texts.proofs.traces.bytes.put_bytes.Given as goal

abbrev pub invariant-loop-row : goal.invariant-loop-row
invariant-loop-row l = string_bytes l.out ++ rows_text (length l.rest / 16) l.rest ≡ string_bytes l.fn.out ++ rows_text (length l.fn.bytes / 16) l.fn.bytes

abbrev pub decreases-loop-row : goal.decreases-loop-row
decreases-loop-row l = length l.rest
