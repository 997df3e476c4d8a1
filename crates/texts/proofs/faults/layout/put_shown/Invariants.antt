-- what is put so far, and the bytes left, go on to the whole text
use Rattle.std.proofs.Common.{◌≡◌, ◌++◌, drop, map, string_bytes}
use Rattle.texts.specs.Layout.{shown}
use Rattle.texts.proofs.faults.layout.put_shown.Given as goal

abbrev pub invariant-loop-byte : goal.invariant-loop-byte
invariant-loop-byte l = string_bytes l.out ++ map shown (drop l.byte-index l.bytes) ≡ string_bytes l.fn.out ++ map shown l.fn.bytes
