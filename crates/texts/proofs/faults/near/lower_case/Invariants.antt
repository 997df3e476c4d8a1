-- what is put so far, and the bytes left, go on to the whole text
use Rattle.std.proofs.Common.{◌≡◌, ◌++◌, drop, string_bytes}
use Rattle.texts.specs.Nearest.{in_lower_case}
use Rattle.texts.proofs.faults.near.lower_case.Given as goal

abbrev pub invariant-loop-byte : goal.invariant-loop-byte
invariant-loop-byte l = string_bytes l.text ++ in_lower_case (drop l.byte-index l.word) ≡ in_lower_case l.fn.word
