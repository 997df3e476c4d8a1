-- what is put so far, and the bytes left, go on to the whole text
use Rattle.std.proofs.Common.{◌≡◌, ◌++◌, drop, string_bytes}
use Rattle.texts.specs.Words.{hex_text}
use Rattle.texts.proofs.objects.line.hex_bytes.Given as goal

abbrev pub invariant-loop-byte : goal.invariant-loop-byte
invariant-loop-byte l = string_bytes l.text ++ hex_text (drop l.byte-index l.bytes) ≡ hex_text l.fn.bytes
