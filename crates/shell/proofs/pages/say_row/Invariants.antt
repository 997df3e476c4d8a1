-- what is said so far, and the bytes left, go on to the same text
use Rattle.std.proofs.Common.{◌≡◌, ◌++◌, drop, string_bytes}
use Rattle.shell.specs.Pages.{row_bytes_text, place_text}
use Rattle.shell.proofs.pages.say_row.Given as goal

abbrev pub invariant-loop-byte : goal.invariant-loop-byte
invariant-loop-byte l = string_bytes l.out ++ row_bytes_text (drop l.byte-index l.row) ≡ string_bytes l.fn.out ++ (place_text l.fn.at ++ row_bytes_text l.fn.row)
