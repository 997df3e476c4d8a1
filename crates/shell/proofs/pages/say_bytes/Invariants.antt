-- what is said so far, and the rows left, go on to the same text
use Rattle.std.proofs.Common.{◌≡◌, ◌++◌, ◌+◌, length, string_bytes}
use Rattle.shell.{proofs.Shown.GoesOn, specs.Pages.bytes_text}
use Rattle.shell.proofs.pages.say_bytes.Given as goal

abbrev pub invariant-loop-row : goal.invariant-loop-row
invariant-loop-row l = record {
  place : l.at + length l.rest ≡ 4096;
  rows : GoesOn (string_bytes l.out) l.before l.at l.rest (string_bytes l.fn.out ++ bytes_text l.fn.bytes);
}

abbrev pub decreases-loop-row : goal.decreases-loop-row
decreases-loop-row l = length l.rest
