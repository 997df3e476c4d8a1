-- the first difference is that of the lines left
use Rattle.std.proofs.Common.{◌≡◌, length, map, string_bytes}
use Rattle.script_cli.specs.{Outcomes.difference_of, Transcripts.told_text}
use Rattle.script_cli.proofs.transcripts.testing.first_of_all.Given as goal

abbrev pub invariant-loop-told : goal.invariant-loop-told
invariant-loop-told l = difference_of (map told_text l.left) (map string_bytes l.texts) ≡ difference_of (map told_text l.fn.told) (map string_bytes l.fn.printed)

abbrev pub decreases-loop-told : goal.decreases-loop-told
decreases-loop-told l = length l.left
