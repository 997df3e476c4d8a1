-- the lines so far and those of the numbers left are all
use Rattle.std.proofs.Common.{◌≡◌, ◌++◌, length, map, string_bytes}
use Rattle.script_cli.specs.Ranges.{lines_out_of_range, ranged_text}
use Rattle.script_cli.proofs.transcripts.ranges.out_of_range.Given as goal

abbrev pub invariant-loop-number : goal.invariant-loop-number
invariant-loop-number l = string_bytes l.text ++ lines_out_of_range (map ranged_text l.rest) ≡ lines_out_of_range (map ranged_text l.fn.numbers)

abbrev pub decreases-loop-number : goal.decreases-loop-number
decreases-loop-number l = length l.rest
