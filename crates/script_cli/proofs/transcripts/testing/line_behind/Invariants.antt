-- the line feeds passed and those left are all
use Rattle.std.proofs.Common.{◌≡◌, ◌+◌, ◌≤◌, length, min}
use Rattle.script_cli.specs.Outcomes.{feeds_in}
use Rattle.script_cli.proofs.transcripts.testing.line_behind.Given as goal

abbrev pub invariant-loop-byte : goal.invariant-loop-byte
invariant-loop-byte l = record {
  most : l.number ≤ 4294967295;
  same : min (l.number + feeds_in l.rest) 4294967295 ≡ min (feeds_in l.fn.front + 1) 4294967295;
}

abbrev pub decreases-loop-byte : goal.decreases-loop-byte
decreases-loop-byte l = length l.rest
