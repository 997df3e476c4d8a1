-- the bytes passed are alike
use Rattle.std.proofs.Common.{◌≡◌, ◌+◌, length}
use Rattle.script_cli.specs.Differences.{common_front}
use Rattle.script_cli.proofs.transcripts.difference.alike.Given as goal

abbrev pub invariant-loop-a : goal.invariant-loop-a
invariant-loop-a l = record {
  same : l.alike + common_front l.left l.right ≡ common_front l.fn.wanted l.fn.came;
  most : l.alike + length l.left ≡ length l.fn.wanted;
}

abbrev pub decreases-loop-a : goal.decreases-loop-a
decreases-loop-a l = length l.left
