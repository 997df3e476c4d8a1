-- no number of submitters is said that is not allowed
use Rattle.std.proofs.Common.{length}
use Rattle.script_cli.specs.Options.{AreFew}
use Rattle.script_cli.proofs.transcripts.options.SaidOptions.of_words.Given as goal

abbrev pub invariant-loop-next : goal.invariant-loop-next
invariant-loop-next l = AreFew l.said.submitters

abbrev pub decreases-loop-next : goal.decreases-loop-next
decreases-loop-next l = length l.words
