-- what the words left say after what was said is what all say
use Rattle.std.proofs.Common.{◌≡◌, None, length}
use Rattle.script_cli.specs.Options.{AreFew, nothing_said, said_from}
use Rattle.script_cli.proofs.transcripts.options.SaidOptions.of.Given as goal

abbrev pub invariant-loop-next : goal.invariant-loop-next
invariant-loop-next l = record { same : said_from l.kind None l.said l.words ≡ said_from l.kind None nothing_said l.fn.words; few : AreFew l.said.submitters }

abbrev pub decreases-loop-next : goal.decreases-loop-next
decreases-loop-next l = length l.words
