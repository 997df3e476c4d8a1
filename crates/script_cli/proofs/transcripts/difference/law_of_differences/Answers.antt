-- There is no difference exactly where the lines are the same.
use Rattle.script_cli.proofs.DifferenceLaws.{none_if_same}
use Rattle.script_cli.proofs.transcripts.difference.law_of_differences.Goals as goal

pub returns : goal.returns
returns c = none_if_same
