-- What follows the sign is not empty, so it has to begin with a blank.
use Rattle.std.proofs.Common.{◌<◌, ◌∙◌, length, rules}
use Rattle.script_cli.proofs.Answers.{sign_of}
use Rattle.script_cli.proofs.transcripts.read.behind_its_blank.Goals as goal

pub returns-else-is_empty : goal.returns-else-is_empty
returns-else-is_empty c =
    let some : 0 < length c.args.behind.now = search rules in
    c.behind_blank.ensures ∙ sign_of c.args.behind.now some
