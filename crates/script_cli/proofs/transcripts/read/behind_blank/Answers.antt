-- A blank is a space or a tab.
use Rattle.std.proofs.{Common.{lit<, None}, lemmas.Str.Pattern.strip_prefix_char}
use Rattle.script_cli.proofs.Answers.{behind_tab}
use Rattle.script_cli.proofs.transcripts.read.behind_blank.Goals as goal

pub returns-in-None : goal.returns-in-None
returns-in-None c =
    behind_tab c.args.text.now _ (strip_prefix_char 32 c.args.text.now None c.in-None.ensures.cases (lit< tt))
    (strip_prefix_char 9 c.args.text.now _ c.strip_prefix-in-None.ensures.cases (lit< tt))
