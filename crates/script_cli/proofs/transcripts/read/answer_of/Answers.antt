-- No sign follows the indent.
use Rattle.std.proofs.{Common.{lit<, ◌∙◌, ap, None}, lemmas.Str.Pattern.strip_prefix_char}
use Rattle.script_cli.{proofs.Answers.no_sign, specs.Transcripts.behind_indent}
use Rattle.script_cli.proofs.transcripts.read.answer_of.Goals as goal

pub returns-in-None : goal.returns-in-None
returns-in-None c =
    no_sign c.unindented.result.now (strip_prefix_char 62 c.unindented.result.now None c.in-None.ensures.cases (lit< tt))
    ∙ ap behind_indent c.unindented.ensures
