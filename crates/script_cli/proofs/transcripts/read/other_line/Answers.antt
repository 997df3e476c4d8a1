-- A line that does not say options is one of the script.
use Rattle.std.proofs.Common.{rules, ◌≡◌, false, codes, MatchResult, Ok, Result, subst, sym}
use Rattle.script_cli.proofs.ToldLines.{is_of_script}
use Rattle.script_cli.specs.{Options.begins_with, Transcripts.{IsFaultOf, LineText}}
use Rattle.script_cli.specs.declared.transcripts.fault.TranscriptFault.{TranscriptFault}
use Rattle.script_cli.proofs.transcripts.read.other_line.Goals as goal

pub returns-in-None : goal.returns-in-None
returns-in-None c =
    let none : begins_with (codes "# options:") c.args.line.now ≡ false = first_of (search rules, cc) in
    subst (λ (meant : Result LineText TranscriptFault). MatchResult c.script_line.result (λ what. meant ≡ Ok (LineText.a_line what)) (IsFaultOf meant))
    (sym (is_of_script c.args.number c.args.line.now none)) c.script_line.ensures
