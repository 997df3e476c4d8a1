use Rattle.std.proofs.{Common.{◌∙◌, inl, inr}, lemmas.Result.{IfErr-weaker, IfOk-weaker}}
use Rattle.command_line.proofs.Asking.{failed_parse, parsed_asks, passed_on}
use Rattle.command_line.proofs.arguments.CommandLine.parse.Goals as goal

pub returns-in_err-matches-clause-refused : goal.returns-in_err-matches-clause-refused
returns-in_err-matches-clause-refused g c =
    passed_on c.from_residual-in_err-matches.result _ c.in_err-matches.field-0.0 c.from_residual-in_err-matches.ensures.1
    (failed_parse _ _ c.in_err-matches.field-0.0 c.in_ok-command.ensures c.in_err-matches.ensures.kinds)

pub returns-clause-asked : goal.returns-clause-asked
returns-clause-asked g c =
    let same = parsed_asks _ _ c.in_ok-matches.matches c.in_ok-command.ensures c.in_ok-matches.ensures.kinds c.in_ok-matches.ensures.matches in
    IfOk-weaker c.line_found.result _ _ (λ line asks. same ∙ asks) c.line_found.ensures.asked

pub returns-clause-refused : goal.returns-clause-refused
returns-clause-refused g c =
    let same = parsed_asks _ _ c.in_ok-matches.matches c.in_ok-command.ensures c.in_ok-matches.ensures.kinds c.in_ok-matches.ensures.matches in
    IfErr-weaker c.line_found.result _ _ (λ e cause. elim cause [
      | inl memory ↦ inl memory
      | inr none ↦ inr (same ∙ none)
    ]) c.line_found.ensures.refused
