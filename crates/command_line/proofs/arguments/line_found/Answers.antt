use Rattle.std.proofs.{Common.{◌∙◌, sym, ap, inl, inr}, lemmas.Result.{IfErr-weaker, IfOk-weaker}}
use Rattle.clap.specs.Words.{found_of, rows_of}
use Rattle.command_line.specs.Asked.{asked_by}
use Rattle.command_line.proofs.Asking.{named_rows, unnamed_rows}
use Rattle.command_line.proofs.arguments.line_found.Goals as goal

pub returns-in-Some-clause-asked : goal.returns-in-Some-clause-asked
returns-in-Some-clause-asked c =
    let same = ap asked_by (named_rows _ c.in-Some.name.now (rows_of (found_of c.in-Some.given.now)) (sym c.in-Some.ensures.name) (sym c.in-Some.ensures.rows)) in
    IfOk-weaker c.line_of.result _ _ (λ line asks. same ∙ asks) c.line_of.ensures.asked

pub returns-in-Some-clause-refused : goal.returns-in-Some-clause-refused
returns-in-Some-clause-refused c =
    let same = ap asked_by (named_rows _ c.in-Some.name.now (rows_of (found_of c.in-Some.given.now)) (sym c.in-Some.ensures.name) (sym c.in-Some.ensures.rows)) in
    IfErr-weaker c.line_of.result _ _ (λ e cause. elim cause [
      | inl memory ↦ inl memory
      | inr none ↦ inr (same ∙ none)
    ]) c.line_of.ensures.refused

pub returns-in_ok-no_command-in-None-clause-refused : goal.returns-in_ok-no_command-in-None-clause-refused
returns-in_ok-no_command-in-None-clause-refused c = inr (ap asked_by (unnamed_rows _ (sym c.in-None.ensures.name)))
