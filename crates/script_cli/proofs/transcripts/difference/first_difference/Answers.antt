-- Each printed line is the next answer, or differs from it.
use Rattle.std.proofs.Common.{rules, ◌≡◌, [], ◌∙◌, not, true, false, ℕ, List, Some, Option, IfOk, map, option_map, ap, string_bytes, subst, sym}
use Rattle.std.proofs.lemmas.List.{nil_from_length}
use Rattle.std.specs.{Str.bytes_eq, Str.Iter.lines_rest}
use Rattle.script_cli.proofs.{DifferenceLaws.{another, as_told, not_false, not_true, too_many}, TextLines.{all_lines, next_line}}
use Rattle.script_cli.specs.{Differences.{difference_below, difference_text, differs, first_difference, DifferenceText}, Lines.lines, Transcripts.{answer_text, told_text}}
use Rattle.script_cli.proofs.transcripts.difference.first_difference.Goals as goal

pub loop-came-init : goal.loop-came-init
loop-came-init c =
    let rest : lines_rest c.into_iter-came-iterator.result ≡ c.args.printed.now = cc in (
      lines c.args.printed.now,
      all_lines c.args.printed.now rest,
      ap (λ l. difference_below c.args.told.now.number (map answer_text l) (lines c.args.printed.now)) c.as_slice-answers.ensures.value,
    )

pub returns-in_default : goal.returns-in_default
returns-in_default c =
    let step = next_line {t = c.next.new.self} c.in-Some.came c.loop-came.invariant.0 c.loop-came.invariant.1 c.in-Some.ensures.steps in
    let none : map answer_text c.loop-came.answers.now ≡ [] = ap (map answer_text) (nil_from_length c.loop-came.answers.now (search rules)) in
    record {
      first =
          subst (λ (d : Option DifferenceText). IfOk c.different.result (λ found. option_map difference_text found ≡ d))
          (too_many c.loop-came.number (map answer_text c.loop-came.answers.now) c.in-Some.came.now c.loop-came.invariant.0 step.0 (first_difference (told_text c.args.told.now) (lines c.args.printed.now)) step.1 c.loop-came.invariant.2 none)
          c.different.ensures;
    }

pub returns-then-ne : goal.returns-then-ne
returns-then-ne c =
    let step = next_line {t = c.next.new.self} c.in-Some.came c.loop-came.invariant.0 c.loop-came.invariant.1 c.in-Some.ensures.steps in
    let other : not (bytes_eq c.as_str-wanted.result.now c.in-Some.came.now) ≡ true = cc in
    let differ : bytes_eq (string_bytes c.in-Some-split_first.answer.now.text) c.in-Some.came.now ≡ false =
    ap (λ (t : List ℕ). bytes_eq t c.in-Some.came.now) (sym c.as_str-wanted.ensures.value) ∙ not_true (bytes_eq c.as_str-wanted.result.now c.in-Some.came.now) other in
    record {
      first =
          subst (λ (d : Option DifferenceText). IfOk c.different-then-ne.result (λ found. option_map difference_text found ≡ d))
          (ap (λ (t : List ℕ). differs c.in-Some-split_first.answer.now.number (Some t) (Some c.in-Some.came.now)) c.as_str-wanted.ensures.value
          ∙ another c.loop-came.number (map answer_text c.loop-came.answers.now) c.in-Some.came.now c.loop-came.invariant.0 step.0 (first_difference (told_text c.args.told.now) (lines c.args.printed.now)) step.1 c.loop-came.invariant.2
          (answer_text c.in-Some-split_first.answer.now) (map answer_text c.in-Some-split_first.rest.now) (ap (map answer_text) c.in-Some-split_first.ensures.cases.0) differ)
          c.different-then-ne.ensures;
    }

pub loop-came-preserved : goal.loop-came-preserved
loop-came-preserved c =
    let step = next_line {t = c.next.new.self} c.in-Some.came c.loop-came.invariant.0 c.loop-came.invariant.1 c.in-Some.ensures.steps in
    let alike : not (bytes_eq c.as_str-wanted.result.now c.in-Some.came.now) ≡ false = cc in
    let same : bytes_eq (string_bytes c.in-Some-split_first.answer.now.text) c.in-Some.came.now ≡ true =
    ap (λ (t : List ℕ). bytes_eq t c.in-Some.came.now) (sym c.as_str-wanted.ensures.value) ∙ not_false (bytes_eq c.as_str-wanted.result.now c.in-Some.came.now) alike in (
      step.0,
      step.2,
      as_told c.loop-came.number (map answer_text c.loop-came.answers.now) c.in-Some.came.now c.loop-came.invariant.0 step.0 (first_difference (told_text c.args.told.now) (lines c.args.printed.now)) step.1 c.loop-came.invariant.2
          (answer_text c.in-Some-split_first.answer.now) (map answer_text c.in-Some-split_first.rest.now) (ap (map answer_text) c.in-Some-split_first.ensures.cases.0) same,
    )
