-- Each line goes on from those above it.
use Rattle.std.proofs.{Common.{◌≡◌, ◌∷◌, ◌++◌, [], map, Ok, sym, ap, ◌∙◌}, lemmas.List.map-append}
use Rattle.std.specs.Str.Iter.{lines_rest}
use Rattle.script_cli.proofs.{TextLines.{all_lines, next_line, no_line}, ToldLines.{ends, is_fault, one_more, starts, told_with}}
use Rattle.script_cli.specs.{Lines.lines, Transcripts.{line_read, line_text, lines_said, next_number, told_of, told_text}}
use Rattle.script_cli.proofs.transcripts.read.read_lines.Goals as goal

pub loop-line-init : goal.loop-line-init
loop-line-init c =
    let rest : lines_rest c.into_iter-line-iterator.result ≡ c.args.text.now = cc in (
      lines c.args.text.now,
      all_lines c.args.text.now rest,
      starts (map told_text c.new-told.result.items) (told_text c.told_at-last.result) (lines c.args.text.now) (ap (map told_text) c.new-told.ensures.items) c.told_at-last.ensures,
    )

pub returns-in-Err : goal.returns-in-Err
returns-in-Err c =
    let step = next_line {t = c.next.new.self} c.in-Some.line c.loop-line.invariant.0 c.loop-line.invariant.1 c.in-Some.ensures.steps in
    is_fault (line_read c.loop-line.number c.in-Some.line.now) c.in-Err.fault (map told_text c.loop-line.told.items) (told_text c.loop-line.last) c.loop-line.number
    (lines_said (next_number c.loop-line.number) step.0) (told_of (lines c.args.text.now)) c.in-Err.ensures
    ((λ i. told_with (map told_text c.loop-line.told.items) (told_text c.loop-line.last) (lines_said c.loop-line.number (sym step.1 i))) ∙ c.loop-line.invariant.2)

pub loop-line-preserved : goal.loop-line-preserved
loop-line-preserved c =
    let step = next_line {t = c.next.new.self} c.in-Some.line c.loop-line.invariant.0 c.loop-line.invariant.1 c.in-Some.ensures.steps in (
      step.0,
      step.2,
      one_more (map told_text c.loop-line.told.items) (map told_text c.add.new.told.items) (told_text c.loop-line.last) (told_text c.in-Ok-add.last) c.loop-line.number c.saturating_add-number.result
          (line_read c.loop-line.number c.in-Some.line.now) (line_text c.in-Ok.read) step.0 (told_of (lines c.args.text.now))
          ((λ i. told_with (map told_text c.loop-line.told.items) (told_text c.loop-line.last) (lines_said c.loop-line.number (sym step.1 i))) ∙ c.loop-line.invariant.2)
          c.in-Ok.ensures c.saturating_add-number.ensures c.in-Ok-add.ensures,
    )

pub returns-in-Ok-push : goal.returns-in-Ok-push
returns-in-Ok-push c =
    let none : c.loop-line.invariant.0 ≡ [] = no_line c.loop-line.invariant.0 c.loop-line.invariant.1 c.in-None.ensures.steps in
    let items : c.push.new.self.items ≡ c.loop-line.told.items ++ c.loop-line.last ∷ [] = c.in-Ok-push.ensures.items in
    ends (map told_text c.loop-line.told.items) (told_text c.loop-line.last) c.loop-line.number c.loop-line.invariant.0 (told_of (lines c.args.text.now)) none c.loop-line.invariant.2
    ∙ ap (λ l. Ok l) (sym (ap (map told_text) items ∙ map-append told_text c.loop-line.told.items (c.loop-line.last ∷ [])))
