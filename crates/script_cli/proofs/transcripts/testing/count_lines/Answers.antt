-- Each line counts one.
use Rattle.std.proofs.Common.{arith, ◌≡◌, ◌+◌, [], length, min, ap, ◌∙◌, zero-add}
use Rattle.std.specs.Str.Iter.{lines_rest}
use Rattle.script_cli.proofs.TextLines.{all_lines, next_line, no_line}
use Rattle.script_cli.specs.{Lines.lines}
use Rattle.script_cli.proofs.transcripts.testing.count_lines.Goals as goal

pub loop-line-init : goal.loop-line-init
loop-line-init c =
    let rest : lines_rest c.into_iter-line-iterator.result ≡ c.args.text.now = cc in (
      lines c.args.text.now,
      all_lines c.args.text.now rest,
      omega arith,
      ap (λ n. min n 4294967295) (zero-add (length (lines c.args.text.now))),
    )

pub loop-line-preserved : goal.loop-line-preserved
loop-line-preserved c =
    let step = next_line {t = c.next.new.self} c.in-Some._line c.loop-line.invariant.0 c.loop-line.invariant.1 c.in-Some.ensures.steps in
    let longer : length c.loop-line.invariant.0 ≡ length step.0 + 1 = ap length step.1 ∙ omega arith in
    (step.0, step.2, omega (arith, c.saturating_add-count.ensures), omega (arith, longer, c.saturating_add-count.ensures, c.loop-line.invariant.3))

pub returns : goal.returns
returns c =
    let none : c.loop-line.invariant.0 ≡ [] = no_line c.loop-line.invariant.0 c.loop-line.invariant.1 c.in-None.ensures.steps in
    let last : length c.loop-line.invariant.0 ≡ 0 = ap length none in
    omega (arith, last, c.loop-line.invariant.2, c.loop-line.invariant.3)
