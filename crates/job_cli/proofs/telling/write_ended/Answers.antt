-- One more job is told; a write that fails leaves a prefix of what is told.
use Rattle.std.proofs.Common.{◌∙◌}
use Rattle.script_cli.proofs.Runs.{on_err}
use Rattle.job_cli.proofs.Told.{one_passed, told_inside, told_more}
use Rattle.job_cli.proofs.telling.write_ended.Goals as goal

pub returns-in_err-put-clause-cut : goal.returns-in_err-put-clause-cut
returns-in_err-put-clause-cut g c lines =
    on_err c.from_residual-in_err-put.result
    (told_inside c.args.ends.now c.args.headings.now c.loop-heading.left.now c.in-Some.later.now c.in-Some.heading.now c.in-Some-end_of.end.now c.as_bytes.result.now
    (g.W.Write.contents c.args.writer.now) (g.W.Write.contents c.loop-heading.writer) (g.W.Write.contents c.put.new.writer)
    c.in-Some.ensures.cases.0 c.in-Some-end_of.ensures (c.as_bytes.ensures.value ∙ c.in_ok-text.ensures.line lines) (c.loop-heading.invariant.written lines) c.in_err-put.ensures.front)

pub loop-heading-preserved : goal.loop-heading-preserved
loop-heading-preserved g c = record {
  left = c.loop-heading.invariant.left ∙ rw c.in-Some.ensures.cases.0 (one_passed c.args.ends.now c.in-Some.heading.now c.in-Some.later.now c.in-Some-end_of.end.now c.in-Some-end_of.ensures);
  written = λ lines.
      told_more c.args.ends.now c.args.headings.now c.loop-heading.left.now c.in-Some.later.now c.in-Some.heading.now c.in-Some-end_of.end.now c.as_bytes.result.now
      (g.W.Write.contents c.args.writer.now) (g.W.Write.contents c.loop-heading.writer) (g.W.Write.contents c.put.new.writer)
      c.in-Some.ensures.cases.0 c.in-Some-end_of.ensures (c.as_bytes.ensures.value ∙ c.in_ok-text.ensures.line lines) (c.loop-heading.invariant.written lines) c.in_ok-put.ensures.written;
}
