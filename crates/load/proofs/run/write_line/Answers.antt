use Rattle.std.{proofs.Common.{◌∙◌, ◌++◌, List, ap, subst, ℕ}, specs.Io.KnownBytes.Appends}
use Rattle.script_cli.proofs.Runs.{on_err}
use Rattle.load.{proofs.Loads.whole_written, specs.Lines.line_text}
use Rattle.load.proofs.run.write_line.Goals as goal

pub returns-clause-cut : goal.returns-clause-cut
returns-clause-cut g c =
    let before = g.W.Write.contents c.args.writer.now in
    let after = g.W.Write.contents c.put.new.writer in
    let written = subst (λ (line : List ℕ). Appends before after line) (c.as_bytes.ensures.value ∙ c.in_ok-append_line.ensures ∙ ap (λ (front : List ℕ). front ++ line_text c.args.pattern c.args.tally) c.new-line.ensures.bytes) c.in_ok-put.ensures.written in
    on_err c.flush.result (whole_written (line_text c.args.pattern c.args.tally) before after (g.W.Write.contents c.flush.new.writer) written c.flush.ensures.kept)
