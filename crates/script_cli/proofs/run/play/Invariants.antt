-- the lines that came have been played, and what they print was written; the others are left
use Rattle.std.proofs.Common.{◌≡◌, ◌++◌}
use Rattle.script_cli.proofs.Runs.{HasPrinted}
use Rattle.script_cli.proofs.run.play.Given as goal

abbrev pub invariant-loop-numbered : goal.invariant-loop-numbered
invariant-loop-numbered g l = record {
  lines : l.yielded ++ l.numbered-iterator.rest.items ≡ l.fn.script;
  printed : HasPrinted l.fn.bench.table l.yielded l.bench.table l.unwell (g.W.Write.contents l.fn.writer) (g.W.Write.contents l.writer);
}
