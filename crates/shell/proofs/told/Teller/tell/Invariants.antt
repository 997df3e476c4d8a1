-- the lines that came have been played, and what is told of them was written; the others are left
use Rattle.std.proofs.Common.{◌≡◌, ◌++◌}
use Rattle.shell.proofs.ToldRuns.{HasTold}
use Rattle.shell.proofs.told.Teller.tell.Given as goal

abbrev pub invariant-loop-numbered : goal.invariant-loop-numbered
invariant-loop-numbered g l = record {
  lines : l.yielded ++ l.numbered-iterator.rest.items ≡ l.fn.script;
  told : HasTold l.fn.self.telling l.fn.bench.table l.yielded l.bench.table l.unwell (g.W.Write.contents l.fn.writer) (g.W.Write.contents l.writer);
}
