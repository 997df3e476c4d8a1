-- the bench is as it was
use Rattle.std.proofs.Common.{◌≡◌}
use Rattle.texts.proofs.traces.lists.put_segment.Given as goal

abbrev pub invariant-loop-i : goal.invariant-loop-i
invariant-loop-i l = l.bench.table ≡ l.fn.bench.table
