-- the bench is as it was
use Rattle.std.proofs.Common.{◌≡◌}
use Rattle.texts.proofs.traces.lists.put_list.Given as goal

abbrev pub invariant-loop : goal.invariant-loop
invariant-loop l = l.bench.table ≡ l.fn.bench.table
