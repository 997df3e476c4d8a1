use Rattle.std.proofs.Common.{arith}
use Rattle.host_core.proofs.Openings.{limits}
use Rattle.host_bench.proofs.Benches.{opens_kept}
use Rattle.host_bench.proofs.bench.HostBench.open.Goals as goal

pub overflow_add-config : goal.overflow_add-config
overflow_add-config g c = let most = (limits c.args.config c.in-Ok.ensures.fits).numbers.few_queues in omega (arith, most)

pub open-requires-2-clause-queues : goal.open-requires-2-clause-queues
open-requires-2-clause-queues g c = let most = (limits c.args.config c.in-Ok.ensures.fits).numbers.few_queues in omega (arith, most)

pub invariant_of-result : goal.invariant_of-result
invariant_of-result g c =
    record {
      over = c.in-Ok.ensures.over;
      bench = opens_kept c.args.config c.in-Ok.opened.host c.in-Ok.opened.store.pages c.in-Ok-open.values c.in-Ok.ensures.host c.in-Ok.ensures.pages c.in-Ok-open.ensures;
    }
