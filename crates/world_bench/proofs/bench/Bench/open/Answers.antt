use Rattle.std.proofs.Common.{◌+◌, arith, refl, subst, sym}
use Rattle.host_core.proofs.Openings.{limits}
use Rattle.host_bench.proofs.KeptRows.{opens_tied}
use Rattle.host_core.proofs.Openings.{length-queues_from}
use Rattle.host_bench.specs.CommandValues.{IsBench}
use Rattle.machine_model.specs.State.{State}
use Rattle.step_core.specs.Opening.{opening_of}
use Rattle.world_bench.proofs.bench.Bench.open.Goals as goal

pub overflow_add-config : goal.overflow_add-config
overflow_add-config g c = let most = (limits c.args.config c.in-Ok.ensures.fits).numbers.few_queues in omega (arith, most)

pub open-requires-2-clause-queues : goal.open-requires-2-clause-queues
open-requires-2-clause-queues g c = let most = (limits c.args.config c.in-Ok.ensures.fits).numbers.few_queues in omega (arith, most)

pub invariant_of-result : goal.invariant_of-result
invariant_of-result g c =
    subst (λ (s : State). IsBench s c.in-Ok-open.values) (sym c.in-Ok-over.ensures.opened) (opens_tied (opening_of c.args.config c.args.image) c.args.config c.in-Ok-open.values (length-queues_from 0 c.args.config.entries (c.args.config.queues + 1)) refl c.in-Ok-open.ensures)
