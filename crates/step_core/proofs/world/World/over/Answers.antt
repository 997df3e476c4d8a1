use Rattle.std.proofs.Common.{arith, ◌∙◌, ap, List}
use Rattle.controller_core.specs.{Opening.opened, declared.queue.QueuePages.QueuePages}
use Rattle.host_core.proofs.Openings.{limits}
use Rattle.step_core.proofs.Steps.{opened_as_world}
use Rattle.step_core.proofs.world.World.over.Goals as goal

pub overflow_cast-config : goal.overflow_cast-config
overflow_cast-config g c = let most = (limits c.args.config c.requires.fits).numbers.few_queues in omega (arith, most)

pub overflow_add-config : goal.overflow_add-config
overflow_add-config g c = let most = (limits c.args.config c.requires.fits).numbers.few_queues in omega (arith, most)

pub halves-halves-requires-clause-few : goal.halves-halves-requires-clause-few
halves-halves-requires-clause-few g c = let most = (limits c.args.config c.requires.fits).numbers.few_queues in omega (arith, most)

pub invariant_of-result : goal.invariant_of-result
invariant_of-result g c =
    (opened_as_world c.args.config c.args.image c.args.opened.host c.args.opened.store.pages c.halves-halves.result.items c.in-Ok.controller c.requires.fits c.requires.host c.requires.pages c.halves-halves.ensures
    (c.in-Ok.ensures.opened ∙ ap (λ (halves : List QueuePages). opened c.args.config.entries halves c.args.image) c.deref.ensures.0)).0

pub returns-in-Ok-clause-opened : goal.returns-in-Ok-clause-opened
returns-in-Ok-clause-opened g c =
    (opened_as_world c.args.config c.args.image c.args.opened.host c.args.opened.store.pages c.halves-halves.result.items c.in-Ok.controller c.requires.fits c.requires.host c.requires.pages c.halves-halves.ensures
    (c.in-Ok.ensures.opened ∙ ap (λ (halves : List QueuePages). opened c.args.config.entries halves c.args.image) c.deref.ensures.0)).1
