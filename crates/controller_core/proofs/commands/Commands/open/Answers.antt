use Rattle.controller_core.proofs.Counting.{none_counted}
use Rattle.controller_core.proofs.commands.Commands.open.Goals as goal

pub invariant_of-result : goal.invariant_of-result
invariant_of-result g c = rw c.new.ensures (tt, tt, none_counted c.args.queues c.in_ok-vec.field-0.items (c.in_ok-vec.ensures.items_if_clones_equal (λ y is. is)))
