use Rattle.std.proofs.Common.{ap, arith}
use Rattle.driver_book.specs.declared.two_passes.Bounds.{Bounds}
use Rattle.driver_book.proofs.two_passes.in_two_passes.Goals as goal

pub first_behind-requires-clause-within : goal.first_behind-requires-clause-within
first_behind-requires-clause-within g c =
    let queues = ap (λ (b : Bounds). b.queues) c.in-Ok.bounds-is in
    let identifiers = ap (λ (b : Bounds). b.identifiers) c.in-Ok.bounds-is in
    λ k before e get is.
    let both = c.in-Ok.ensures.within k before e get is in
    (omega (arith, both.0, queues, c.in-Ok-none.ensures.queues), omega (arith, both.1, identifiers, c.in-Ok-none.ensures.identifiers))

pub first_behind-requires-clause-tells : goal.first_behind-requires-clause-tells
first_behind-requires-clause-tells g c = c.in-Ok-none.ensures.tells c.args.log.now.entries
