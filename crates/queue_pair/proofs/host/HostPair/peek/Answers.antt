use Rattle.queue_pair.proofs.Rings.{peeked}
use Rattle.queue_pair.proofs.host.HostPair.peek.Goals as goal

pub returns-then-entry-self-clause-front : goal.returns-then-entry-self-clause-front
returns-then-entry-self-clause-front g c =
    rw (← c.self.view_is) (λ controller pair proper stand tied.
    peeked _ c.self.inside.cq c.self.inside.entries c.self.inside.head _ c.self.inside.phase _ _ controller (rw c.unwrap.ensures at c.read.ensures.read) c.completion_address.ensures c.read-entry.ensures.exact
    c.if-entry-self.true pair.cq pair.entries c.self.invariant.head proper.tail stand tied)
