use Rattle.queue_pair.proofs.Rings.{read_is_entry, read_is_front}
use Rattle.queue_pair.proofs.device.DevicePair.next_entry.Goals as goal

pub returns-clause-entry : goal.returns-clause-entry
returns-clause-entry g c =
    rw (← c.self.view_is)
    (read_is_entry _ c.self.inside.sq c.self.inside.head _ _ _ c.in-Ok.ensures.read c.submission_address.ensures c.read-2.ensures.exact)

pub returns-clause-front : goal.returns-clause-front
returns-clause-front g c =
    rw (← c.self.view_is)
    (read_is_front _ c.self.inside.sq c.self.inside.entries c.self.inside.head c.self.inside.bell _ _ _ c.in-Ok.ensures.read c.submission_address.ensures c.read-2.ensures.exact c.self.invariant.head c.self.invariant.bell c.if-self.false)
