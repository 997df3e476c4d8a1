use Rattle.queue_pair.proofs.Rings.{entries_posted}
use Rattle.queue_pair.proofs.host.HostPair.post.Goals as goal

pub returns-clause-appended : goal.returns-clause-appended
returns-clause-appended g c =
    rw (← c.self.view_is) (λ controller pair proper free.
    entries_posted _ _ c.self.inside.sq c.self.inside.entries c.self.inside.tail _ _ _ _ controller (rw c.unwrap.ensures at c.write.ensures.written) c.submission_address.ensures
    c.slot_after-tail.ensures.value c.submission_image-bytes.ensures.count c.submission_image-bytes.ensures.back pair.sq pair.entries c.self.invariant.tail proper.head free)
