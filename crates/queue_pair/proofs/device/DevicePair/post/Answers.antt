use Rattle.std.proofs.Common.{ap}
use Rattle.entry_codec.specs.declared.completion.ComEntry.{ComEntry}
use Rattle.queue_pair.proofs.Rings.{completions_posted, phases_posted}
use Rattle.queue_pair.proofs.device.DevicePair.post.Goals as goal

pub returns-clause-appended : goal.returns-clause-appended
returns-clause-appended g c =
    rw (← c.self.view_is) (λ host pair proper free.
    completions_posted _ _ c.self.inside.cq c.self.inside.entries c.self.inside.tail _ _ _ _ host c.in-Ok.ensures.written c.completion_address.ensures
    c.slot_after-self-inside.ensures.value c.completion_image-bytes.ensures.count c.completion_image-bytes.ensures.back pair.entries c.self.invariant.tail proper.head free)

pub returns-clause-phases : goal.returns-clause-phases
returns-clause-phases g c =
    rw (← c.self.view_is) (λ stand.
    phases_posted _ _ c.self.inside.cq c.self.inside.entries c.self.inside.tail _ c.self.inside.phase _ _ _ c.in-Ok.ensures.written c.completion_address.ensures
    c.slot_after-self-inside.ensures.value c.phase_after-self-inside.ensures c.completion_image-bytes.ensures.count (ap (λ (e : ComEntry). e.phase) c.completion_image-bytes.ensures.back) c.self.invariant.tail stand)
