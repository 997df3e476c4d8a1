use Rattle.std.proofs.Common.{ap, ◌∙◌}
use Rattle.part_tests.{proofs.Ranges.{bytes_read, bytes_past}, specs.Guest.GuestContents}
use Rattle.part_tests.proofs.guest_memory.GuestMemoryDma.read.Goals as goal

pub returns-in_default-clause-missing : goal.returns-in_default-clause-missing
returns-in_default-clause-missing c = bytes_past c.args.self.now.bytes c.args.addr _ c.requires.some c.in_default.ensures.past

pub returns-clause-read : goal.returns-clause-read
returns-clause-read c =
    bytes_read c.args.self.now.bytes c.deref.result.now _ c.args.addr c.in-Some.at _ (c.deref.ensures.value ∙ ap (λ (m : GuestContents). m.bytes) c.self.view_is ∙ c.touch.ensures.kept)
    c.in-Some.ensures.at c.in-Some.ensures.there c.copy_from_slice.ensures.after
