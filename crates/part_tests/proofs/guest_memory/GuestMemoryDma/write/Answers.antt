use Rattle.std.proofs.Common.{List, ℕ, length, ap, sym, ◌∙◌}
use Rattle.part_tests.{proofs.Ranges.{bytes_some, bytes_written, bytes_past}, specs.Guest.GuestContents}
use Rattle.part_tests.proofs.guest_memory.GuestMemoryDma.write.Goals as goal

pub returns-in_default-clause-missing : goal.returns-in_default-clause-missing
returns-in_default-clause-missing c = bytes_past c.args.self.now.bytes c.args.addr _ c.requires.some c.in_default.ensures.past

pub returns-clause-there : goal.returns-clause-there
returns-clause-there c = bytes_some c.args.self.now.bytes c.args.addr c.in-Some.at _ c.in-Some.ensures.at c.in-Some.ensures.there

pub returns-clause-written : goal.returns-clause-written
returns-clause-written c =
    bytes_written c.args.self.now.bytes c.deref_mut.result.now c.self.inside.bytes.items c.put.new.all c.args.bytes.now _ c.args.addr c.in-Some.at (ap (λ (m : GuestContents). m.bytes) c.self.view_is ∙ c.touch.ensures.kept)
    c.deref_mut.ensures.value c.put.ensures (sym c.deref_mut.ensures.len ∙ ap (λ (bytes : List ℕ). length bytes) c.deref_mut.ensures.value) c.in-Some.ensures.at c.in-Some.ensures.there
