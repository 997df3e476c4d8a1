use Rattle.std.{proofs.Common.{sym, ap, ◌∙◌}, specs.Option.{option_copied_mut, is_some}}
use Rattle.slot_table.{proofs.Linked.linked_after, specs.Nodes.thread_of}
use Rattle.slot_table.proofs.nodes.Nodes.link_after.Goals as goal

pub returns-in-Some-clause-links : goal.returns-in-Some-clause-links
returns-in-Some-clause-links g c =
    let s = c.args.self.now in
    let has = sym c.get_mut.ensures.value ∙ ap option_copied_mut c.unwrap.ensures in
    rw (c.in-Some.is) (linked_after (thread_of s.map s.first s.last) _ c.in-Some.key c.unwrap.result.now has c.args.after ((c.get_mut.follows.holds _).3 (ap is_some has)).0)
