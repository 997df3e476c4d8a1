use Rattle.std.{proofs.Common.{◌≡◌, ◌+◌, ap, subst, sym, ◌∙◌, Some, None}, proofs.lemmas.Option.none-some, specs.HashMap.hash_map_len}
use Rattle.slot_table.proofs.Linked.{put_end, put_left, more_of, same_entries, value_at-rows, empty_look}
use Rattle.slot_table.specs.Nodes.{Place, thread_of, rows_in, value_of, IsThreaded}
use Rattle.slot_table.proofs.linked_table.LinkedTable.put.Goals as goal

pub unreachable-requires : goal.unreachable-requires
unreachable-requires g c =
    let i = c.self.inside.nodes in
    let t = thread_of i.map i.first i.last in
    let k : Place = (c.args.q, c.args.cid) in
    let empty : value_of t k ≡ None = sym (value_at-rows t _ c.self.invariant k) ∙ rw (← c.self.view_is) at c.requires.empty in
    none-some c.in-Some.field-0 (sym (empty_look (t.look k) empty) ∙ sym c.in-Ok.ensures.old ∙ c.in-Some.is)

pub invariant_of-self : goal.invariant_of-self
invariant_of-self g c =
    let i = c.self.inside.nodes in
    same_entries IsThreaded i.map c.insert.new.self i.first i.last c.in-Err.ensures.err c.self.invariant

pub link_after-requires : goal.link_after-requires
link_after-requires g c =
    let i = c.self.inside.nodes in
    let t = thread_of i.map i.first i.last in
    let k : Place = (c.args.q, c.args.cid) in
    let empty : value_of t k ≡ None = sym (value_at-rows t _ c.self.invariant k) ∙ rw (← c.self.view_is) at c.requires.empty in
    put_end t _ c.self.invariant k _ c.args.value empty c.in-Ok.ensures.updates.0

pub invariant_of-self-2 : goal.invariant_of-self-2
invariant_of-self-2 g c =
    let i = c.self.inside.nodes in
    let n = c.link_after.new.self in
    let t = thread_of i.map i.first i.last in
    let k : Place = (c.args.q, c.args.cid) in
    let empty : value_of t k ≡ None = sym (value_at-rows t _ c.self.invariant k) ∙ rw (← c.self.view_is) at c.requires.empty in
    let more : hash_map_len i.map + 1 ≡ hash_map_len n.map = more_of c.in-Ok.old c.in-None.is _ _ _ c.in-Ok.ensures.len c.link_after.ensures.count in
    subst (IsThreaded (thread_of n.map n.first (Some k))) more
    (put_left t _ c.self.invariant k _ c.args.value empty c.in-Ok.ensures.updates.0 (thread_of n.map n.first n.last) c.link_after.ensures.links).threaded

pub returns-clause-put : goal.returns-clause-put
returns-clause-put g c =
    let i = c.self.inside.nodes in
    let n = c.link_after.new.self in
    let t = thread_of i.map i.first i.last in
    let k : Place = (c.args.q, c.args.cid) in
    let empty : value_of t k ≡ None = sym (value_at-rows t _ c.self.invariant k) ∙ rw (← c.self.view_is) at c.requires.empty in
    let more : hash_map_len i.map + 1 ≡ hash_map_len n.map = more_of c.in-Ok.old c.in-None.is _ _ _ c.in-Ok.ensures.len c.link_after.ensures.count in
    rw (← c.self.view_is) (ap (rows_in (thread_of n.map n.first (Some k))) (sym more)
    ∙ (put_left t _ c.self.invariant k _ c.args.value empty c.in-Ok.ensures.updates.0 (thread_of n.map n.first n.last) c.link_after.ensures.links).rows_are)
