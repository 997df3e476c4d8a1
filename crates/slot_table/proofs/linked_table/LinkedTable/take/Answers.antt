use Rattle.std.{proofs.Common.{◌≡◌, ◌+◌, ap, sym, ◌∙◌, arith}, specs.{HashMap.hash_map_len, Option.option_map}}
use Rattle.slot_table.proofs.{Linked.{take_start, take_end, take_left, same_entries, rows-distinct, rows-empty, value_at-rows}, Rows.without-none}
use Rattle.slot_table.specs.{Nodes.{Place, thread_of, rows_in, IsThreaded}, Rows.without}
use Rattle.slot_table.proofs.linked_table.LinkedTable.take.Goals as goal

pub invariant_of-self : goal.invariant_of-self
invariant_of-self g c =
    let i = c.self.inside.nodes in
    same_entries IsThreaded i.map c.remove.new.self i.first i.last c.in_err-node.ensures.unchanged c.self.invariant

pub returns-in_err-node-clause-value : goal.returns-in_err-node-clause-value
returns-in_err-node-clause-value g c =
    let none = sym c.remove.ensures.value ∙ c.in_err-node.was in
    c.from_residual.ensures
    ∙ rw (← c.self.view_is) (sym (value_at-rows _ _ c.self.invariant (c.args.q, c.args.cid) ∙ ap (option_map (λ n. n.value)) none))

pub returns-in_err-node-clause-rest : goal.returns-in_err-node-clause-rest
returns-in_err-node-clause-rest g c =
    let i = c.self.inside.nodes in
    let none = sym c.remove.ensures.value ∙ c.in_err-node.was in
    let t = thread_of i.map i.first i.last in
    let count = hash_map_len i.map in
    rw (← c.self.view_is) (
    same_entries (λ u n. rows_in u n ≡ without (rows_in t count) c.args.q c.args.cid) i.map c.remove.new.self i.first i.last c.in_err-node.ensures.unchanged
    (sym (without-none (rows_in t count) c.args.q c.args.cid (rows-empty t count c.self.invariant (c.args.q, c.args.cid) (ap (option_map (λ n. n.value)) none)))))

pub link_after-requires : goal.link_after-requires
link_after-requires g c =
    let i = c.self.inside.nodes in
    let has = sym c.remove.ensures.value ∙ c.in_ok-node.was in
    take_start (thread_of i.map i.first i.last) _ c.self.invariant (c.args.q, c.args.cid) _ c.in_ok-node.node has c.remove.ensures.updates.0

pub link_before-requires : goal.link_before-requires
link_before-requires g c =
    let i = c.self.inside.nodes in
    let has = sym c.remove.ensures.value ∙ c.in_ok-node.was in
    take_end (thread_of i.map i.first i.last) _ c.self.invariant (c.args.q, c.args.cid) _ c.in_ok-node.node has c.remove.ensures.updates.0 _ c.link_after.ensures.links

pub invariant_of-self-2 : goal.invariant_of-self-2
invariant_of-self-2 g c =
    let i = c.self.inside.nodes in
    let n = c.link_before.new.self in
    let has = sym c.remove.ensures.value ∙ c.in_ok-node.was in
    let t = thread_of i.map i.first i.last in
    let k : Place = (c.args.q, c.args.cid) in
    let one : hash_map_len n.map + 1 ≡ hash_map_len i.map = omega (arith, c.link_before.ensures.count, c.link_after.ensures.count, c.in_ok-node.ensures.len) in
    (take_left t _ c.self.invariant k _ c.in_ok-node.node has c.remove.ensures.updates.0 _ (thread_of n.map n.first n.last) c.link_after.ensures.links c.link_before.ensures.links
    (hash_map_len n.map) one).threaded

pub returns-clause-value : goal.returns-clause-value
returns-clause-value g c =
    let has = sym c.remove.ensures.value ∙ c.in_ok-node.was in
    rw (← c.self.view_is) (sym (value_at-rows _ _ c.self.invariant (c.args.q, c.args.cid) ∙ ap (option_map (λ n. n.value)) has))

pub returns-clause-rest : goal.returns-clause-rest
returns-clause-rest g c =
    let i = c.self.inside.nodes in
    let n = c.link_before.new.self in
    let has = sym c.remove.ensures.value ∙ c.in_ok-node.was in
    let t = thread_of i.map i.first i.last in
    let k : Place = (c.args.q, c.args.cid) in
    let one : hash_map_len n.map + 1 ≡ hash_map_len i.map = omega (arith, c.link_before.ensures.count, c.link_after.ensures.count, c.in_ok-node.ensures.len) in
    rw (← c.self.view_is) (take_left t _ c.self.invariant k _ c.in_ok-node.node has c.remove.ensures.updates.0 _
    (thread_of n.map n.first n.last) c.link_after.ensures.links c.link_before.ensures.links (hash_map_len n.map) one).rows_are

pub returns-clause-distinct : goal.returns-clause-distinct
returns-clause-distinct g c = rw (← c.self.view_is) (rows-distinct _ _ c.self.invariant)
