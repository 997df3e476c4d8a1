use Rattle.std.{proofs.Common.{◌≡◌, ap, subst, sym, ◌∙◌, inl, inr}, specs.{HashMap.hash_map_len, Option.{option_map, option_copied_mut, is_some}}}
use Rattle.slot_table.proofs.Linked.{write_left, rows-distinct, value_at-rows}
use Rattle.slot_table.specs.{Nodes.{Place, thread_of, IsThreaded, rows_in}, Rows.with_value}
use Rattle.slot_table.proofs.linked_table.LinkedTable.get_mut.Goals as goal

pub invariant_of-self-lent : goal.invariant_of-self-lent
invariant_of-self-lent g c w =
    let i = c.self.inside.nodes in
    let t = thread_of i.map i.first i.last in
    let k : Place = (c.args.q, c.args.cid) in
    let node = c.in-Some.node.now in
    let has = sym c.get_mut.ensures.value ∙ ap option_copied_mut c.in-Some.is in
    let holds = c.get_mut.follows.holds _ in
    subst (IsThreaded _) (sym holds.2) (write_left t (hash_map_len i.map) c.self.invariant k _ node has w (holds.3 (ap is_some has)).0).threaded

pub invariant_of-self : goal.invariant_of-self
invariant_of-self g c =
    let i = c.self.inside.nodes in
    subst (λ m. IsThreaded (thread_of m i.first i.last) (hash_map_len m)) (sym c.get_mut.follows.holds-at-none) c.self.invariant

pub returns-in-Some : goal.returns-in-Some
returns-in-Some g c =
    let i = c.self.inside.nodes in
    let t = thread_of i.map i.first i.last in
    let k : Place = (c.args.q, c.args.cid) in
    let node = c.in-Some.node.now in
    let has = sym c.get_mut.ensures.value ∙ ap option_copied_mut c.in-Some.is in
    let written = λ (w : g.row.R.Denot). record node { value = w } in
    let same : (w : g.row.R.Denot) → rows_in (thread_of (c.get_mut.follows.lender (written w)) i.first i.last) (hash_map_len (c.get_mut.follows.lender (written w))) ≡ with_value c.args.self.now c.args.q c.args.cid w = λ w.
    let holds = c.get_mut.follows.holds (written w) in
    ap (rows_in (thread_of (c.get_mut.follows.lender (written w)) i.first i.last)) holds.2
    ∙ (write_left t (hash_map_len i.map) c.self.invariant k _ node has w (holds.3 (ap is_some has)).0).rows_are
    ∙ ap (λ rows. with_value rows c.args.q c.args.cid w) c.self.view_is in (
      (λ t. inl (c.node-1.given, λ w. same w t)),
      record {
        writes_back = tt;
        value = rw (← c.self.view_is) (sym (value_at-rows _ _ c.self.invariant k ∙ ap (option_map (λ n. n.value)) has));
        distinct = rw (← c.self.view_is) (rows-distinct _ _ c.self.invariant);
      },
    )

pub returns-in-None : goal.returns-in-None
returns-in-None g c =
    let i = c.self.inside.nodes in
    let k : Place = (c.args.q, c.args.cid) in
    let none = sym c.get_mut.ensures.value ∙ ap option_copied_mut c.in-None.is in (
      rw (← c.self.view_is) (ap inr (ap (λ m. rows_in (thread_of m i.first i.last) (hash_map_len m)) c.get_mut.follows.holds-at-none)),
      record {
        writes_back = tt;
        value = rw (← c.self.view_is) (sym (value_at-rows _ _ c.self.invariant k ∙ ap (option_map (λ n. n.value)) none));
        distinct = tt;
      },
    )
