-- A linked table: its rows, and what the steps of each call make of its map and its list.
use Rattle.std.proofs.Common.{◌≡◌, ◌≢◌, ℕ, zero, suc, ◌+◌, ◌≤◌, cond, if◌then◌else◌, List, [], ◌∷◌, length, Option, Some, None, IsSome, refl, sym, ap, subst}
use Rattle.std.proofs.Common.{◌∙◌, inl, inr, arith, true≢false}
use Rattle.std.proofs.lemmas.{Bool.{cases_eq, eq-eqb, ne_eqb}, Option.none-some}
use Rattle.std.specs.{HashMap.{HashMap, hash_map_len}, Map.lookup, Option.{option_map, option_and_then, is_some}}
use Rattle.slot_table.proofs.Rows.{IsKind, place_eq-same, place_behind-none}
use Rattle.slot_table.proofs.Whole.{Sets, Leaves, length-order, order-distinct, first-order, order-empty, behind-order, neighbours, take, write, value_at-order}
use Rattle.slot_table.proofs.Whole.{ends-each, put}
use Rattle.slot_table.specs.Chains.{Leads, rows_of}
use Rattle.slot_table.specs.Nodes.{Place, place_eq, thread_of, Thread, after_of, before_of, value_of, walk, rows_in, LinksAfter, LinksBefore, IsThreaded, IsEnd}
use Rattle.slot_table.specs.{declared.nodes.Node.Node}
use Rattle.slot_table.specs.Rows.{Row, value_at, with_value, with_last, without, place_behind, first_place, NoneAt, IsDistinct}

pub nodes : IsKind (λ (k : Place). Some k) (λ k. k) (λ p. p) None
nodes = record {
  cases = λ x y.
      elim (cases_eq x.0 y.0) [
        | inl first ↦ elim (cases_eq x.1 y.1) [
          | inl second ↦ inl (λ i. (first i, second i))
          | inr other ↦ inr (λ e. let same : x ≡ y = cc in other (ap (λ (p : Place). p.1) same))
        ]
        | inr other ↦ inr (λ e. let same : x ≡ y = cc in other (ap (λ (p : Place). p.0) same))
      ];
  apart = λ x k other.
      elim (cases_eq x.0 k.0) [
        | inl first ↦ rw (eq-eqb x.0 k.0 first, ne_eqb x.1 k.1 (λ second. other (λ i. Some (first i, second i)))) refl
        | inr away ↦ rw (ne_eqb x.0 k.0 away) refl
      ];
  show_end = refl;
  show_at = λ k _. refl;
}

-- a node where there was none is one more
pub more_of : {B : Type 0} (old : Option B) → old ≡ None → (before mid after : ℕ) → mid ≡ before + (if is_some old then 0 else 1) → after ≡ mid → before + 1 ≡ after
more_of None is before mid after m a = omega (arith, m, a)
more_of (Some x) is before mid after m a = absurd (none-some x (sym is))

module _ {R : Type 0} where
  -- a walk along the links finds the slots
  walk-leads : (t : Thread R) (x : Option Place) (xs : List Place) (most : ℕ) → Leads (λ k. Some k) (after_of t) (before_of t) x xs None → length xs ≤ most → walk t (after_of t x) most ≡ xs
  walk-leads t x [] zero l fits = refl
  walk-leads t x [] (suc most) l fits = rw l.0 refl
  walk-leads t x (y ∷ ys) zero l fits = absurd (omega arith)
  walk-leads t x (y ∷ ys) (suc most) l fits = rw l.0.0 (ap (λ ks. y ∷ ks) (walk-leads t (Some y) ys most l.1 (omega arith)))

  some_node : (o : Option (Node R)) → IsSome (option_map (λ n. n.value) o) → IsSome o
  some_node None e = e
  some_node (Some n) e = refl

  pub empty_look : (o : Option (Node R)) → option_map (λ n. n.value) o ≡ None → o ≡ None
  empty_look None e = refl
  empty_look (Some n) e = absurd (none-some n.value (sym e))

  module _ (t : Thread R) (count : ℕ) (is : IsThreaded t count) where
    rows-order : rows_in t count ≡ rows_of (λ k. k) (value_of t) is.thread.order
    rows-order = ap (rows_of (λ k. k) (value_of t)) (walk-leads t None is.thread.order count is.thread.leads (omega (arith, is.thread.counted)))

    pub length-rows : length (rows_in t count) ≡ count
    length-rows = rw rows-order (length-order nodes is.thread)

    pub rows-distinct : IsDistinct (rows_in t count)
    rows-distinct = rw rows-order (order-distinct nodes is.thread)

    pub first-rows : t.first ≡ first_place (rows_in t count)
    first-rows = rw rows-order (sym (first-order nodes is.thread))

    pub rows-empty : (k : Place) → value_of t k ≡ None → NoneAt (rows_in t count) k.0 k.1
    rows-empty k empty = rw rows-order (order-empty nodes is.thread k empty)

    pub value_at-rows : (k : Place) → value_at (rows_in t count) k.0 k.1 ≡ value_of t k
    value_at-rows k = rw rows-order (value_at-order nodes is.thread k)

    -- the link at a row leads to the next row
    pub behind-none : (k : Place) → value_of t k ≡ None → None ≡ place_behind (rows_in t count) k.0 k.1
    behind-none k empty = sym (place_behind-none (rows_in t count) k.0 k.1 (rows-empty k empty))

    pub behind-rows : (k : Place) (node : Node R) → t.look k ≡ Some node → node.after ≡ place_behind (rows_in t count) k.0 k.1
    behind-rows k node has =
        rw rows-order (sym (behind-order nodes is.thread k node.value (ap (option_map (λ n. n.value)) has) ∙ ap (option_and_then (λ n. n.after)) has))

  -- what is left of a change
  pub record Left (t : Thread R) (count : ℕ) (rows : List (Row R)) : Type 0 where
    pub threaded : IsThreaded t count
    pub rows_are : rows_in t count ≡ rows

  remade : (t : Thread R) (count : ℕ) (rows : List (Row R)) → Leaves (λ k. Some k) (λ k. k) (after_of t) (before_of t) (value_of t) None count rows → Left t count rows
  remade t count rows leaves =
      let threaded : IsThreaded t count = record { thread = leaves.threads } in
      record { threaded = threaded; rows_are = rows-order t count threaded ∙ leaves.rows_is }

  -- what depends on a map's entries alone stays where they stay
  pub same_entries : {S : Type 0} (P : Thread R → ℕ → Type 0) (m n : HashMap Place (Node R) S) (first last : Option Place) → n.entries ≡ m.entries
      → P (thread_of m first last) (hash_map_len m) → P (thread_of n first last) (hash_map_len n)
  same_entries P m n first last same p =
      subst (λ es. P (record { look = λ k. lookup (place_eq k) es; first = first; last = last }) (length es)) (sym same) p

  -- the node of this slot is now another, or gone
  abbrev pub Changes : (Place → Option (Node R)) → (Place → Option (Node R)) → Place → Option (Node R) → Type 0
  Changes old new k node = (z : Place) → new z ≡ cond (place_eq k z) node (old z)

  module _ (t : Thread R) (look : Place → Option (Node R)) (k : Place) (node : Option (Node R)) (c : Changes t.look look k node) where
    abbrev pub changed : Thread R
    changed = record { look = look; first = t.first; last = t.last }

    own_look : look k ≡ node
    own_look = rw (place_eq-same k) at (c k)

    other_look : (z : Place) → Some z ≢ Some k → look z ≡ t.look z
    other_look z other = rw (nodes.apart k z (λ e. other (sym e))) at (c z)

    changed_sets : Sets (λ x. Some x) (value_of t) (value_of changed) k (option_map (λ n. n.value) node)
    changed_sets = record { own = ap (option_map (λ n. n.value)) own_look; others = λ z other. ap (option_map (λ n. n.value)) (other_look z other) }

    changed_after : (z : Option Place) → z ≢ Some k → after_of changed z ≡ after_of t z
    changed_after None o = refl
    changed_after (Some z) o = ap (option_and_then (λ n. n.after)) (other_look z o)

    changed_before : (z : Option Place) → z ≢ Some k → before_of changed z ≡ before_of t z
    changed_before None o = refl
    changed_before (Some z) o = ap (option_and_then (λ n. n.before)) (other_look z o)

    -- what the node has alike stays
    alike : {B : Type 0} (read : Option (Node R) → B) → read node ≡ read (t.look k) → (z : Place) → read (look z) ≡ read (t.look z)
    alike read same z =
        elim (nodes.cases z k) [
          | inl here ↦ ap (λ x. read (look x)) here ∙ ap read own_look ∙ same ∙ ap (λ x. read (t.look x)) (sym here)
          | inr other ↦ ap read (other_look z other)
        ]

    alike_after : option_and_then (λ n. n.after) node ≡ after_of t (Some k) → (z : Option Place) → after_of changed z ≡ after_of t z
    alike_after same None = refl
    alike_after same (Some z) = alike (option_and_then (λ n. n.after)) same z

    alike_before : option_and_then (λ n. n.before) node ≡ before_of t (Some k) → (z : Option Place) → before_of changed z ≡ before_of t z
    alike_before same None = refl
    alike_before same (Some z) = alike (option_and_then (λ n. n.before)) same z

  module _ (t : Thread R) (look : Place → Option (Node R)) (k : Place) (node : Node R) (has : t.look k ≡ Some node) where
    pub linked_after : (after : Option Place) → Changes t.look look k (Some (record node { after = after }))
        → LinksAfter t (record { look = look; first = t.first; last = t.last }) (Some k) after
    linked_after after c =
        record {
          here = ap (option_and_then (λ n. n.after)) (own_look t look k _ c);
          others = changed_after t look k _ c;
          before = alike_before t look k _ c (ap (option_and_then (λ n. n.before)) (sym has));
          values = alike t look k _ c (option_map (λ n. n.value)) (ap (option_map (λ n. n.value)) (sym has));
        }

    pub linked_before : (before : Option Place) → Changes t.look look k (Some (record node { before = before }))
        → LinksBefore t (record { look = look; first = t.first; last = t.last }) (Some k) before
    linked_before before c =
        record {
          here = ap (option_and_then (λ n. n.before)) (own_look t look k _ c);
          others = changed_before t look k _ c;
          after = alike_after t look k _ c (ap (option_and_then (λ n. n.after)) (sym has));
          values = alike t look k _ c (option_map (λ n. n.value)) (ap (option_map (λ n. n.value)) (sym has));
        }

  after_ignores : (t : Thread R) (last z : Option Place) → after_of (record t { last = last }) z ≡ after_of t z
  after_ignores t last None = refl
  after_ignores t last (Some z) = refl

  module _ (t : Thread R) (count : ℕ) (is : IsThreaded t count) (k : Place) (look : Place → Option (Node R)) where
    -- a put: the node stands in the map, and then the last leads to it
    module _ (value : R) (empty : value_of t k ≡ None) (c : Changes t.look look k (Some (record { value = value; before = t.last; after = None }))) where
      apart : (z : Place) → IsSome (value_of t z) → Some z ≢ Some k
      apart z some e = let same : z ≡ k = cc in true≢false (sym (subst IsSome (ap (value_of t) same ∙ empty) some))

      pub put_end : IsEnd (changed t look k _ c) t.last
      put_end =
          (ends-each nodes is.thread (IsEnd (changed t look k _ c)) tt (λ z some. some_node (look z) (subst IsSome (sym ((changed_sets t look k _ c).others z (apart z some))) some))).0

      pub put_left : (new : Thread R) → LinksAfter (changed t look k _ c) new t.last (Some k) → Left (record new { last = Some k }) (count + 1) (with_last (rows_in t count) k.0 k.1 value)
      put_left new a =
          let n = record new { last = Some k } in
          let last : t.last ≢ Some k = (ends-each nodes is.thread (λ z. z ≢ Some k) (none-some k) apart).0 in
          let before : (z : Option Place) → z ≢ None → z ≢ Some k → before_of (record new { last = Some k }) z ≡ before_of t z = λ z some other. before_else new a z some other in
          rw (rows-order t count is) (remade n (count + 1) _ (put nodes is.thread k value (after_of n) (before_of n) (value_of n) empty (none-some k) (record {
            after = after_ignores new (Some k) t.last ∙ a.here;
            before = a.before (Some k) ∙ ap (option_and_then (λ n. n.before)) (own_look t look k _ c);
            end_after = a.others (Some k) (λ e. last (sym e)) ∙ ap (option_and_then (λ n. n.after)) (own_look t look k _ c);
            end_before = refl;
            other_after = λ z o g. after_ignores new (Some k) z ∙ a.others z o ∙ changed_after t look k _ c z g;
            other_before = before;
          }) (record { own = a.values k ∙ (changed_sets t look k _ c).own; others = λ z g. a.values z ∙ (changed_sets t look k _ c).others z g })))
        where
          before_else : (new : Thread R) → LinksAfter (changed t look k _ c) new t.last (Some k) → (z : Option Place) → z ≢ None → z ≢ Some k
              → before_of (record new { last = Some k }) z ≡ before_of t z
          before_else new a None some other = absurd (some refl)
          before_else new a (Some z) some other = a.before (Some z) ∙ changed_before t look k _ c (Some z) other

    -- a take: the node leaves the map, and then its neighbours lead to each other
    module _ (node : Node R) (has : t.look k ≡ Some node) (c : Changes t.look look k None) where
      value_is : value_of t k ≡ Some node.value
      value_is = ap (option_map (λ n. n.value)) has

      before_is : before_of t (Some k) ≡ node.before
      before_is = ap (option_and_then (λ n. n.before)) has

      after_is : after_of t (Some k) ≡ node.after
      after_is = ap (option_and_then (λ n. n.after)) has

      pub take_start : IsEnd (changed t look k _ c) node.before
      take_start =
          subst (IsEnd (changed t look k _ c)) before_is
          (neighbours nodes is.thread k node.value value_is (IsEnd (changed t look k _ c)) tt
          (λ z o some. some_node (look z) (subst IsSome (sym ((changed_sets t look k _ c).others z o)) some))).0

      pub take_end : (mid : Thread R) → LinksAfter (changed t look k _ c) mid node.before node.after → IsEnd mid node.after
      take_end mid a =
          subst (IsEnd mid) after_is
          (neighbours nodes is.thread k node.value value_is (IsEnd mid) tt
          (λ z o some. some_node (mid.look z) (subst IsSome (sym (a.values z ∙ (changed_sets t look k _ c).others z o)) some))).1

      pub take_left : (mid new : Thread R) → LinksAfter (changed t look k _ c) mid node.before node.after → LinksBefore mid new node.after node.before → (rest : ℕ) → rest + 1 ≡ count
          → Left new rest (without (rows_in t count) k.0 k.1)
      take_left mid new a b rest one =
          rw (rows-order t count is) (remade new rest _ (take nodes is.thread k node.value value_is (after_of new) (before_of new) (value_of new) rest one (record {
            after = b.after (before_of t (Some k)) ∙ ap (after_of mid) before_is ∙ a.here ∙ sym after_is;
            before = ap (before_of new) after_is ∙ b.here ∙ sym before_is;
            other_after = λ z o g. b.after z ∙ a.others z (λ e. o (e ∙ sym before_is)) ∙ changed_after t look k _ c z g;
            other_before = λ z o g. b.others z (λ e. o (e ∙ sym after_is)) ∙ a.before z ∙ changed_before t look k _ c z g;
          }) (record { own = b.values k ∙ a.values k ∙ (changed_sets t look k _ c).own; others = λ z g. b.values z ∙ a.values z ∙ (changed_sets t look k _ c).others z g })))

    -- a write: the node has another value
    pub write_left : (node : Node R) (has : t.look k ≡ Some node) (value : R) (c : Changes t.look look k (Some (record node { value = value })))
        → Left (changed t look k _ c) count (with_value (rows_in t count) k.0 k.1 value)
    write_left node has value c =
        let n = changed t look k _ c in
        rw (rows-order t count is) (remade n count _ (write nodes is.thread k node.value (ap (option_map (λ n. n.value)) has) (after_of n) (before_of n) (value_of n) value
        (alike_after t look k _ c (ap (option_and_then (λ n. n.after)) (sym has))) (alike_before t look k _ c (ap (option_and_then (λ n. n.before)) (sym has))) (changed_sets t look k _ c)))
