-- What the rows of a threaded list are, and how each change of a table keeps its list and what it makes of the rows.
use Rattle.std.proofs.Common.{◌≡◌, ◌≢◌, ℕ, ◌+◌, List, [], ◌∷◌, ◌++◌, length, Option, Some, None, IsSome, refl, sym, ap, subst, ◌∙◌, inl, inr, arith, true≢false}
use Rattle.std.proofs.Common.{length-append}
use Rattle.std.specs.List.{AllByRecursion as All}
use Rattle.slot_table.proofs.Orders.{each-append, each-front, each-back, each-without, each-two, IsBetween, first_or, last_or, first_or-each, last_or-each}
use Rattle.slot_table.proofs.Orders.{Lacks-before, Lacks-own, AreDistinct-without, AreDistinct-push, AreDistinct-back, find_place, Leads-after, Leads-before}
use Rattle.slot_table.proofs.Orders.{Leads-parts, Leads-kept, Leads-push, Leads-without, Skips, Joins}
use Rattle.slot_table.proofs.Rows.{IsKind, option_is, rows_of-append, rows_of-same, rows_of-none_at, rows_of-distinct, length-rows_of, first_place-rows_of}
use Rattle.slot_table.proofs.Rows.{value_at-none}
use Rattle.slot_table.proofs.Walks.{value_at_row, without_row, with_value-row, place_behind_row}
use Rattle.slot_table.specs.Chains.{Threads, Leads, Lacks, AreDistinct, AreHeld, rows_of, row_before}
use Rattle.slot_table.specs.Rows.{Row, value_at, without, with_value, with_last, place_behind, first_place, NoneAt, IsDistinct}

-- one slot has another record, or none
pub record Sets {K P R : Type 0} (at : K → P) (old new : K → Option R) (k : K) (r : Option R) : Type 0 where
  pub own : new k ≡ r
  pub others : (z : K) → at z ≢ at k → new z ≡ old z

-- a list with these rows
pub record Leaves {K P R : Type 0} (at : K → P) (place : K → ℕ × ℕ) (a b : P → P) (v : K → Option R) (end : P) (count : ℕ) (rows : List (Row R)) : Type 0 where
  pub threads : Threads at a b v end count
  pub rows_is : rows_of place v threads.order ≡ rows

module _ {K P R : Type 0} {at : K → P} {place : K → ℕ × ℕ} {show : P → Option (ℕ × ℕ)} {end : P}
    (kind : IsKind at place show end) {a b : P → P} {v : K → Option R} {count : ℕ} (is : Threads at a b v end count) where
  pub length-order : length (rows_of place v is.order) ≡ count
  length-order = length-rows_of place v is.order is.held ∙ is.counted

  pub order-distinct : IsDistinct (rows_of place v is.order)
  order-distinct = rows_of-distinct place v kind is.order is.distinct

  pub first-order : first_place (rows_of place v is.order) ≡ show (a end)
  first-order = first_place-rows_of place v kind is.order is.apart is.held ∙ ap show (sym (Leads-after at a b end is.order end is.leads))

  -- no row is in an empty slot
  pub order-lacks : (k : K) → v k ≡ None → Lacks at (at k) is.order
  order-lacks k empty =
      elim (find_place at kind.cases k is.order) [
        | inl lacks ↦ lacks
        | inr found ↦ absurd (true≢false (sym (subst IsSome empty (each-back (λ z. IsSome (v z)) found.front (k ∷ found.back) (subst (AreHeld v) found.parts is.held)).0)))
      ]

  pub order-empty : (k : K) → v k ≡ None → NoneAt (rows_of place v is.order) (place k).0 (place k).1
  order-empty k empty = rows_of-none_at place v kind is.order k (order-lacks k empty)

  -- where a slot has a record, the rows are those before, its own and those after
  module _ (k : K) (value : R) (has : v k ≡ Some value) where
    pub between : IsBetween k is.order
    between =
        elim (find_place at kind.cases k is.order) [
          | inl lacks ↦ absurd (is.listed k (subst IsSome (sym has) refl) lacks)
          | inr found ↦ found
        ]

    abbrev row : Row R
    row = record { q = (place k).0; cid = (place k).1; value = value }

    leads : Leads at a b end (between.front ++ k ∷ between.back) end
    leads = subst (λ xs. Leads at a b end xs end) between.parts is.leads

    pub distinct : AreDistinct at (between.front ++ k ∷ between.back)
    distinct = subst (AreDistinct at) between.parts is.distinct

    apart : Lacks at end (between.front ++ k ∷ between.back)
    apart = subst (Lacks at end) between.parts is.apart

    held : AreHeld v (between.front ++ k ∷ between.back)
    held = subst (AreHeld v) between.parts is.held

    parts : rows_of place v is.order ≡ rows_of place v between.front ++ row ∷ rows_of place v between.back
    parts =
        ap (rows_of place v) between.parts
        ∙ rows_of-append place v between.front (k ∷ between.back)
        ∙ ap (λ r. rows_of place v between.front ++ row_before place k r (rows_of place v between.back)) has

    rows-distinct : IsDistinct (rows_of place v between.front ++ row ∷ rows_of place v between.back)
    rows-distinct = subst IsDistinct parts order-distinct

    before-is : b (at k) ≡ last_or at end between.front
    before-is = Leads-before at a b end between.front (at k) (Leads-parts at a b end between.front k between.back end leads).0

    after-is : a (at k) ≡ first_or at end between.back
    after-is = Leads-after at a b (at k) between.back end (Leads-parts at a b end between.front k between.back end leads).1

    -- the link at a row leads to the next row
    pub behind-order : place_behind (rows_of place v is.order) (place k).0 (place k).1 ≡ show (a (at k))
    behind-order =
        ap (λ rows. place_behind rows (place k).0 (place k).1) parts
        ∙ place_behind_row (rows_of place v between.front) (rows_of place v between.back) row rows-distinct
        ∙ first_place-rows_of place v kind between.back (each-back (λ z. at z ≢ end) between.front (k ∷ between.back) apart).1
        (each-back (λ z. IsSome (v z)) between.front (k ∷ between.back) held).1
        ∙ ap show (sym after-is)

    -- what holds of the end and of each other slot holds of the neighbours
    pub neighbours : (Q : P → Type 0) → Q end → ((z : K) → at z ≢ at k → IsSome (v z) → Q (at z)) → Q (b (at k)) × Q (a (at k))
    neighbours Q e each =
        let all : All (λ z. Q (at z)) (between.front ++ between.back) =
        each-two (λ z. at z ≢ at k) (λ z. IsSome (v z)) (λ z. Q (at z)) each (between.front ++ between.back) (Lacks-own at k between.front between.back distinct)
        (each-without (λ z. IsSome (v z)) k between.front between.back held) in (
          subst Q (sym before-is) (last_or-each at Q end between.front e (each-front (λ z. Q (at z)) between.front between.back all)),
          subst Q (sym after-is) (first_or-each at Q end between.back e (each-back (λ z. Q (at z)) between.front between.back all)),
        )

    -- a take
    pub take : (c d : P → P) (w : K → Option R) (rest : ℕ) → rest + 1 ≡ count → Skips at a b c d (b (at k)) (a (at k)) (at k) → Sets at v w k None
        → Leaves at place c d w end rest (without (rows_of place v is.order) (place k).0 (place k).1)
    take c d w rest one s sets =
        let m = between in
        let lacks : Lacks at (at k) (m.front ++ m.back) = Lacks-own at k m.front m.back distinct in
        let joined : Skips at a b c d (last_or at end m.front) (first_or at end m.back) (at k) = rw (← before-is, ← after-is) s in
        record {
          threads = record {
            order = m.front ++ m.back;
            leads = Leads-without at a b c d end k m.front m.back leads joined apart distinct;
            distinct = AreDistinct-without at k m.front m.back distinct;
            apart = each-without (λ z. at z ≢ end) k m.front m.back apart;
            held = each-two (λ z. at z ≢ at k) (λ z. IsSome (v z)) (λ z. IsSome (w z)) (λ z o some. subst IsSome (sym (sets.others z o)) some) (m.front ++ m.back) lacks
                (each-without (λ z. IsSome (v z)) k m.front m.back held);
            listed = λ z some l.
                elim (kind.cases z k) [
                  | inl same ↦ true≢false (sym (subst IsSome (ap w same ∙ sets.own) some))
                  | inr other ↦ is.listed z (subst IsSome (sets.others z other) some)
                      (subst (Lacks at (at z)) (sym m.parts) (each-append (λ x. at x ≢ at z) m.front (k ∷ m.back) (each-front (λ x. at x ≢ at z) m.front m.back l)
                      (λ e. other (sym e), each-back (λ x. at x ≢ at z) m.front m.back l)))
                ];
            counted = omega (arith, length-append m.front m.back, length-append m.front (k ∷ m.back), ap length m.parts, is.counted, one);
          };
          rows_is =
              rows_of-same place v w (m.front ++ m.back) (each-two (λ z. at z ≢ at k) (λ z. at z ≢ at k) (λ z. w z ≡ v z) (λ z o _. sets.others z o) (m.front ++ m.back) lacks lacks)
              ∙ rows_of-append place v m.front m.back
              ∙ sym (ap (λ rows. without rows (place k).0 (place k).1) parts ∙ without_row (rows_of place v m.front) (rows_of place v m.back) row rows-distinct);
        }

    -- a write over the record, where the links and the order stay
    pub write : (c d : P → P) (w : K → Option R) (next : R) → ((p : P) → c p ≡ a p) → ((p : P) → d p ≡ b p) → Sets at v w k (Some next)
        → Leaves at place c d w end count (with_value (rows_of place v is.order) (place k).0 (place k).1 next)
    write c d w next sa sb sets =
        let m = between in
        let kept : (xs : List K) → Lacks at (at k) xs → rows_of place w xs ≡ rows_of place v xs =
        λ xs l. rows_of-same place v w xs (each-two (λ z. at z ≢ at k) (λ z. at z ≢ at k) (λ z. w z ≡ v z) (λ z o _. sets.others z o) xs l l) in
        record {
          threads = record {
            order = is.order;
            distinct = is.distinct;
            apart = is.apart;
            counted = is.counted;
            leads = Leads-kept at a b c d end is.order end (sa end) (each-two (λ z. at z ≢ end) (λ z. at z ≢ end) (λ z. c (at z) ≡ a (at z)) (λ z _ _. sa (at z)) is.order is.apart is.apart)
                (each-two (λ z. at z ≢ end) (λ z. at z ≢ end) (λ z. d (at z) ≡ b (at z)) (λ z _ _. sb (at z)) is.order is.apart is.apart) (sb end) is.leads;
            held = each-two (λ z. at z ≢ end) (λ z. IsSome (v z)) (λ z. IsSome (w z)) (λ z _ some.
                elim (kind.cases z k) [ inl same ↦ subst IsSome (sym (ap w same ∙ sets.own)) refl | inr other ↦ subst IsSome (sym (sets.others z other)) some ]) is.order is.apart is.held;
            listed = λ z some.
                elim (kind.cases z k) [
                  | inl same ↦ is.listed z (subst IsSome (sym (ap v same ∙ has)) refl)
                  | inr other ↦ is.listed z (subst IsSome (sets.others z other) some)
                ];
          };
          rows_is =
              ap (rows_of place w) m.parts
              ∙ rows_of-append place w m.front (k ∷ m.back)
              ∙ rw (kept m.front (Lacks-before at k m.front m.back distinct), sets.own, kept m.back (AreDistinct-back at m.front (k ∷ m.back) distinct).0) refl
              ∙ sym (ap (λ rows. with_value rows (place k).0 (place k).1 next) parts ∙ with_value-row (rows_of place v m.front) (rows_of place v m.back) row next rows-distinct);
        }

  pub value_at-order : (k : K) → value_at (rows_of place v is.order) (place k).0 (place k).1 ≡ v k
  value_at-order k =
      elim (option_is (v k)) [
        | inl none ↦ value_at-none (rows_of place v is.order) (place k).0 (place k).1 (order-empty k none) ∙ sym none
        | inr (value, has) ↦ ap (λ rows. value_at rows (place k).0 (place k).1) (parts k value has)
            ∙ value_at_row (rows_of place v (between k value has).front) (rows_of place v (between k value has).back) (row k value has) (rows-distinct k value has) ∙ sym has
      ]

  -- what holds of the end and of each slot with a record holds of the last and of the first
  pub ends-each : (Q : P → Type 0) → Q end → ((z : K) → IsSome (v z) → Q (at z)) → Q (b end) × Q (a end)
  ends-each Q e each =
      let all : All (λ z. Q (at z)) is.order = each-two (λ z. at z ≢ end) (λ z. IsSome (v z)) (λ z. Q (at z)) (λ z _. each z) is.order is.apart is.held in (
        subst Q (sym (Leads-before at a b end is.order end is.leads)) (last_or-each at Q end is.order e all),
        subst Q (sym (Leads-after at a b end is.order end is.leads)) (first_or-each at Q end is.order e all),
      )

  -- a put
  pub put : (k : K) (value : R) (c d : P → P) (w : K → Option R) → v k ≡ None → end ≢ at k → Joins at a b c d end k → Sets at v w k (Some value)
      → Leaves at place c d w end (count + 1) (with_last (rows_of place v is.order) (place k).0 (place k).1 value)
  put k value c d w empty other j sets =
      let lacks = order-lacks k empty in
      record {
        threads = record {
          order = is.order ++ k ∷ [];
          leads = Leads-push at a b c d end k is.order is.leads j other is.apart lacks is.distinct;
          distinct = AreDistinct-push at k is.order is.distinct lacks;
          apart = each-append (λ z. at z ≢ end) is.order (k ∷ []) is.apart (λ e. other (sym e), tt);
          held = each-append (λ z. IsSome (w z)) is.order (k ∷ [])
              (each-two (λ z. at z ≢ at k) (λ z. IsSome (v z)) (λ z. IsSome (w z)) (λ z o some. subst IsSome (sym (sets.others z o)) some) is.order lacks is.held)
              (subst IsSome (sym sets.own) refl, tt);
          listed = λ z some l.
              elim (kind.cases z k) [
                | inl same ↦ (each-back (λ x. at x ≢ at z) is.order (k ∷ []) l).0 (ap at (sym same))
                | inr other ↦ is.listed z (subst IsSome (sets.others z other) some) (each-front (λ x. at x ≢ at z) is.order (k ∷ []) l)
              ];
          counted = length-append is.order (k ∷ []) ∙ ap (λ n. n + 1) is.counted;
        };
        rows_is =
            rows_of-append place w is.order (k ∷ [])
            ∙ rw (rows_of-same place v w is.order (each-two (λ z. at z ≢ at k) (λ z. at z ≢ at k) (λ z. w z ≡ v z) (λ z o _. sets.others z o) is.order lacks lacks), sets.own) refl;
      }
