-- A table of slots: its rows, and what each of its calls leaves.
use Rattle.std.proofs.Common.{◌≡◌, ◌≢◌, ℕ, zero, suc, ◌+◌, ◌-◌, ◌*◌, ◌/◌, ◌%◌, ◌<◌, ◌≤◌, cond, List, [], ◌∷◌, length, get_or, set, Option, Some, None, is_some}
use Rattle.std.proofs.Common.{IsSome, IfSome, count_by, refl, sym, ap, subst, ◌∙◌, inl, inr, arith, true≢false, length-set}
use Rattle.std.proofs.{Math.Nat.mul-le-mul_left}
use Rattle.std.proofs.lemmas.Bool.{cases_eq, cases_lt, eq-eqb, ne_eqb, Decides.eqb_tells}
use Rattle.std.proofs.lemmas.List.{get_or-set_same, get_or-set_other, get_or_read, get_or_past, set-get_or}
use Rattle.std.proofs.lemmas.{List.Sums.{sum_by-set, count_by-le-length}, Nat.{div-add-mod', div-mul-add, mod-mul-add, div_below, mod_below}}
use Rattle.std.{specs.List.AllByRecursion as All}
use Rattle.slot_table.proofs.Rows.{IsKind}
use Rattle.slot_table.proofs.Whole.{Sets, Leaves, length-order, order-distinct, first-order, order-empty, behind-order, neighbours, take, write, value_at-order}
use Rattle.slot_table.proofs.Whole.{ends-each, put}
use Rattle.slot_table.specs.{Chains.{Leads, Lacks, row_before}, Links.{after_of, before_of, Rejoins, walk, split, place_of, record_at, rows_of, IsThreaded}}
use Rattle.slot_table.specs.{declared.link.Link.Link}
use Rattle.slot_table.specs.Rows.{Row, value_at, with_value, with_last, without, first_place, place_behind, NoneAt, IsDistinct}
use Rattle.slot_table.specs.Table.{TableOf, AreInside, IsPlace}

pub slots : (places end : ℕ) → IsKind (λ i. i) (split places) (place_of places end) end
slots places end = record {
  cases = cases_eq;
  apart = λ x k other.
      elim (eqb_tells (x / places) (k / places)) [
        | inl first ↦ rw first.0 (ne_eqb (x % places) (k % places) (λ second.
            other (sym (div-add-mod' x places) ∙ ap (λ n. n * places + x % places) first.1 ∙ ap (λ n. k / places * places + n) second ∙ div-add-mod' k places)))
        | inr first ↦ rw first.0 refl
      ];
  show_end = rw (eq-eqb end end refl) refl;
  show_at = λ k other. rw (ne_eqb k end other) refl;
}

-- a walk along the links finds the slots
walk-leads : (ls : List Link) (end x : ℕ) (xs : List ℕ) (most : ℕ) → Leads (λ i. i) (after_of ls) (before_of ls) x xs end → Lacks (λ i. i) end xs → length xs ≤ most
    → walk ls end (after_of ls x) most ≡ xs
walk-leads ls end x [] zero l lacks fits = refl
walk-leads ls end x [] (suc most) l lacks fits = rw (eq-eqb (after_of ls x) end l.0) refl
walk-leads ls end x (y ∷ ys) zero l lacks fits = absurd (omega arith)
walk-leads ls end x (y ∷ ys) (suc most) l lacks fits =
    rw (ne_eqb (after_of ls x) end (λ e. lacks.0 (sym l.0.0 ∙ e)), l.0.0) (ap (λ ks. y ∷ ks) (walk-leads ls end y ys most l.1 lacks.1 (omega arith)))

-- what a read of a link says
read_link : (links : List Link) (i : ℕ) (x : Link) → i < length links → x ≡ get_or links i x → (before_of links i ≡ x.before) × (after_of links i ≡ x.after)
read_link links i x within is =
    let same : x ≡ get_or links i (record { before = 0; after = 0 }) = get_or_read links i x within is (record { before = 0; after = 0 }) in
    (ap (λ l. l.before) (sym same), ap (λ l. l.after) (sym same))

-- what holds whatever a value is
pub holds : {A : Type 0} (P : Type 0) (o : Option A) → P → IfSome o (λ _. P)
holds P None h = tt
holds P (Some x) h = h

module _ {R : Type 0} where
  some-within : (records : List (Option R)) (i : ℕ) → IsSome (record_at records i) → i < length records
  some-within records i some =
      elim (cases_lt i (length records)) [
        | inl within ↦ within
        | inr past ↦ absurd (true≢false (sym (subst IsSome (get_or_past records i None past) some)))
      ]

  rows_of-inside : (queues places : ℕ) (records : List (Option R)) (xs : List ℕ) → All (λ i. i < queues * places) xs → AreInside queues places (rows_of places records xs)
  rows_of-inside queues places records [] b = tt
  rows_of-inside queues zero records (x ∷ xs) b = absurd (omega (arith, b.0))
  rows_of-inside queues (suc p) records (x ∷ xs) b =
      let rest = rows_of-inside queues (suc p) records xs b.1 in
      let some : 0 < suc p = omega arith in
      elim (record_at records x) as (λ o. AreInside queues (suc p) (row_before (split (suc p)) x o (rows_of (suc p) records xs))) [
        | None ↦ rest
        | Some value ↦ (div_below x (suc p) queues some b.0, mod_below x (suc p) some, rest)
      ]

  -- rows inside the table have none in a slot outside
  AreInside-none_at : (queues places : ℕ) (rows : List (Row R)) (q cid : ℕ) → AreInside queues places rows → ((q < queues) × (cid < places) → ⊥) → NoneAt rows q cid
  AreInside-none_at queues places [] q cid inside outside = tt
  AreInside-none_at queues places (row ∷ rows) q cid inside outside = (
    elim (eqb_tells row.q q) [
      | inl first ↦ rw first.0 (ne_eqb row.cid cid (λ second. outside (subst (λ k. k < queues) first.1 inside.0, subst (λ k. k < places) second inside.1)))
      | inr first ↦ rw first.0 refl
    ],
    AreInside-none_at queues places rows q cid inside.2 outside,
  )

  -- the rows that the fields of a table make
  abbrev pub rows_in : ℕ → List (Option R) → List Link → List (Row R)
  rows_in places records links =
      rows_of places records (walk links (length records) (after_of links (length records)) (length records))

  module _ {queues places len : ℕ} {records : List (Option R)} {links : List Link} (t : IsThreaded queues places len records links) where
    rows-order : rows_in places records links ≡ rows_of places records t.thread.order
    rows-order =
        let fits : length t.thread.order ≤ length records = omega (arith, t.thread.counted, t.occupied, count_by-le-length is_some records) in
        ap (rows_of places records) (walk-leads links (length records) (length records) t.thread.order (length records) t.thread.leads t.thread.apart fits)

    abbrev kind : IsKind (λ i. i) (split places) (place_of places (length records)) (length records)
    kind = slots places (length records)

    pub length-rows : length (rows_in places records links) ≡ len
    length-rows = rw rows-order (length-order kind t.thread)

    pub rows-distinct : IsDistinct (rows_in places records links)
    rows-distinct = rw rows-order (order-distinct kind t.thread)

    pub rows-inside : AreInside queues places (rows_in places records links)
    rows-inside = rw rows-order (rows_of-inside queues places records t.thread.order (each_below t.thread.order t.thread.held))
      where
        each_below : (xs : List ℕ) → All (λ k. IsSome (record_at records k)) xs → All (λ i. i < queues * places) xs
        each_below [] h = tt
        each_below (x ∷ xs) h = (rw (← t.all_places) (some-within records x h.0), each_below xs h.1)

    -- no row is in a slot that the table does not have
    pub rows-outside : (q cid : ℕ) → ((q < queues) × (cid < places) → ⊥) → NoneAt (rows_in places records links) q cid
    rows-outside q cid outside = AreInside-none_at queues places (rows_in places records links) q cid rows-inside outside

    -- what is read at the end of the list
    module _ (x : Link) (read : x ≡ get_or links (queues * places) x) where
      end-read : (before_of links (length records) ≡ x.before) × (after_of links (length records) ≡ x.after)
      end-read = read_link links (length records) x (omega (arith, t.all_links)) (rw t.all_places read)

      ends : (before_of links (length records) ≤ length records) × (after_of links (length records) ≤ length records)
      ends = ends-each kind t.thread (λ z. z ≤ length records) (omega arith) (λ z some. omega (arith, some-within records z some))

      pub last_in : x.before < length links
      last_in = omega (arith, end-read.0, ends.0, t.all_links)

      pub first_after : (x.after ≤ queues * places) × (place_of places (queues * places) x.after ≡ first_place (rows_in places records links))
      first_after = (omega (arith, end-read.1, ends.1, t.all_places), rw (← t.all_places, ← end-read.1, rows-order) (sym (first-order kind t.thread)))

    abbrev table : TableOf R
    table = record { queues = queues; places = places; rows = rows_in places records links }

  module _ {queues places len : ℕ} {records : List (Option R)} {links : List Link} (t : IsThreaded queues places len records links)
      {q cid place : ℕ} (inside : IsPlace (table t) q cid) (is : place ≡ q * places + cid) where
    within : place < length records
    within =
        let more : q + 1 ≤ queues = omega (arith, inside.queue) in
        omega (arith, mul-le-mul_left places more, inside.identifier, t.all_places)

    queue-is : place / places ≡ q
    queue-is = rw is (div-mul-add q places cid inside.identifier)

    cid-is : place % places ≡ cid
    cid-is = rw is (mod-mul-add q places cid inside.identifier)

    pub found_at : (o : Option R) → o ≡ get_or records place o → o ≡ value_at (rows_in places records links) q cid
    found_at o held = get_or_read records place o within held None ∙ rw (rows-order t) (sym (rw (queue-is, cid-is) at (value_at-order (kind t) t.thread place)))

    -- a slot that was found empty
    pub none_left : (o : Option R) → o ≡ get_or records place o → o ≡ None → (set records place None ≡ records) × NoneAt (rows_in places records links) q cid
    none_left o held none =
        let empty : record_at records place ≡ None = sym (get_or_read records place o within held None) ∙ none in (
          ap (λ v. set records place v) (sym empty) ∙ set-get_or records place None,
          rw (rows-order t) (rw (queue-is, cid-is) at (order-empty (kind t) t.thread place empty)),
        )

    -- what is left of a change
    pub record Left (count : ℕ) (r : Option R) (new : List Link) (rows : List (Row R)) : Type 0 where
      pub threaded : IsThreaded queues places count (set records place r) new
      pub rows_are : rows_in places (set records place r) new ≡ rows

    remade : (count : ℕ) (r : Option R) (new : List Link) (rows : List (Row R)) → length new ≡ length links → count_by is_some (set records place r) ≡ count
        → Leaves (λ i. i) (split places) (after_of new) (before_of new) (record_at (set records place r)) (length records) count rows → Left count r new rows
    remade count r new rows as_long occupied leaves =
        let same = length-set records place r in
        let there = subst (λ n. Leaves (λ i. i) (split places) (after_of new) (before_of new) (record_at (set records place r)) n count rows) (sym same) leaves in
        let threaded : IsThreaded queues places count (set records place r) new = record {
          few_queues = t.few_queues;
          few_places = t.few_places;
          all_places = same ∙ t.all_places;
          all_links = as_long ∙ t.all_links ∙ ap (λ n. n + 1) (sym same);
          thread = there.threads;
          occupied = occupied;
        } in
        record { threaded = threaded; rows_are = rows-order threaded ∙ there.rows_is }

    sets : (r : Option R) → Sets (λ i. i) (record_at records) (record_at (set records place r)) place r
    sets r = record { own = get_or-set_same records place r None within; others = λ z other. get_or-set_other records place z r None other }

    apart : length records ≢ place
    apart e = omega (arith, within, e)

    pub put_left : (r : Option R) (value : R) (x : Link) (mid new : List Link) → r ≡ Some value → value_at (rows_in places records links) q cid ≡ None → x ≡ get_or links (queues * places) x
        → Rejoins links mid x.before place → Rejoins mid new place (queues * places) → Left (len + 1) r new (with_last (rows_in places records links) q cid value)
    put_left r value x mid new written none read one two =
        let n = length records in
        let empty : record_at records place ≡ None = sym (rw (queue-is, cid-is) at (value_at-order (kind t) t.thread place)) ∙ rw (rows-order t) at none in
        let first : Rejoins links mid (before_of links n) place = rw ((end-read t x read).0) one in
        let second : Rejoins mid new place n = rw t.all_places two in
        let last : before_of links n ≢ place =
        (ends-each (kind t) t.thread (λ z. z ≢ place) apart (λ z some e. true≢false (sym (subst IsSome (ap (record_at records) e ∙ empty) some)))).0 in
        let left = put (kind t) t.thread place value (after_of new) (before_of new) (record_at (set records place (Some value))) empty apart (record {
          after = second.other_after (before_of links n) last ∙ first.after;
          before = second.other_before place (λ e. apart (sym e)) ∙ first.before;
          end_after = second.after;
          end_before = second.before;
          other_after = λ z o g. second.other_after z g ∙ first.other_after z o;
          other_before = λ z o g. second.other_before z o ∙ first.other_before z g;
        }) (sets (Some value)) in
        let set_count = sum_by-set (λ o. cond (is_some o) 1 0) records place (Some value) None within in
        let one : ℕ = 1 in
        let empty_count : cond (is_some (get_or records place None)) one 0 ≡ 0 = ap (λ o. cond (is_some o) one 0) empty in
        rw (written, rows-order t)
        (remade (len + 1) (Some value) new _ (second.as_long ∙ first.as_long) (omega (arith, set_count, empty_count, t.occupied)) (rw (queue-is, cid-is) at left))

    module _ (o : Option R) (value : R) (held : o ≡ get_or records place o) (has : o ≡ Some value) where
      own : record_at records place ≡ Some value
      own = sym (get_or_read records place o within held None) ∙ has

      module _ (x : Link) (read : x ≡ get_or links place x) where
        link-read : (before_of links place ≡ x.before) × (after_of links place ≡ x.after)
        link-read = read_link links place x (omega (arith, within, t.all_links)) read

        bounds : (before_of links place ≤ length records) × (after_of links place ≤ length records)
        bounds = neighbours (kind t) t.thread place value own (λ z. z ≤ length records) (omega arith) (λ z _ some. omega (arith, some-within records z some))

        -- the neighbours of a slot with a record are slots of the table, or the end
        pub link_in : (x.before < length links) × (x.after < length links)
        link_in = (omega (arith, link-read.0, bounds.0, t.all_links), omega (arith, link-read.1, bounds.1, t.all_links))

        pub behind_after : (x.after ≤ queues * places) × (place_of places (queues * places) x.after ≡ place_behind (rows_in places records links) q cid)
        behind_after = (
          omega (arith, link-read.1, bounds.1, t.all_places),
          rw (← t.all_places, ← link-read.1, rows-order t) (sym (rw (queue-is, cid-is) at (behind-order (kind t) t.thread place value own))),
        )

        pub take_left : (r : Option R) (new : List Link) → r ≡ None → Rejoins links new x.before x.after → Left (len - 1) r new (without (rows_in places records links) q cid)
        take_left r new none joined =
            let turned : Rejoins links new (before_of links place) (after_of links place) = rw (link-read.0, link-read.1) joined in
            let set_count = sum_by-set (λ o. cond (is_some o) 1 0) records place None None within in
            let one : ℕ = 1 in
            let some_count : cond (is_some (get_or records place None)) one 0 ≡ one = ap (λ o. cond (is_some o) one 0) own in
            let less : count_by is_some (set records place None) ≡ len - 1 = omega (arith, set_count, some_count, t.occupied) in
            let left =
            take (kind t) t.thread place value own (after_of new) (before_of new) (record_at (set records place None)) (len - 1) (omega (arith, set_count, some_count, t.occupied)) (record {
              after = turned.after;
              before = turned.before;
              other_after = λ z o _. turned.other_after z o;
              other_before = λ z o _. turned.other_before z o;
            }) (sets None) in
            rw (none, rows-order t) (remade (len - 1) None new _ turned.as_long less (rw (queue-is, cid-is) at left))

      -- a write through a reference to the record in a slot
      pub write_left : (next : R) → Left len (Some next) links (with_value (rows_in places records links) q cid next)
      write_left next =
          let left = write (kind t) t.thread place value own (after_of links) (before_of links) (record_at (set records place (Some next))) next (λ _. refl) (λ _. refl) (sets (Some next)) in
          let set_count = sum_by-set (λ o. cond (is_some o) 1 0) records place (Some next) None within in
          let one : ℕ = 1 in
          let some_count : cond (is_some (get_or records place None)) one 0 ≡ one = ap (λ o. cond (is_some o) one 0) own in
          rw (rows-order t) (remade len (Some next) links _ refl (omega (arith, set_count, some_count, t.occupied)) (rw (queue-is, cid-is) at left))
