-- Rows one after the other: what a walk meets, and what a put and a take leave.
use Rattle.std.proofs.Common.{◌≡◌, ℕ, zero, suc, ◌≤◌, ◌==◌, true, false, List, [], ◌∷◌, ◌++◌, length, Some, None, take, drop, ◌+◌, refl, sym, ap, subst, ◌∙◌}
use Rattle.std.proofs.Common.{inl, inr, arith, append_assoc}
use Rattle.std.proofs.lemmas.{Bool.{eq-eqb, cases_Bool, Decides.{nat_tests}}, List.{append-nil, take-append-drop, drop-drop}, Option.none-some}
use Rattle.slot_table.proofs.Rows.{value_at-behind, without-behind, with_value-behind, place_behind-behind}
use Rattle.slot_table.specs.{Rows.{Row, is_at, first_place, place_behind, value_at, with_value, without, NoneAt, IsDistinct}, Table.{TableOf, with_row}}
use Rattle.slot_table.specs.Walks.{places_of, walk_from}

pub eqb-turned : (a b : ℕ) → (a == b) ≡ (b == a)
eqb-turned a b = grind (arith, nat_tests)

module _ {R : Type 0} where
  is_at-itself : (row : Row R) → is_at row row.q row.cid ≡ true
  is_at-itself row = rw (eq-eqb row.q row.q refl, eq-eqb row.cid row.cid refl) refl

  is_at-turned : (x row : Row R) → is_at row x.q x.cid ≡ false → is_at x row.q row.cid ≡ false
  is_at-turned x row h = rw (eqb-turned x.q row.q, eqb-turned x.cid row.cid) h

  NoneAt-midst : (q cid : ℕ) (front back : List (Row R)) (row : Row R) → NoneAt (front ++ row ∷ back) q cid → is_at row q cid ≡ false
  NoneAt-midst q cid [] back row none = none.0
  NoneAt-midst q cid (x ∷ xs) back row none = NoneAt-midst q cid xs back row none.1

  -- no earlier row is in the slot of a later one
  pub front_none : (front back : List (Row R)) (row : Row R) → IsDistinct (front ++ row ∷ back) → NoneAt front row.q row.cid
  front_none [] back row d = tt
  front_none (x ∷ xs) back row d =
      (is_at-turned x row (NoneAt-midst x.q x.cid xs back row d.0), front_none xs back row d.1)

  -- a slot with no record has no row
  pub none_stands : (rows : List (Row R)) (q cid : ℕ) → value_at rows q cid ≡ None → NoneAt rows q cid
  none_stands [] q cid none = tt
  none_stands (row ∷ rows) q cid none =
      elim (cases_Bool (is_at row q cid)) [
        | inl here ↦ absurd (none-some row.value (sym (rw here at none)))
        | inr other ↦ (other, none_stands rows q cid (rw other at none))
      ]

  -- at a row: its record, the next row, and the rows without it
  pub value_at_row : (front back : List (Row R)) (row : Row R) → IsDistinct (front ++ row ∷ back) → value_at (front ++ row ∷ back) row.q row.cid ≡ Some row.value
  value_at_row front back row d =
      value_at-behind front (row ∷ back) row.q row.cid (front_none front back row d) ∙ (rw (is_at-itself row) refl)

  pub place_behind_row : (front back : List (Row R)) (row : Row R) → IsDistinct (front ++ row ∷ back) → place_behind (front ++ row ∷ back) row.q row.cid ≡ first_place back
  place_behind_row front back row d =
      place_behind-behind front (row ∷ back) row.q row.cid (front_none front back row d) ∙ (rw (is_at-itself row) refl)

  pub without_row : (front back : List (Row R)) (row : Row R) → IsDistinct (front ++ row ∷ back) → without (front ++ row ∷ back) row.q row.cid ≡ front ++ back
  without_row front back row d =
      without-behind front (row ∷ back) row.q row.cid (front_none front back row d) ∙ ap (λ rows. front ++ rows) (rw (is_at-itself row) refl)

  pub with_value-row : (front back : List (Row R)) (row : Row R) (value : R) → IsDistinct (front ++ row ∷ back)
      → with_value (front ++ row ∷ back) row.q row.cid value ≡ front ++ record row { value = value } ∷ back
  with_value-row front back row value d =
      with_value-behind front (row ∷ back) row.q row.cid value (front_none front back row d) ∙ ap (λ rows. front ++ rows) (rw (is_at-itself row) refl)

  -- a record that was put
  pub put_value : (table : TableOf R) (q cid : ℕ) (value : R) → value_at table.rows q cid ≡ None → value_at (with_row table q cid value).rows q cid ≡ Some value
  put_value table q cid value none =
      let row : Row R = record { q = q; cid = cid; value = value } in
      value_at-behind table.rows (row ∷ []) q cid (none_stands table.rows q cid none) ∙ (rw (is_at-itself row) refl)

  pub put_taken : (table : TableOf R) (q cid : ℕ) (value : R) → value_at table.rows q cid ≡ None → without (with_row table q cid value).rows q cid ≡ table.rows
  put_taken table q cid value none =
      let row : Row R = record { q = q; cid = cid; value = value } in
      without-behind table.rows (row ∷ []) q cid (none_stands table.rows q cid none) ∙ ap (λ rows. table.rows ++ rows) (rw (is_at-itself row) refl) ∙ append-nil table.rows

  -- a walk starting at some row
  walk_on : (rows front back : List (Row R)) (most : ℕ) → IsDistinct rows → rows ≡ front ++ back → length back ≤ most → walk_from rows (first_place back) most ≡ places_of back
  walk_on rows front [] zero d is fits = refl
  walk_on rows front [] (suc most) d is fits = refl
  walk_on rows front (row ∷ back) zero d is fits = absurd (omega arith)
  walk_on rows front (row ∷ back) (suc most) d is fits =
      let next : place_behind rows row.q row.cid ≡ first_place back =
      ap (λ rs. place_behind rs row.q row.cid) is ∙ place_behind_row front back row (subst IsDistinct is d) in
      ap (λ places. (row.q, row.cid) ∷ places) (ap (λ at. walk_from rows at most) next ∙ walk_on rows (front ++ row ∷ []) back most d (is ∙ sym (append_assoc front (row ∷ []) back)) (omega arith))

  pub walk_all : (rows : List (Row R)) (most : ℕ) → IsDistinct rows → length rows ≤ most → walk_from rows (first_place rows) most ≡ places_of rows
  walk_all rows most d fits = walk_on rows [] rows most d refl fits

  -- the slot after that of the first of these rows
  step_over : (rows front back : List (Row R)) (q cid : ℕ) → IsDistinct rows → rows ≡ front ++ back → first_place back ≡ Some (q, cid) → place_behind rows q cid ≡ first_place (drop 1 back)
  step_over rows front [] q cid d is at = absurd (none-some (q, cid) at)
  step_over rows front (row ∷ back) q cid d is at =
      let place : (row.q, row.cid) ≡ (q, cid) = cc in
      ap (λ (p : ℕ × ℕ). place_behind rows p.0 p.1) (sym place)
      ∙ ap (λ rs. place_behind rs row.q row.cid) is
      ∙ place_behind_row front back row (subst IsDistinct is d)

  pub step_behind : (rows : List (Row R)) (n q cid : ℕ) → IsDistinct rows → first_place (drop n rows) ≡ Some (q, cid) → place_behind rows q cid ≡ first_place (drop (n + 1) rows)
  step_behind rows n q cid d at =
      step_over rows (take n rows) (drop n rows) q cid d (sym (take-append-drop n rows)) at
      ∙ ap first_place (drop-drop 1 n rows)
