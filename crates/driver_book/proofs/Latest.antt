-- The last submission of each queue and identifier, in a list and in a table.
use Rattle.std.proofs.Common.{◌≡◌, ℕ, zero, suc, ◌+◌, ◌==◌, ◌&&◌, Bool, true, false, if◌then◌else◌, List, [], ◌∷◌, ◌++◌, length, Option, None, Some, Result, Ok, Err, is_ok, IfOk, IfErr, IfSome, refl, sym, ap, ◌∙◌, subst, inl, inr, add-one, append_assoc, true≢false, eqb-true}
use Rattle.std.proofs.lemmas.{Bool.cases_Bool, List.append-nil, Option.none-some}
use Rattle.std.specs.Prelude.{slice_get}
use mathlib.Core.List.{IsPrefix}
use Rattle.host_core.specs.declared.refused.Refused.{Refused}
use Rattle.io_commands.specs.{Drafts.DraftContents, Values.TicketContents}
use Rattle.machine_model.specs.Image.{is_draft}
use Rattle.slot_table.{proofs.Rows.value_at-none, proofs.Walks.put_value, specs.{Rows.{Row, is_at, value_at, without, with_last, NoneAt, IsDistinct}, Table.{TableOf, IsPlace, with_row}}}
use Rattle.driver_book.proofs.StandsInReceipts.{both_true}
use Rattle.driver_book.specs.{Calls.Learns, Entries.Entry, History.{accepted, after_first, last_place}, Latest.{is_place, IsLatest}, State.SeatContents}

-- with one more draft
pub last_behind : (q cid : ℕ) (drafts : List DraftContents) (d : DraftContents)
    → last_place q cid (drafts ++ d ∷ []) ≡ (if is_draft q cid d then Some (length drafts) else last_place q cid drafts)
last_behind q cid [] d = by_draft (is_draft q cid d)
  where
    by_draft : (b : Bool) → after_first None b ≡ (if b then Some 0 else None)
    by_draft true = refl
    by_draft false = refl
last_behind q cid (x ∷ xs) d = ap (λ (o : Option ℕ). after_first o (is_draft q cid x)) (last_behind q cid xs d) ∙ by_draft (is_draft q cid d)
  where
    by_draft : (b : Bool) → after_first (if b then Some (length xs) else last_place q cid xs) (is_draft q cid x)
        ≡ (if b then Some (length (x ∷ xs)) else after_first (last_place q cid xs) (is_draft q cid x))
    by_draft true = ap (λ (n : ℕ). Some n) (add-one (length xs))
    by_draft false = refl

same_place : (q cid p id : ℕ) → is_place q cid p id ≡ true → (q ≡ p) × (cid ≡ id)
same_place q cid p id is =
    let both = both_true (q == p) (cid == id) is in (eqb-true q p both.0, eqb-true cid id both.1)

-- so a table stays right that has the number of the new one in its slot, and nothing else new
pub latest_behind : (before after : List (Row ℕ)) (drafts : List DraftContents) (d : DraftContents) (q cid number : ℕ) → q ≡ d.q → cid ≡ d.cid → number ≡ length drafts
    → IsLatest before drafts → ((n : ℕ) → value_at after q cid ≡ Some n → n ≡ number)
    → ((p id n : ℕ) → is_place q cid p id ≡ false → value_at after p id ≡ Some n → value_at before p id ≡ Some n)
    → IsLatest after (drafts ++ d ∷ [])
latest_behind before after drafts d q cid number queue identifier count latest there others p id n found =
    elim (cases_Bool (is_place q cid p id)) [
      | inl here ↦
          let same = same_place q cid p id here in
          let drawn : is_draft p id d ≡ true = rw (queue, identifier) at here in
          let stands : value_at after q cid ≡ Some n = rw (same.0, same.1) found in
          last_behind p id drafts d ∙ rw drawn (ap (λ (k : ℕ). Some k) (sym count ∙ sym (there n stands)))
      | inr away ↦
          let other : is_draft p id d ≡ false = rw (queue, identifier) at away in
          last_behind p id drafts d ∙ rw other (latest p id n (others p id n away found))
    ]

-- What is taken out and put in

at_place : (row : Row ℕ) (q cid p id : ℕ) → is_at row q cid ≡ true → is_place q cid p id ≡ false → is_at row p id ≡ false
at_place row q cid p id here away =
    let same = both_true (row.q == q) (row.cid == cid) here in
    rw (eqb-true row.q q same.0, eqb-true row.cid cid same.1) away

pub others_stay : (rows : List (Row ℕ)) (q cid p id n : ℕ) → is_place q cid p id ≡ false → value_at (without rows q cid) p id ≡ Some n → value_at rows p id ≡ Some n
others_stay [] q cid p id n away found = found
others_stay (row ∷ rows) q cid p id n away found =
    elim (cases_Bool (is_at row q cid)) [
      | inl here ↦ rw (at_place row q cid p id here away) (rw here at found)
      | inr other ↦ by_row (is_at row p id) (λ f. others_stay rows q cid p id n away f) (rw other at found)
    ]
  where
    by_row : (b : Bool) → (value_at (without rows q cid) p id ≡ Some n → value_at rows p id ≡ Some n) → (if b then Some row.value else value_at (without rows q cid) p id) ≡ Some n
        → (if b then Some row.value else value_at rows p id) ≡ Some n
    by_row true rest f = f
    by_row false rest f = rest f

pub others_before : (rows : List (Row ℕ)) (q cid number p id n : ℕ) → is_place q cid p id ≡ false → value_at (with_last rows q cid number) p id ≡ Some n → value_at rows p id ≡ Some n
others_before [] q cid number p id n away found = absurd (none-some n (rw away at found))
others_before (row ∷ rows) q cid number p id n away found = by_row (is_at row p id) (λ f. others_before rows q cid number p id n away f) found
  where
    by_row : (b : Bool) → (value_at (with_last rows q cid number) p id ≡ Some n → value_at rows p id ≡ Some n) → (if b then Some row.value else value_at (with_last rows q cid number) p id) ≡ Some n
        → (if b then Some row.value else value_at rows p id) ≡ Some n
    by_row true rest f = f
    by_row false rest f = rest f

-- nothing is left in the slot
none_left : (rows : List (Row ℕ)) (q cid : ℕ) (taken : Option ℕ) → taken ≡ value_at rows q cid → IfSome taken (λ _. IsDistinct rows) → value_at (without rows q cid) q cid ≡ None
none_left [] q cid taken is distinct = refl
none_left (row ∷ rows) q cid None is distinct =
    elim (cases_Bool (is_at row q cid)) [
      | inl here ↦ absurd (none-some row.value (is ∙ rw here refl))
      | inr other ↦ rw (other, other) (none_left rows q cid None (is ∙ rw other refl) tt)
    ]
none_left (row ∷ rows) q cid (Some n) is distinct =
    elim (cases_Bool (is_at row q cid)) [
      | inl here ↦
          let same = both_true (row.q == q) (row.cid == cid) here in
          rw here (value_at-none rows q cid (rw (eqb-true row.q q same.0, eqb-true row.cid cid same.1) at distinct.0))
      | inr other ↦ rw (other, other) (none_left rows q cid (Some n) (is ∙ rw other refl) distinct.1)
    ]

-- What a put leaves, whatever it answers

pub put_there : (old mid new : TableOf ℕ) (q cid number : ℕ) (taken : Option ℕ) (answer : Result (Unit {0}) ℕ) → mid ≡ (let t : TableOf ℕ = record old { rows = without old.rows q cid } in t)
    → taken ≡ value_at old.rows q cid → IfSome taken (λ _. IsDistinct old.rows)
    → IfOk answer (λ _. IsPlace mid q cid × (value_at mid.rows q cid ≡ None) × (new ≡ with_row mid q cid number)) → IfErr answer (λ back. (back ≡ number) × (new ≡ mid))
    → (n : ℕ) → value_at new.rows q cid ≡ Some n → n ≡ number
put_there old mid new q cid number taken (Ok done) rest value distinct put back n found =
    let stands : value_at new.rows q cid ≡ Some number = rw put.2 (put_value mid q cid number put.1) in
    cc (found, stands)
put_there old mid new q cid number taken (Err x) rest value distinct put back n found =
    let none : value_at new.rows q cid ≡ None = rw (back.1, rest) (none_left old.rows q cid taken value distinct) in
    absurd (none-some n (sym none ∙ found))

pub put_others : (old mid new : TableOf ℕ) (q cid number : ℕ) (answer : Result (Unit {0}) ℕ) → mid ≡ (let t : TableOf ℕ = record old { rows = without old.rows q cid } in t)
    → IfOk answer (λ _. IsPlace mid q cid × (value_at mid.rows q cid ≡ None) × (new ≡ with_row mid q cid number)) → IfErr answer (λ back. (back ≡ number) × (new ≡ mid))
    → (p id n : ℕ) → is_place q cid p id ≡ false → value_at new.rows p id ≡ Some n → value_at old.rows p id ≡ Some n
put_others old mid new q cid number (Ok done) rest put back p id n away found =
    let before : value_at mid.rows p id ≡ Some n = others_before mid.rows q cid number p id n away (rw put.2 at found) in
    others_stay old.rows q cid p id n away (rw rest at before)
put_others old mid new q cid number (Err x) rest put back p id n away found = others_stay old.rows q cid p id n away (rw (back.1, rest) at found)

-- Beginnings of a list

pub same_beginning : {A : Type 0} (xs ys : List A) → ys ≡ xs → IsPrefix xs ys
same_beginning xs ys same = ([], append-nil xs ∙ sym same)

-- a beginning of a list is one of that list with one more
longer : {A : Type 0} (xs ys : List A) (y : A) → IsPrefix xs ys → IsPrefix xs (ys ++ y ∷ [])
longer {A = A} xs ys y p = (p.0 ++ y ∷ [], sym (append_assoc xs p.0 (y ∷ [])) ∙ ap (λ (zs : List A). zs ++ y ∷ []) p.1)

-- which is at its end
at_end : {A : Type 0} (xs : List A) (x : A) → slice_get (xs ++ x ∷ []) (length xs) ≡ Some x
at_end [] x = refl
at_end (y ∷ xs) x = at_end xs x

-- what is in a beginning is in the whole, at the same index
pub stands_on : {A : Type 0} (xs ys : List A) (k : ℕ) (x : A) → IsPrefix xs ys → slice_get xs k ≡ Some x → slice_get ys k ≡ Some x
stands_on [] ys k x p found = absurd (none-some x found)
stands_on (y ∷ xs) [] k x p found = absurd (cc (p.1))
stands_on (y ∷ xs) (z ∷ ys) zero x p found = cc (p.1, found)
stands_on (y ∷ xs) (z ∷ ys) (suc k) x p found = stands_on xs ys k x (p.0, cc (p.1)) found

-- What a seat knows as it submits

-- those that it knew, and the drafts up to its own
pub learns_in : {at old : SeatContents} {here log : List Entry} → at ≡ old → here ≡ log → (d : DraftContents) (result : Result TicketContents (Refused DraftContents)) → is_ok result ≡ true
    → (drafts : List DraftContents) → IsPrefix at.known drafts → length drafts ≡ accepted here → (new : SeatContents) → new.known ≡ drafts ++ d ∷ [] → Learns log old d result new
learns_in {at = at} {here = here} same logs d (Ok ticket) ok drafts knew count new knows =
    rw (← same, ← logs, knows) (longer at.known drafts d knew, ap (λ (n : ℕ). slice_get (drafts ++ d ∷ []) n) (sym count) ∙ at_end drafts d)
learns_in same logs d (Err r) ok drafts knew count new knows = absurd (true≢false (sym ok))

-- and where it is refused, it knows no more
pub learns_none : {at old : SeatContents} (log : List Entry) → at ≡ old → (d : DraftContents) (result : Result TicketContents (Refused DraftContents)) → is_ok result ≡ false
    → (new : SeatContents) → new.known ≡ at.known → Learns log old d result new
learns_none log same d (Ok ticket) isnt new knows = absurd (true≢false isnt)
learns_none log same d (Err r) isnt new knows = rw (← same) knows
