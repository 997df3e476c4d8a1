-- What is said of queues and bytes, one after the other.
use Rattle.std.proofs.Common.{arith, ◌≡◌, ◌≤◌, ◌+◌, ◌-◌, ℕ, zero, suc, List, refl, subst, append_assoc, append-nil, ◌++◌, ◌*◌, ◌<◌, ◌∙◌, length, [], take, drop, sym, ap, Bool, true, false, Option, Some, None, Result, Ok, Err, OnOk, nat_le}
use Rattle.machine_model.specs.State.{State}
use Rattle.shell.specs.{Pages.{rows_text, row_said, before_next, bytes_text, page_text}, Rings.{SaysRings, SaysAllRings}, declared.pages.Before.Before}
use Rattle.page_ledger.specs.declared.owner.Owner.{Owner}

-- What is said of queues, one after the other.

pub said_next : (world : State) (n q : ℕ) (before mid after : List ℕ) → SaysAllRings world n q before mid → SaysRings world (q + n) mid after → SaysAllRings world (suc n) q before after
said_next world zero q before mid after says one = (after, subst (λ (text : List ℕ). SaysRings world q text after) says (subst (λ (p : ℕ). SaysRings world p mid after) at one), refl)
  where
    at : q + 0 ≡ q
    at = grind arith
said_next world (suc n) q before mid after (first, says, more) one = (first, says, said_next world n (q + 1) first mid after more (subst (λ (p : ℕ). SaysRings world p mid after) at one))
  where
    at : q + suc n ≡ (q + 1) + n
    at = grind arith

pub said_behind : (world : State) (first q : ℕ) (before mid after : List ℕ) → first ≤ q → SaysAllRings world (q - first) first before mid → SaysRings world q mid after
    → SaysAllRings world (q + 1 - first) first before after
said_behind world first q before mid after le says one =
    subst (λ (n : ℕ). SaysAllRings world n first before after) many (said_next world (q - first) first before mid after says (subst (λ (p : ℕ). SaysRings world p mid after) at one))
  where
    at : q ≡ first + (q - first)
    at = grind (arith, le)

    many : suc (q - first) ≡ q + 1 - first
    many = grind (arith, le)

-- Rows of bytes, one after the other.

rows_step : (n : ℕ) (before : Before) (at : ℕ) (bytes : List ℕ) →
    rows_text (suc n) before at bytes ≡ row_said before at (take 16 bytes) ++ rows_text n (before_next before (take 16 bytes)) (at + 16) (drop 16 bytes)
unfolding rows_text
rows_step n before at bytes = refl

no_rows : (before : Before) (at : ℕ) (bytes : List ℕ) → rows_text zero before at bytes ≡ []
unfolding rows_text
no_rows before at bytes = refl

-- what is said so far, and the rows left, go on to a text
abbrev pub GoesOn : List ℕ → Before → ℕ → List ℕ → List ℕ → Type 0
GoesOn said before at rest whole = (n : ℕ) × (16 * n ≡ length rest) × (said ++ rows_text n before at rest ≡ whole)

pub goes_on : (said said' : List ℕ) (before : Before) (at : ℕ) (rest row behind whole : List ℕ) → GoesOn said before at rest whole
    → row ≡ take 16 rest → behind ≡ drop 16 rest → length behind + 16 ≡ length rest → said' ≡ said ++ row_said before at row
    → GoesOn said' (before_next before row) (at + 16) behind whole
goes_on said said' before at rest row behind whole (zero, e, same) is_row is_behind len is_said = grind (arith)
goes_on said said' before at rest row behind whole (suc n, e, same) is_row is_behind len is_said = (n, grind (arith), text)
  where
    whole_of : rows_text (suc n) before at rest ≡ row_said before at (take 16 rest) ++ rows_text n (before_next before (take 16 rest)) (at + 16) (drop 16 rest)
        → (said ++ row_said before at (take 16 rest)) ++ rows_text n (before_next before (take 16 rest)) (at + 16) (drop 16 rest) ≡ whole
    whole_of step = append_assoc said _ _ ∙ (ap (λ (x : List ℕ). said ++ x) (sym step) ∙ same)

    text : said' ++ rows_text n (before_next before row) (at + 16) behind ≡ whole
    text = rw (is_said, is_row, is_behind) (whole_of (rows_step n before at rest))

pub comes_to_end : (said : List ℕ) (before : Before) (at : ℕ) (rest whole : List ℕ) → GoesOn said before at rest whole → length rest < 16 → said ≡ whole
comes_to_end said before at rest whole (zero, e, same) short = sym (append-nil said) ∙ (ap (λ (x : List ℕ). said ++ x) (sym (no_rows before at rest)) ∙ same)
comes_to_end said before at rest whole (suc n, e, same) short = grind (arith)

-- What holds where a call succeeded.

pub on_ok : {A E : Type 0} (r : Result A E) (P Q : Type 0) → (P → Q) → OnOk r P → OnOk r Q
on_ok (Ok x) P Q f h = f h
on_ok (Err e) P Q f h = tt

-- a page that is in
pub in_text : (pages p : ℕ) (found : Option (List ℕ)) (bytes text : List ℕ) (owner : Owner) → nat_le pages p ≡ false → found ≡ Some bytes → text ≡ bytes_text bytes → text ≡ page_text pages p found owner
in_text pages p found bytes text owner is has said = said ∙ (rw (is, has) refl)

pub not_out : (P : Type 0) (found : Option (List ℕ)) (bytes : List ℕ) → found ≡ Some bytes → found ≡ None → P
not_out P found bytes has none = clash (sym has ∙ none)
  where
    clash : ◌≡◌ {A = Option (List ℕ)} (Some bytes) None → P
    clash e = cc
