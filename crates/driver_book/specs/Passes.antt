-- How the first submission that stands in no receipt is found where there is no memory for tables: apart from the search for statuses, the log is gone through once
-- for the seats' numbers, and then once for each seat.
use Rattle.std.specs.{List.list_any, Prelude.{◌≡◌, ℕ, ◌<◌, Bool, true, false, Option, Some, List, slice_get}}
use Rattle.driver_book.specs.{Close.{same_seat, stands}, Entries.Entry, History.is_accepted, State.SeatContents}

-- a seat of this number is among these
abbrev pub is_known : List SeatContents → Option ℕ → Bool
is_known seats seat = list_any (λ s. same_seat (Some s.number) seat) seats

-- each accepted submission before an index is of one of these seats
abbrev pub AreKnown : List Entry → List SeatContents → ℕ → Type 0
AreKnown log seats n = (p : ℕ) → p < n → (e : Entry) → slice_get log p ≡ Some e → is_accepted e ≡ true → is_known seats e.seat ≡ true

-- each accepted submission of a seat before an index stands in the receipts
abbrev pub StandOf : Option ℕ → List Entry → List SeatContents → ℕ → Type 0
StandOf seat log seats n =
    (p : ℕ) → p < n → (e : Entry) → slice_get log p ≡ Some e → is_accepted e ≡ true → same_seat e.seat seat ≡ true → stands log seats p e ≡ true

-- an accepted submission that stands in no receipt
pub record IsMissingAt (log : List Entry) (seats : List SeatContents) (p : ℕ) : Type 0 where
  pub entry : Entry
  pub there : slice_get log p ≡ Some entry
  pub accepted : is_accepted entry ≡ true
  pub fails : stands log seats p entry ≡ false
