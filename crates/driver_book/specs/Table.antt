-- The tables with which receipts are compared with a log in two passes: how many submissions there are before an index, in all and of each seat, and what the
-- entries starting at an index say about the ends of commands.
use Rattle.std.specs.Option.{option_map}
use Rattle.std.specs.Prelude.{◌≡◌, ℕ, ◌+◌, ◌*◌, ◌<◌, ◌≤◌, ◌&&◌, true, false, Option, Some, None, IfSome, List, length, take, drop, slice_get, slice_index_or, slice_set, nat_lt, if◌then◌else◌}
use Rattle.entry_codec.specs.declared.status.Status.{Status}
use Rattle.driver_book.specs.{Close.{accepted_of, held, queue_in, identifier_in, stands}, Entries.Entry, History.{is_accepted, accepted}, State.SeatContents}
use Rattle.driver_book.specs.declared.ends.End.{End}

-- Submissions before an index

-- how many there are before an index, in all, and of each seat by its number
pub record AreCounted (number : ℕ) (of_seats : List ℕ) (log : List Entry) (p : ℕ) : Type 0 where
  pub all : number ≡ accepted (take p log)
  pub each : (k : ℕ) → k < length of_seats → slice_index_or of_seats k 0 ≡ accepted_of (Some k) (take p log)

-- the count of a seat; 0 for a seat that has none
abbrev pub count_of : List ℕ → Option ℕ → ℕ
count_of counts None = 0
count_of counts (Some k) = slice_index_or counts k 0

-- the counts with another of a seat that has one
abbrev pub with_count : List ℕ → Option ℕ → ℕ → List ℕ
with_count counts None n = counts
with_count counts (Some k) n = slice_set counts k n

-- the queue and the identifier of each submission before an index are below these bounds
abbrev pub AreWithin : ℕ → ℕ → List Entry → ℕ → Type 0
AreWithin queues identifiers log p =
    (k : ℕ) → k < p → (e : Entry) → slice_get log k ≡ Some e → is_accepted e ≡ true → (queue_in e.step < queues) × (identifier_in e.step < identifiers)

-- Ends starting at an index

-- of two ends the one that comes first in the log
abbrev pub earlier : Option End → Option End → Option End
earlier None b = b
earlier (Some a) None = Some a
earlier (Some a) (Some b) = if nat_lt a.place b.place then Some a else Some b

-- the first ends of single commands, by queue and identifier, of queues, and of all
pub record EndTable : Type 0 where
  pub single : List (Option End)
  pub retired : List (Option End)
  pub reset : Option End
  pub identifiers : ℕ

-- the status with which a command ended: of its own end, that of its queue and that of all, the first counts
abbrev pub status_in : EndTable → ℕ → ℕ → Option Status
status_in t q cid =
    option_map (λ (e : End). e.status) (earlier (slice_index_or t.single (q * t.identifiers + cid) None) (earlier (slice_index_or t.retired q None) t.reset))

-- the table with one more end of a command alone, where it has a cell for it
abbrev pub with_single : EndTable → ℕ → ℕ → End → List (Option End)
with_single t q cid e = if nat_lt q (length t.retired) && nat_lt cid t.identifiers then slice_set t.single (q * t.identifiers + cid) (Some e) else t.single

-- it is at an index, or after it
abbrev pub IsFrom : ℕ → Option End → Type 0
IsFrom p o = IfSome o (λ (e : End). p ≤ e.place)

-- the table tells what the entries starting at an index say about each command
pub record Tells (t : EndTable) (log : List Entry) (p : ℕ) : Type 0 where
  pub single_from : (i : ℕ) → IsFrom p (slice_index_or t.single i None)
  pub retired_from : (q : ℕ) → IsFrom p (slice_index_or t.retired q None)
  pub reset_from : IsFrom p t.reset
  pub told : (q cid : ℕ) → q < length t.retired → cid < t.identifiers → status_in t q cid ≡ held q cid (drop p log)

-- Submissions that stand

-- each accepted submission from one index up to, but not including, another stands in the receipts
abbrev pub StandFrom : List Entry → List SeatContents → ℕ → ℕ → Type 0
StandFrom log seats p n = (k : ℕ) → p ≤ k → k < n → (e : Entry) → slice_get log k ≡ Some e → is_accepted e ≡ true → stands log seats k e ≡ true

-- the first submission at or after an index that stands in no receipt: its seat and its number
abbrev pub IsMissingFrom : List Entry → List SeatContents → ℕ → ℕ → ℕ → Type 0
IsMissingFrom log seats p seat number =
    (k : ℕ) × (e : Entry)
    × (slice_get log k ≡ Some e) × (is_accepted e ≡ true) × (e.seat ≡ Some seat) × (number ≡ accepted (take k log))
    × (stands log seats k e ≡ false) × (p ≤ k) × StandFrom log seats p k

-- a number above those of all seats
abbrev pub AreBelow : List SeatContents → ℕ → Type 0
AreBelow seats n = (k : ℕ) (s : SeatContents) → slice_get seats k ≡ Some s → s.number < n
