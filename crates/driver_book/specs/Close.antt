-- What it is to close a book: its log is compared with the receipts of its seats.
use Rattle.std.specs.List.{list_any}
use Rattle.std.specs.Prelude.{◌≡◌, ◌⊎◌, ℕ, ◌+◌, ◌<◌, ◌≤◌, ◌==◌, ◌&&◌, Bool, true, false, Option, Some, None, is_none, List, [], ◌∷◌, length, map, count_by, slice_get, take, drop, sum_by, if◌then◌else◌}
use Rattle.entry_codec.specs.declared.status.{Status.Status, TheConstants.Status.ABORTED_SQ_DELETION}
use Rattle.machine_model.specs.{Claims.counts_of, Status.same_status, declared.words.Reaped.TheVariants.Done}
use Rattle.driver_book.specs.{Entries.{Entry, asked_in}, History.{is_accepted, accepted}, Reports.Report, State.{BookContents, SeatContents}}
use Rattle.driver_book.specs.declared.report.{CloseFault.{CloseFault, TheVariants.{Missing, SeatOut, StillOut, Memory}}, Asked.Asked, Receipt.Receipt}
use Rattle.step_core.specs.Values.{Reply, Step}
use Rattle.step_core.specs.declared.step.Reply.TheVariants as reply
use Rattle.step_core.specs.declared.step.Step.TheVariants as step
use Rattle.io_commands.specs.{BlockSizes.block_bytes, Requests.{same_flags, same_kind}}

-- How the log says that a command ended

-- the status with which a step made a submitted command of a queue held: its completion was reaped, its queue retired, or the controller reset
abbrev pub status_by : ℕ → ℕ → Step → Reply → Option Status
status_by q cid (step.Reap of) (reply.Reaps (Done ended status)) = if (of == q) && (ended == cid) then Some status else None
status_by q cid (step.Retire of) reply.Accepted = if of == q then Some ABORTED_SQ_DELETION else None
status_by q cid step.Reset reply.Accepted = Some ABORTED_SQ_DELETION
status_by q cid what answer = None

abbrev pub first_of : Option Status → Option Status → Option Status
first_of (Some status) later = Some status
first_of None later = later

-- the first status that a log goes on to give a submitted command
abbrev pub held : ℕ → ℕ → List Entry → Option Status
held q cid [] = None
held q cid (e ∷ es) = first_of (status_by q cid e.step e.answer) (held q cid es)

-- Which receipt is that of a submission

abbrev pub same_seat : Option ℕ → Option ℕ → Bool
same_seat None None = true
same_seat None (Some b) = false
same_seat (Some a) None = false
same_seat (Some a) (Some b) = a == b

-- how many submissions of a seat were accepted
abbrev pub accepted_of : Option ℕ → List Entry → ℕ
accepted_of seat log = count_by (λ e. is_accepted e && same_seat e.seat seat) log

-- no status yet, or the one that the log gives
abbrev pub fits_status : Option Status → Option Status → Bool
fits_status None told = true
fits_status (Some status) None = false
fits_status (Some status) (Some told) = same_status status told

-- the queue and identifier of a submission
abbrev pub queue_in : Step → ℕ
queue_in (step.Submit q cid) = q
queue_in what = 0

abbrev pub identifier_in : Step → ℕ
identifier_in (step.Submit q cid) = cid
identifier_in what = 0

-- the same kind, namespace, flags, first block, block size and number of blocks
abbrev pub same_asked : Asked → Asked → Bool
same_asked a b = same_kind a.kind b.kind && (a.nsid == b.nsid) && same_flags a.flags b.flags && (a.slba == b.slba) && (block_bytes a.block_size == block_bytes b.block_size) && (a.blocks == b.blocks)

-- what the draft of an entry asks for; an entry without a draft fits nothing
abbrev pub fits_asked : Asked → Option Asked → Bool
fits_asked asked None = false
fits_asked asked (Some logged) = same_asked asked logged

abbrev pub is_receipt_of : ℕ → ℕ → ℕ → Option Asked → Option Status → Option Receipt → Bool
is_receipt_of number q cid asked told None = false
is_receipt_of number q cid asked told (Some r) = (r.number == number) && (r.q == q) && (r.cid == cid) && fits_asked r.asked asked && fits_status r.status told

-- a seat of this number has that receipt at this index
abbrev pub has : Option ℕ → ℕ → ℕ → ℕ → ℕ → Option Asked → Option Status → SeatContents → Bool
has seat place number q cid asked told s = same_seat (Some s.number) seat && is_receipt_of number q cid asked told (slice_get s.receipts place)

-- The submission at index p of the log, the j-th of its seat, stands in the j-th receipt of that seat: it has the submission's number, queue and identifier, what
-- its draft asks for, and no status or the one that the log gave the command.
abbrev pub stands : List Entry → List SeatContents → ℕ → Entry → Bool
stands log seats p e =
    let q = queue_in e.step in
    let cid = identifier_in e.step in
    list_any (has e.seat (accepted_of e.seat (take p log)) (accepted (take p log)) q cid (asked_in e.draft) (held q cid (drop (p + 1) log))) seats

abbrev pub StandsAt : List Entry → List SeatContents → ℕ → Type 0
StandsAt log seats p = (e : Entry) → slice_get log p ≡ Some e → is_accepted e ≡ true → stands log seats p e ≡ true

-- each accepted submission before index n stands in the receipts
abbrev pub StandBefore : List Entry → List SeatContents → ℕ → Type 0
StandBefore log seats n = (p : ℕ) → p < n → StandsAt log seats p

abbrev pub AllStand : List Entry → List SeatContents → Type 0
AllStand log seats = StandBefore log seats (length log)

-- the first accepted submission that stands in no receipt: its seat and its number
abbrev pub IsMissing : List Entry → List SeatContents → ℕ → ℕ → Type 0
IsMissing log seats seat number =
    (p : ℕ) × (e : Entry)
    × (slice_get log p ≡ Some e) × (is_accepted e ≡ true) × (e.seat ≡ Some seat) × (number ≡ accepted (take p log))
    × (stands log seats p e ≡ false) × StandBefore log seats p

-- how many receipts seats have
abbrev pub receipts_of : List SeatContents → ℕ
receipts_of seats = sum_by (λ s. length s.receipts) seats

-- some receipt has no status
abbrev pub has_open : List SeatContents → Bool
has_open seats = list_any (λ s. list_any (λ r. is_none r.status) s.receipts) seats

-- How a close ends

-- every receipt has its status, and no command is outstanding
abbrev pub IsDone : BookContents → List SeatContents → Type 0
IsDone book seats = (has_open seats ≡ false) × (length book.world.host.records ≡ 0)

-- why a book was not closed: the cause, and no earlier one; memory is wanted for the list of the seats' receipts, where there is a seat
abbrev pub RefusesClose : CloseFault → BookContents → List SeatContents → Type 0
RefusesClose (Missing seat number) book seats = IsMissing book.log seats seat number
RefusesClose SeatOut book seats = AllStand book.log seats × (length seats < book.out)
RefusesClose StillOut book seats =
    AllStand book.log seats × (book.out ≤ length seats) × ((has_open seats ≡ true) ⊎ (0 < length book.world.host.records))
RefusesClose Memory book seats = AllStand book.log seats × (book.out ≤ length seats) × IsDone book seats × (0 < length seats)

-- what a closed book says
pub record Reports (report : Report) (book : BookContents) (seats : List SeatContents) : Type 0 where
  pub submissions : report.submissions ≡ accepted book.log
  pub counts : report.counts ≡ counts_of book.world.host
  pub receipts : report.receipts ≡ map (λ s. s.receipts) seats
