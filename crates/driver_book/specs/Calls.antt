-- What the calls of a book do: each makes one step of the world, and writes it down unless it answers `Memory`.
use Rattle.std.specs.Prelude.{◌≡◌, ℕ, ◌+◌, ◌==◌, ◌&&◌, Bool, false, is_none, Option, Some, None, option_and_then, Result, Ok, Err, List, [], ◌∷◌, ◌++◌, length, position, slice_get, slice_set, slice_index_or}
use mathlib.Core.List.{IsPrefix}
use Rattle.entry_codec.specs.declared.status.Status.{Status}
use Rattle.io_commands.specs.{Asked.Request, Drafts.DraftContents, Requests.data_count, Values.{FinishedContents, TicketContents}, declared.request.{Kind.TheVariants.Read, TheConstants.Flags.NONE}}
use Rattle.io_commands.specs.declared.block_size.BlockSize.TheVariants.{Bytes512}
use Rattle.machine_model.specs.{Events.Event, Refusals.refusal_of, State.{State, Host, record_at}, declared.words.Refusal.Refusal}
use Rattle.driver_book.specs.{Entries.{Entry, LoggedDraft, Lacks, asked_of}, History.{told, entry, entry_of, accepted, with_draft}, State.{BookContents, SeatContents}}
use Rattle.driver_book.specs.declared.report.{Asked.Asked, Receipt.Receipt}
use Rattle.host_core.specs.declared.refused.Refused.{Refused}
use Rattle.step_core.specs.Values.{Reply, Step}
use Rattle.machine_model.specs.Events as events
use Rattle.machine_model.specs.Step as machine
use Rattle.machine_model.specs.declared.words.Refusal.TheVariants as refusal

-- what is written down of a reply: nothing where memory was refused
abbrev pub noted : events.Reply → Option Reply
noted (events.Refused refusal.Memory touched) = None
noted r = Some (told r)

-- the entries that a call adds to the log
abbrev pub entries : Option ℕ → Step → Option LoggedDraft → Option Reply → List Entry
entries seat what draft None = []
entries seat what draft (Some answer) = entry seat what answer draft ∷ []

-- A call that answers want of memory leaves the book as it was. Any other is one step of the world, and the last entry of the log; a submission
-- that is accepted is the last one. The log may have got room in either case, and pages may have been touched.
abbrev pub Does : BookContents → Option ℕ → Event → events.Reply → BookContents → Type 0
Does old seat e (events.Refused refusal.Memory touched) new = new ≡ record old { room = new.room; touches = new.touches; tabled = new.tabled }
Does old seat e r new =
    machine.Step old.world e r new.world × (new ≡ record old { world = new.world; log = old.log ++ entry_of seat e r ∷ []; room = new.room; touches = new.touches; drafts = with_draft old.drafts e r; tabled = new.tabled })

-- Why memory was wanted

-- want of memory is answered for this cause alone
abbrev pub WantsMemoryFor : Type 0 → events.Reply → Type 0
WantsMemoryFor Cause (events.Refused refusal.Memory touched) = Cause
WantsMemoryFor Cause r = Unit {0}

-- the log takes no entry before it has to grow
abbrev pub IsLogFull : BookContents → Type 0
IsLogFull book = book.room.entries ≡ 0

-- the most page numbers that the log has to take for a reservation: none for one that is refused; otherwise those of its data pages, and of its chain no more than
-- there are pieces
abbrev pub most_of : Option Refusal → Request → ℕ
most_of None r = data_count r.pieces + length r.pieces
most_of (Some why) r = 0

abbrev pub most_pages : State → ℕ → Request → ℕ
most_pages s q r = most_of (refusal_of s (events.Reserve q r)) r

-- the log has too little room for a reservation, or for a submission
abbrev pub LacksRoomToReserve : BookContents → ℕ → Request → Type 0
LacksRoomToReserve book q r = Lacks book.room (length r.pieces) (most_pages book.world q r)

abbrev pub LacksRoomToSubmit : BookContents → DraftContents → Type 0
LacksRoomToSubmit book d = Lacks book.room (length d.request.pieces) (length d.data_pages + length d.chain_pages)

-- the book has no table of the last submissions yet
abbrev pub HasNoTable : BookContents → Type 0
HasNoTable book = book.tabled ≡ false

-- so with the list of a seat's receipts
abbrev pub AreReceiptsFull : SeatContents → Type 0
AreReceiptsFull seat = seat.spare ≡ 0

-- the event takes memory of the world's own, and nothing else stands in its way; the second is not said of a fetch after a forged entry
abbrev pub MayWorldWant : BookContents → Event → Type 0
MayWorldWant book e = (touched : List ℕ) × machine.Permits book.world e (events.Refused refusal.Memory touched)

-- Receipts

abbrev pub receipt : ℕ → ℕ → ℕ → Asked → Option Status → Receipt
receipt number q cid asked status = record { number = number; q = q; cid = cid; asked = asked; status = status }

-- a seat has one more receipt for an accepted submission
abbrev pub Receives : List Entry → SeatContents → DraftContents → Result TicketContents (Refused DraftContents) → SeatContents → Type 0
Receives log old d (Ok ticket) new = new ≡ record old { receipts = old.receipts ++ receipt (accepted log) d.q d.cid (asked_of d.request) None ∷ []; spare = new.spare; known = new.known }
Receives log old d (Err r) new = new ≡ record old { spare = new.spare }

-- and knows all submissions up to that one, which has the receipt's number; those that it knew come first
abbrev pub Learns : List Entry → SeatContents → DraftContents → Result TicketContents (Refused DraftContents) → SeatContents → Type 0
Learns log old d (Ok ticket) new = IsPrefix old.known new.known × (slice_get new.known (accepted log) ≡ Some d)
Learns log old d (Err r) new = new.known ≡ old.known

-- a receipt for this command, without a status yet
abbrev pub is_open_for : ℕ → ℕ → Receipt → Bool
is_open_for q cid r = (r.q == q) && (r.cid == cid) && is_none r.status

-- what stands for a receipt past the end of a list
abbrev pub no_receipt : Receipt
no_receipt = receipt 0 0 0 (record { kind = Read; nsid = 0; flags = NONE; slba = 0; block_size = Bytes512; blocks = 0 }) None

abbrev pub settled_at : Option ℕ → Option Status → List Receipt → List Receipt
settled_at None status receipts = receipts
settled_at (Some i) status receipts = slice_set receipts i (record (slice_index_or receipts i no_receipt) { status = status })

-- the first receipt for this command without a status gets this one
abbrev pub settled : ℕ → ℕ → Option Status → List Receipt → List Receipt
settled q cid status receipts = settled_at (position (is_open_for q cid) receipts) status receipts

-- the status that an outstanding command has, once it ended
abbrev pub status_at : Host → ℕ → ℕ → Option Status
status_at h q cid = option_and_then (λ r. r.status) (record_at h q cid)

-- the receipt of a command gets the status that the command has in this world, as it is released
abbrev pub Settles : State → SeatContents → FinishedContents → {A : Type 0} → Result A (Refused FinishedContents) → SeatContents → Type 0
Settles world old f (Ok done) new = new ≡ record old { receipts = settled f.q f.cid (status_at world.host f.q f.cid) old.receipts }
Settles world old f (Err r) new = new ≡ old
