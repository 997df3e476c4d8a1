-- What a call of a shared book says: that some book of this opening, whose log leads from there to its world, did it.
use Rattle.std.specs.{List.Contains, Prelude.{◌≡◌, ℕ, ◌<◌, ◌≤◌, Bool, true, [], Option, Some, None, List, length, Result, MatchOption}}
use mathlib.Core.List.{IsPrefix}
use Rattle.io_commands.specs.{Drafts.DraftContents, Values.{FinishedContents, TicketContents}}
use Rattle.machine_model.specs.{Agreeing.SidesAgree, Claims.{claims_of, counts_of}, Events.{Event, Reply}, State.State}
use Rattle.page_ledger.specs.{Counting.total, declared.owner.{Counts.Counts, Owner.Owner}}
use Rattle.driver_book.specs.{Calls.{Does, Learns, Receives, Settles}, Close.{AllStand, IsDone, RefusesClose, Reports, receipts_of}, History.{accepted, last_place}}
use Rattle.driver_book.specs.{Reports.Report, State.{BookContents, IsBookOf, SeatContents}, declared.report.CloseFault.CloseFault}
use Rattle.step_core.specs.{Replies.accept_reply, Touching.StaysAllowed}
use Rattle.host_core.specs.declared.refused.Refused.{Refused}
use Rattle.machine_model.specs.Events as events

-- some book of this opening made this step
pub record Made (opening : State) (seat : Option ℕ) (e : Event) (r : Reply) : Type 0 where
  pub old : BookContents
  pub new : BookContents
  pub of : IsBookOf opening old
  pub does : Does old seat e r new

-- so of a step of the controller: in a trusted world each page that its reply tells is one that it may touch
pub record Served (opening : State) (e : Event) (r : Reply) : Type 0 where
  pub old : BookContents
  pub new : BookContents
  pub of : IsBookOf opening old
  pub does : Does old None e r new
  pub allowed : StaysAllowed old.world e r

-- It collected the command of this seat's submission of this number: its submissions begin with those that the seat knows, and this one was the
-- last of the queue and identifier.
pub record Collected (opening : State) (seat : SeatContents) (number q cid : ℕ) (f : FinishedContents) : Type 0 where
  pub old : BookContents
  pub new : BookContents
  pub of : IsBookOf opening old
  pub does : Does old None (events.Collect q cid) (events.Collects f) new
  pub knows : IsPrefix seat.known old.drafts
  pub latest : last_place q cid old.drafts ≡ Some number

-- and gave the seat a receipt, where the submission was accepted
pub record Submitted (opening : State) (seat : SeatContents) (d : DraftContents) (result : Result TicketContents (Refused DraftContents)) (next : SeatContents) : Type 0 where
  pub old : BookContents
  pub new : BookContents
  pub of : IsBookOf opening old
  pub does : Does old (Some seat.number) (events.Submit d) (accept_reply result) new
  pub receives : Receives old.log seat d result next
  pub learns : Learns old.log seat d result next

-- and gave the seat's receipt its status, where the command was released
pub record Released (opening : State) (seat : SeatContents) (f : FinishedContents) {A : Type 0} (result : Result A (Refused FinishedContents)) (next : SeatContents) : Type 0 where
  pub old : BookContents
  pub new : BookContents
  pub of : IsBookOf opening old
  pub does : Does old (Some seat.number) (events.Release f) (accept_reply result) new
  pub settles : Settles old.world seat f result next

-- some book of this opening was reset, and both sides agree since
pub record Recovers (opening : State) : Type 0 where
  pub old : BookContents
  pub new : BookContents
  pub of : IsBookOf opening old
  pub does : Does old None events.Reset events.Accepted new
  pub agree : SidesAgree new.world

-- some book of this opening made this seat, with the next number and no receipts
pub record Seated (opening : State) (seat : SeatContents) : Type 0 where
  pub book : BookContents
  pub of : IsBookOf opening book
  pub room : book.made < 65535
  pub next : seat ≡ record { number = book.made; receipts = []; spare = 0; known = book.drafts }

-- some book of this opening has made all its seats
pub record GivesNoSeat (opening : State) : Type 0 where
  pub book : BookContents
  pub of : IsBookOf opening book
  pub all : book.made ≡ 65535

-- some book of this opening was told to stop, and is otherwise as it was
pub record Stops (opening : State) : Type 0 where
  pub old : BookContents
  pub new : BookContents
  pub of : IsBookOf opening old
  pub stops : new ≡ record old { stopping = true }

-- some book of this opening says whether it was told to stop
pub record TellsStopping (opening : State) (answer : Bool) : Type 0 where
  pub book : BookContents
  pub of : IsBookOf opening book
  pub tells : answer ≡ book.stopping

-- some book of this opening says who owns a page, or that it has no such page
pub record TellsOwner (opening : State) (p : ℕ) (answer : Option Owner) : Type 0 where
  pub book : BookContents
  pub of : IsBookOf opening book
  pub tells : MatchOption answer (length book.world.memory ≤ p) (λ owner. Contains (claims_of book.world.host) (p, owner))

pub record Counted (opening : State) (counts : Counts) : Type 0 where
  pub book : BookContents
  pub of : IsBookOf opening book
  pub counts_are : counts ≡ counts_of book.world.host
  pub all : total counts ≡ length book.world.memory

-- A book of this opening was closed with these seats: each accepted submission of its log stands in their receipts, there is no further
-- receipt, each has its status, and no command was outstanding.
pub record Closes (opening : State) (report : Report) (seats : List SeatContents) (book : BookContents) : Type 0 where
  pub of : IsBookOf opening book
  pub stand : AllStand book.log seats
  pub no_more : receipts_of seats ≡ accepted book.log
  pub all_seats : book.out ≤ length seats
  pub done : IsDone book seats
  pub reports : Reports report book seats

-- some book of this opening was not closed, for this cause and no earlier one
pub record StaysOpen (opening : State) (why : CloseFault) (seats : List SeatContents) : Type 0 where
  pub book : BookContents
  pub of : IsBookOf opening book
  pub refuses : RefusesClose why book seats
