-- How jobs ended, beside the receipts of their submitter's seat.
use Rattle.std.specs.Prelude.{◌≡◌, ℕ, Bool, true, false, Option, Some, None, List, [], ◌∷◌, ◌++◌, map, slice_get, option_and_then}
use Rattle.entry_codec.specs.declared.status.Status.{Status}
use Rattle.io_commands.specs.Values.{TicketContents}
use Rattle.driver_book.specs.{Calls.{receipt, settled}, declared.report.{Asked.Asked, Receipt.Receipt}}
use Rattle.driver_threads.specs.{Values.EndOf, declared.{flight.Flying.Flying, jobs.JobEnd.TheVariants.{Done, Refused}, waits.Halt.Halt}}
use Rattle.driver_threads.specs.declared.waits.Halt.TheVariants as halt

-- how the commands of jobs ended, in order; a refused job had none
abbrev pub ends_of : {K : Type 0} → List (EndOf K) → List (Option Status)
ends_of [] = []
ends_of (Done status kept ∷ ends) = Some status ∷ ends_of ends
ends_of (Refused why ∷ ends) = ends_of ends

-- the statuses of receipts
abbrev pub statuses_of : List Receipt → List (Option Status)
statuses_of receipts = map (λ r. r.status) receipts

-- each command ended as its receipt says, and there is no further receipt
abbrev pub Agree : {K : Type 0} → List Receipt → List (EndOf K) → Type 0
Agree receipts ends = statuses_of receipts ≡ ends_of ends

-- so of each submitter's seat and jobs, in their order
abbrev pub AllAgree : {K : Type 0} → List (List Receipt) → List (List (EndOf K)) → Type 0
AllAgree receipts ends = map statuses_of receipts ≡ map ends_of ends

-- the status of the receipt at an index
abbrev pub status_of : List Receipt → ℕ → Option Status
status_of receipts place = option_and_then (λ r. r.status) (slice_get receipts place)

-- one more receipt, for the command of a ticket, without a status
abbrev pub Awaits : List Receipt → TicketContents → List Receipt → Type 0
Awaits old ticket new = (number : ℕ) × (asked : Asked) × (new ≡ old ++ receipt number ticket.q ticket.cid asked None ∷ [])

-- the command's receipt got a status, and the job's end is what the receipt at this index says
abbrev pub EndsWith : {K : Type 0} → List Receipt → ℕ → ℕ → ℕ → EndOf K → List Receipt → Type 0
EndsWith old q cid place end new = (status : Option Status) × (new ≡ settled q cid status old) × (ends_of (end ∷ []) ≡ status_of new place ∷ [])

-- a command in flight, with what its job's data are
abbrev pub FlyingOf : Type 0 → Type 0
FlyingOf D = Flying D

-- these receipts are those of these commands in flight, in their order, and none has a status yet
abbrev pub AwaitEach : {D : Type 0} → List Receipt → List (FlyingOf D) → Type 0
AwaitEach [] [] = Unit {0}
AwaitEach (r ∷ receipts) (f ∷ flying) = (r ≡ receipt r.number f.ticket.q f.ticket.cid r.asked None) × AwaitEach receipts flying
AwaitEach receipts flying = ⊥

-- A submitter is under way: its receipts are those of the commands that ended, which agree with the ends of its jobs so far, and then those of
-- the commands in flight.
pub record IsUnderWay {D K : Type 0} (receipts : List Receipt) (ends : List (EndOf K)) (flying : List (FlyingOf D)) : Type 0 where
  pub ended : List Receipt
  pub awaited : List Receipt
  pub receipts_are : receipts ≡ ended ++ awaited
  pub agree : Agree ended ends
  pub await : AwaitEach awaited flying

-- a job is refused, and not cut off
abbrev pub refuses : Halt → Bool
refuses (halt.Refused why) = true
refuses why = false
