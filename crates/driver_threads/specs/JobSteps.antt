-- What the functions of a submitter say of one job and of those that it has in flight, from its reservation to its end.
use Rattle.std.specs.List.{AllZip}
use Rattle.std.specs.Prelude.{take, ◌≡◌, ◌≢◌, ◌⊎◌, ◌<◌, length, slice_get, sum_by, map, ℕ, Option, Some, None, List, [], ◌∷◌, ◌++◌, Ok}
use Rattle.entry_codec.specs.declared.status.Status.{Status}
use Rattle.io_commands.specs.{Asked.Request, Drafts.DraftContents, Values.{FinishedContents}}
use Rattle.io_commands.specs.{DataBytes.data_length, declared.request.Kind.TheVariants.Read}
use Rattle.machine_model.specs.{State.State, declared.words.Refusal.Refusal}
use Rattle.machine_model.specs.Events as events
use Rattle.machine_model.specs.declared.words.Refusal.TheVariants as refusal
use Rattle.driver_threads.specs.declared.jobs.JobRefusal.TheVariants as why
use Rattle.driver_book.specs.{State.SeatContents, declared.report.Receipt.Receipt}
use Rattle.driver_threads.specs.{Ends.{AwaitEach, FlyingOf, status_of}, Jobs.{AreSubmitted, BytesOf, KeepsOf, RefusesDraft, RefusesJob, WentBy}, Sharing.{Collected, Made, Released}, Values.{EndOf, JobOf}}
use Rattle.driver_threads.specs.declared.{jobs.{JobEnd.TheVariants.Done, JobRefusal.JobRefusal}, waits.{Halt.Halt, Reservation.Reservation}}
use Rattle.driver_threads.specs.declared.waits.Halt.TheVariants as halt
use Rattle.driver_threads.specs.declared.waits.Reservation.TheVariants as reservation

-- what a halt says of the cause for which it refuses a job; nothing where the job is cut off
abbrev pub Refusing : (JobRefusal → Type 0) → Halt → Type 0
Refusing Cause (halt.Refused why) = Cause why
Refusing Cause halt.Stopped = Unit {0}
Refusing Cause halt.Memory = Unit {0}

-- this halt refuses a job for this cause
abbrev pub IsRefusal : Halt → JobRefusal → Type 0
IsRefusal said cause = said ≡ halt.Refused cause

-- there are more bytes than the data pieces of a request take, which is not a Read
abbrev pub IsTooLong : List ℕ → Request → JobRefusal → Type 0
IsTooLong bytes request cause = (cause ≡ why.WrongLength) × (request.kind ≢ Read) × (sum_by data_length request.pieces < length bytes)

-- a queue takes no more commands, where a submission is refused for this
abbrev pub TakesNoMore : Refusal → JobRefusal → Type 0
TakesNoMore said cause = (cause ≡ why.QueueGone) × ((said ≡ refusal.QueueGone) ⊎ (said ≡ refusal.QueueFull))

-- so for this draft
abbrev pub TakesItNoMore : State → DraftContents → JobRefusal → Type 0
TakesItNoMore opening d cause = (cause ≡ why.QueueGone) × RefusesDraft opening d

-- some book of this opening reserved the request; or the request is handed back
abbrev pub IsReservation : {A : Type 0} → State → ℕ → Request → Reservation A → Type 0
IsReservation opening q request (reservation.Now draft) = Made opening None (events.Reserve q request) (events.Reserved draft)
IsReservation opening q request (reservation.Later later) = later ≡ request

abbrev pub number_or : Option Receipt → ℕ
number_or None = 0
number_or (Some r) = r.number

-- the end of a job with these data whose command is this one: what was kept of it, and the status of the receipt at this index
pub record IsEndOf {D K : Type 0} (Keeps : KeepsOf D K) (given : D) (command : FinishedContents) (receipts : List Receipt) (place : ℕ) (end : EndOf K) : Type 0 where
  pub status : Status
  pub kept : K
  pub end_is : end ≡ Done status kept
  pub keeps : Keeps given command kept
  pub told : status_of receipts place ≡ Some status

-- the number of the receipt at an index
abbrev pub number_of : List Receipt → ℕ → ℕ
number_of receipts place = number_or (slice_get receipts place)

-- The command with this identifier was given up: some book of this opening collected it, as that of the receipt at this index, some book released it for this seat,
-- and the end is that of the command.
pub record GivesUp {D K : Type 0} (Keeps : KeepsOf D K) (opening : State) (seat : SeatContents) (q cid : ℕ) (given : D) (place : ℕ) (end : EndOf K) (next : SeatContents) : Type 0 where
  pub command : FinishedContents
  pub collected : Collected opening seat (number_of seat.receipts place) q cid command
  pub queue : command.q ≡ q
  pub identifier : command.cid ≡ cid
  pub released : Released opening seat command {A = Unit {0}} (Ok tt) next
  pub end_is : IsEndOf Keeps given command next.receipts place end

-- the data of these jobs
abbrev pub data_of : {D : Type 0} → List (JobOf D) → List D
data_of jobs = map (λ job. job.bytes) jobs

-- A submitter carries these jobs: the first of them went this way, with the first receipts, and have these ends; the others are in flight, and have the other
-- receipts.
pub record Carries {D K : Type 0} (bytes_of : BytesOf D) (Keeps : KeepsOf D K) (opening : State) (seat : SeatContents) (ends : List (EndOf K)) (flying : List (FlyingOf D)) (jobs : List (JobOf D)) : Type 0 where
  pub done : List (JobOf D)
  pub left : List (JobOf D)
  pub ended : List Receipt
  pub awaited : List Receipt
  pub jobs_are : jobs ≡ done ++ left
  pub receipts_are : seat.receipts ≡ ended ++ awaited
  pub went : WentBy bytes_of Keeps opening seat.number done ended ends
  pub submitted : AreSubmitted bytes_of opening seat left awaited
  pub given : data_of left ≡ map (λ f. f.given) flying
  pub await : AwaitEach awaited flying

-- whatever a submitter carried, it goes on to carry
abbrev pub CarriesOn : {D K : Type 0} → BytesOf D → KeepsOf D K → State → SeatContents → List (EndOf K) → List (FlyingOf D) → SeatContents → List (EndOf K) → List (FlyingOf D) → Type 0
CarriesOn {D} bytes_of Keeps opening seat ends flying next later still =
    (jobs : List (JobOf D)) → Carries bytes_of Keeps opening seat ends flying jobs → Carries bytes_of Keeps opening next later still jobs

-- and one more job
abbrev pub CarriesAlso : {D K : Type 0} → BytesOf D → KeepsOf D K → State → SeatContents → List (EndOf K) → List (FlyingOf D) → JobOf D → SeatContents → List (EndOf K) → List (FlyingOf D) → Type 0
CarriesAlso {D} bytes_of Keeps opening seat ends flying job next later still =
    (jobs : List (JobOf D)) → Carries bytes_of Keeps opening seat ends flying jobs → Carries bytes_of Keeps opening next later still (jobs ++ job ∷ [])

-- and any further job that is refused for this cause
abbrev pub CarriesRefused : {D K : Type 0} → BytesOf D → KeepsOf D K → State → SeatContents → List (EndOf K) → List (FlyingOf D) → JobRefusal → SeatContents → List (EndOf K) → List (FlyingOf D) → Type 0
CarriesRefused {D} bytes_of Keeps opening seat ends flying cause next later still =
    (job : JobOf D) → RefusesJob bytes_of opening job cause → CarriesAlso bytes_of Keeps opening seat ends flying job next later still

-- What threads give back

-- this holds of each result and the argument at its index; there are at least as many arguments
abbrev pub HoldsOfEach : {A R : Type 0} → (A → R → Type 0) → List A → List R → Type 0
HoldsOfEach Holds arguments results = AllZip Holds (take (length results) arguments) results
