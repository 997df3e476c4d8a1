-- A whole command in one call: the steps that carry it from its reservation to its release.
use Rattle.std.specs.List.{AllByRecursion}
use Rattle.std.specs.Prelude.{◌≡◌, ◌⊎◌, ◌++◌, ◌==◌, ◌<◌, ◌≤◌, ℕ, Bool, true, false, Option, Some, None, Result, Ok, Err, List, [], ◌∷◌, drop, length, map}
use Rattle.io_commands.specs.{Asked.Request, declared.request.Kind.Kind}
use Rattle.entry_codec.specs.declared.{hints.Hints.Hints, status.Status.Status}
use Rattle.machine_model.specs.Script.{Table}
use Rattle.step_core.specs.{Bench.{Does, DoesAll}, Values.{Step, Reply}}
use Rattle.nvmesgl_c.specs.{Answers.{nothing, collected}, MachineAnswers.told_of, MachineCalls.Refuses, MachineCodes.code_of_answer, MachineKept.{Kept, code_in}, MachineServing.Serves, Requests.request_of, declared.words.answer.Answer.Answer}
use Rattle.nvmesgl_c.specs.declared.machine.serve.Served.{Served}
use Rattle.io_commands.specs.declared.request.Kind.TheVariants as kind
use Rattle.machine_model.specs.declared.words.Reaped.TheVariants as reaps
use Rattle.step_core.specs.declared.step.Reply.TheVariants as reply
use Rattle.step_core.specs.declared.step.Step.TheVariants as step

-- The steps of a command that is reserved

abbrev pub submit_steps : ℕ → ℕ → List Step
submit_steps q cid = step.Build q cid ∷ step.Submit q cid ∷ []

-- it is filled, where there are bytes, built and submitted
abbrev pub begin_steps : ℕ → ℕ → Option (List ℕ) → List Step
begin_steps q cid None = submit_steps q cid
begin_steps q cid (Some bytes) = step.Fill q cid bytes ∷ submit_steps q cid

abbrev pub end_steps : ℕ → ℕ → List Step
end_steps q cid = step.Collect q cid ∷ step.Gather q cid ∷ step.Release q cid ∷ []

-- whether a reply says that the step was done

abbrev pub is_accepted : Reply → Bool
is_accepted reply.Accepted = true
is_accepted r = false

abbrev pub is_collected : Reply → Bool
is_collected (reply.Collected status hints) = true
is_collected r = false

abbrev pub is_gathered : Reply → Bool
is_gathered (reply.Gathered bytes) = true
is_gathered r = false

abbrev pub is_done : Step → Reply → Bool
is_done (step.Collect q cid) r = is_collected r
is_done (step.Gather q cid) r = is_gathered r
is_done what r = is_accepted r

-- each of these steps was done
abbrev pub AllDone : Table → List Step → Table → Type 0
AllDone t [] new = new ≡ t
AllDone t (what ∷ steps) new = (r : Reply) × (mid : Table) × Does t what r mid × (is_done what r ≡ true) × AllDone mid steps new

-- the first of these steps that was not done has this reply, and those after it were not made
abbrev pub FirstFails : Table → List Step → Reply → Table → Type 0
FirstFails t [] why new = ⊥
FirstFails t (what ∷ steps) why new =
    (Does t what why new × (is_done what why ≡ false))
    ⊎ ((r : Reply) × (mid : Table) × Does t what r mid × (is_done what r ≡ true) × FirstFails mid steps why new)

-- what a submitted command waits for: its queue's doorbell is written, the controller serves, and the queue is reaped until the command has ended

-- whether nothing more is reaped for a command: it has ended, there is no completion, or a reap was refused
abbrev pub stops : ℕ → Reply → Bool
stops cid (reply.Reaps (reaps.Done ended status)) = ended == cid
stops cid (reply.Reaps (reaps.AdminDone ended status dw0)) = false
stops cid (reply.Reaps (reaps.Rejected why)) = false
stops cid r = true

-- the most completions that are reaped for a command
abbrev pub most_reaps : ℕ
most_reaps = 1024

-- the last one stops, and none before it does; or they are as many as are reaped at most
abbrev pub StopsWith : ℕ → List Reply → Type 0
StopsWith cid replies =
    ((before : List Reply) × (last : Reply) × (replies ≡ before ++ last ∷ []) × (stops cid last ≡ true) × AllByRecursion (λ r. stops cid r ≡ false) before)
    ⊎ ((length replies ≡ most_reaps) × AllByRecursion (λ r. stops cid r ≡ false) replies)

pub record ReapsUntil (q cid : ℕ) (t new : Table) : Type 0 where
  pub replies : List Reply
  pub does : DoesAll t (map (λ r. step.Reap q) replies) replies new
  pub stop : StopsWith cid replies

pub record Goes (q cid : ℕ) (t new : Table) : Type 0 where
  pub answer : Reply
  pub rung : Table
  pub served : Served
  pub behind : Table
  pub rings : Does t (step.Ring q) answer rung
  pub serves : Serves rung served behind
  pub reaps : ReapsUntil q cid behind new

-- A whole command

-- the reply says that a command was reserved under this identifier
abbrev pub Names : ℕ → Reply → Type 0
Names cid (reply.Reserved of named front back) = named ≡ cid
Names cid r = ⊥

-- a command was reserved
pub record IsReserved (t : Table) (q : ℕ) (request : Request) (cid : ℕ) (new : Table) : Type 0 where
  pub answer : Reply
  pub does : Does t (step.Reserve q request) answer new
  pub named : Names cid answer

-- a reserved command was submitted, and its end was waited for
pub record Runs (t : Table) (q cid : ℕ) (bytes : Option (List ℕ)) (new : Table) : Type 0 where
  pub begun : Table
  pub begins : AllDone t (begin_steps q cid bytes) begun
  pub goes : Goes q cid begun new

-- its end was collected, its bytes were gathered, and it was released
pub record Finishes (t : Table) (q cid : ℕ) (status : Status) (hints : Hints) (gathered : List ℕ) (new : Table) : Type 0 where
  pub does : DoesAll t (end_steps q cid) (reply.Collected status hints ∷ reply.Gathered gathered ∷ reply.Accepted ∷ []) new

-- it could not be submitted, and was cancelled
pub record GivesUp (t : Table) (q cid : ℕ) (bytes : Option (List ℕ)) (why : Reply) (new : Table) : Type 0 where
  pub stopped : Table
  pub answer : Reply
  pub fails : FirstFails t (begin_steps q cid bytes) why stopped
  pub cancels : Does stopped (step.Cancel q cid) answer new

-- how a whole command turned out
pub data Outcome : Type 0 where
  -- it ended, its bytes were gathered, and it was released
  Ended : Status → Hints → (gathered : List ℕ) → Outcome
  -- what the reservation answered
  NotReserved : Reply → Outcome
  -- what was answered that was not done, and it was cancelled
  GivenUp : Reply → Outcome
  -- it is outstanding, and what was answered that was not done
  Left : (cid : ℕ) → Reply → Outcome

-- how a reserved command turned out
abbrev pub ComesOut : Table → ℕ → ℕ → Option (List ℕ) → Outcome → Table → Type 0
ComesOut t q cid bytes (Ended status hints gathered) new = (gone : Table) × Runs t q cid bytes gone × Finishes gone q cid status hints gathered new
ComesOut t q cid bytes (NotReserved why) new = ⊥
ComesOut t q cid bytes (GivenUp why) new = GivesUp t q cid bytes why new
ComesOut t q cid bytes (Left of why) new = (of ≡ cid) × (gone : Table) × Runs t q cid bytes gone × FirstFails gone (end_steps q cid) why new

abbrev pub is_reserved : Reply → Bool
is_reserved (reply.Reserved q cid front back) = true
is_reserved r = false

pub record CarriesOn (t : Table) (q : ℕ) (request : Request) (bytes : Option (List ℕ)) (carried : Outcome) (new : Table) : Type 0 where
  pub cid : ℕ
  pub reserved : Table
  pub reserves : IsReserved t q request cid reserved
  pub comes : ComesOut reserved q cid bytes carried new

abbrev pub Carries : Table → ℕ → Request → Option (List ℕ) → Outcome → Table → Type 0
Carries t q request bytes (NotReserved why) new = Does t (step.Reserve q request) why new × (is_reserved why ≡ false)
Carries t q request bytes carried new = CarriesOn t q request bytes carried new

-- What C is told

abbrev pub code_of_carried : Outcome → ℕ
code_of_carried (Ended status hints gathered) = 0
code_of_carried (NotReserved why) = code_of_answer why
code_of_carried (GivenUp why) = code_of_answer why
code_of_carried (Left cid why) = code_of_answer why

abbrev pub told_carried : Outcome → Answer
told_carried (Ended status hints gathered) = record (collected status hints) { bytes = length gathered }
told_carried (NotReserved why) = told_of why
told_carried (GivenUp why) = told_of why
told_carried (Left cid why) = record nothing { state = 11; cid = cid }

-- a command of a handle that keeps a bench or none
abbrev pub CarriesKept : Kept → ℕ → Request → Option (List ℕ) → Result Outcome ℕ → Kept → Type 0
CarriesKept (Err h) q request bytes (Err code) new = (code ≡ code_in h) × (new ≡ Err h)
CarriesKept (Ok t) q request bytes (Ok carried) (Ok new) = Carries t q request bytes carried new
CarriesKept t q request bytes carried new = ⊥

abbrev pub code_of : Result Outcome ℕ → ℕ
code_of (Err code) = code
code_of (Ok carried) = code_of_carried carried

abbrev pub told_of_kept : Result Outcome ℕ → Answer
told_of_kept (Err code) = nothing
told_of_kept (Ok carried) = told_carried carried

-- what is not carried: more bytes than a command moves, or memory is refused for what it takes along
abbrev pub IsTurnedAway : Kept → ℕ → ℕ → Answer → Kept → Type 0
IsTurnedAway t n code answer new = ((1048576 < n) × Refuses t 43 code answer new) ⊎ ((n ≤ 1048576) × Refuses t 15 code answer new)

-- a Write or a Compare of these bytes
pub record Sends (t : Kept) (q : ℕ) (kind : Kind) (slba : ℕ) (bytes : List ℕ) (code : ℕ) (answer : Answer) (new : Kept) : Type 0 where
  pub carried : Result Outcome ℕ
  pub few : length bytes ≤ 1048576
  pub carries : CarriesKept t q (request_of kind slba (length bytes)) (Some bytes) carried new
  pub code_is : code ≡ code_of carried
  pub answer_is : answer ≡ told_of_kept carried

-- a Read's bytes at the start of a buffer, where they fit
abbrev pub LaidOf : Result Outcome ℕ → ℕ → List ℕ → List ℕ → Type 0
LaidOf (Ok (Ended status hints gathered)) code old new =
    ((length old < length gathered) × (code ≡ 5) × (new ≡ old)) ⊎ ((code ≡ 0) × (new ≡ gathered ++ drop (length gathered) old))
LaidOf carried code old new = (code ≡ code_of carried) × (new ≡ old)

-- a Read into a buffer
pub record Brings (t : Kept) (q slba : ℕ) (old buffer : List ℕ) (code : ℕ) (answer : Answer) (new : Kept) : Type 0 where
  pub carried : Result Outcome ℕ
  pub few : length old ≤ 1048576
  pub carries : CarriesKept t q (request_of kind.Read slba (length old)) None carried new
  pub laid : LaidOf carried code old buffer
  pub answer_is : answer ≡ told_of_kept carried

-- a Read that is not carried: the buffer stays as it was
abbrev pub IsTurnedAwayFrom : List ℕ → List ℕ → Kept → ℕ → Answer → Kept → Type 0
IsTurnedAwayFrom old buffer t code answer new = (buffer ≡ old) × IsTurnedAway t (length old) code answer new
