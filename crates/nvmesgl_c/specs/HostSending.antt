-- A command that is sent in one call: the calls that lead it from its reservation to its submission.
use Rattle.std.specs.Prelude.{◌≡◌, ◌⊎◌, ◌<◌, ◌≤◌, ℕ, Bool, true, false, Option, Some, None, Result, Ok, Err, List, [], ◌∷◌, length}
use Rattle.io_commands.specs.{Asked.Request, declared.request.Kind.Kind}
use Rattle.machine_model.specs.Script.{Table}
use Rattle.host_bench.specs.{Calls.Does, Values.{Call, Reply}}
use Rattle.nvmesgl_c.specs.{HostAnswers.told, HostCalls.Refuses, HostCodes.code_of_reply, HostKept.{Kept, code_in}, HostReserving.{ReservesOne, named}, Requests.{kind_of, request_of}, declared.{host.tagged.Tagged.Tagged, words.answer.Answer.Answer}}
use Rattle.host_bench.specs.declared.call.Reply.TheVariants as reply
use Rattle.host_bench.specs.declared.call.Call.TheVariants as call
use Rattle.io_commands.specs.declared.request.Kind.TheVariants as kind

abbrev pub is_accepted : Reply → Bool
is_accepted reply.Accepted = true
is_accepted r = false

-- the bytes that a command takes along
abbrev pub bytes_for : Kind → List ℕ → Option (List ℕ)
bytes_for kind.Write bytes = Some bytes
bytes_for kind.Compare bytes = Some bytes
bytes_for k bytes = None

abbrev pub submit_calls : ℕ → ℕ → List Call
submit_calls q cid = call.Build q cid ∷ call.Submit q cid ∷ []

-- a draft is filled, where there are bytes, built and submitted
abbrev pub send_calls : ℕ → ℕ → Option (List ℕ) → List Call
send_calls q cid None = submit_calls q cid
send_calls q cid (Some bytes) = call.Fill q cid bytes ∷ submit_calls q cid

-- each of these calls was accepted
abbrev pub AllAccepted : Table → List Call → Table → Type 0
AllAccepted t [] new = new ≡ t
AllAccepted t (what ∷ calls) new = (mid : Table) × Does t what reply.Accepted mid × AllAccepted mid calls new

-- the first of these calls that was not accepted has this reply, and those after it were not made
abbrev pub FirstFails : Table → List Call → Reply → Table → Type 0
FirstFails t [] why new = ⊥
FirstFails t (what ∷ calls) why new =
    (Does t what why new × (is_accepted why ≡ false))
    ⊎ ((mid : Table) × Does t what reply.Accepted mid × FirstFails mid calls why new)

-- it could not be submitted, and was cancelled
pub record GivesUp (t : Table) (q cid : ℕ) (bytes : Option (List ℕ)) (why : Reply) (new : Table) : Type 0 where
  pub stopped : Table
  pub answer : Reply
  pub fails : FirstFails t (send_calls q cid bytes) why stopped
  pub cancels : Does stopped (call.Cancel q cid) answer new

-- after a reservation: where it was refused, that is told; else the command is submitted, and the reservation is told; or it is given up, and what is told prevented
-- it
abbrev pub SendsOn : Option ℕ → Reply → Tagged → ℕ → Option (List ℕ) → Reply → Tagged → Type 0
SendsOn None reserved t q bytes tells new = (tells ≡ reserved) × (new ≡ t)
SendsOn (Some cid) reserved t q bytes tells new =
    (((tells ≡ reserved) × AllAccepted t.bench (send_calls q cid bytes) new.bench) ⊎ GivesUp t.bench q cid bytes tells new.bench) × (new.tags ≡ t.tags)

pub record SendsOne (t : Tagged) (q : ℕ) (request : Request) (bytes : Option (List ℕ)) (tag : ℕ) (tells : Reply) (new : Tagged) : Type 0 where
  pub reserved : Reply
  pub mid : Tagged
  pub reserves : ReservesOne t q request tag reserved mid
  pub goes_on : SendsOn (named reserved) reserved mid q bytes tells new

-- What C is told

-- a command of a handle that keeps a host or none
abbrev pub SendsKept : Kept → ℕ → Request → Option (List ℕ) → ℕ → Result Reply ℕ → Kept → Type 0
SendsKept (Err h) q request bytes tag (Err code) new = (code ≡ code_in h) × (new ≡ Err h)
SendsKept (Ok t) q request bytes tag (Ok tells) (Ok new) = SendsOne t q request bytes tag tells new
SendsKept t q request bytes tag tells new = ⊥

pub record SendsAll (t : Kept) (q : ℕ) (kind : Kind) (slba : ℕ) (bytes : List ℕ) (tag code : ℕ) (answer : Answer) (new : Kept) : Type 0 where
  pub reply : Result Reply ℕ
  pub few : length bytes ≤ 1048576
  pub sends : SendsKept t q (request_of kind slba (length bytes)) (bytes_for kind bytes) tag reply new
  pub code_is : code ≡ code_of_reply reply
  pub answer_is : answer ≡ told reply

-- what is not sent: more bytes than a command moves, or memory is refused for what it takes along
abbrev pub IsTurnedAway : Kept → ℕ → ℕ → Answer → Kept → Type 0
IsTurnedAway t n code answer new = ((1048576 < n) × Refuses t 43 code answer new) ⊎ ((n ≤ 1048576) × Refuses t 15 code answer new)

abbrev pub SendsKind : Option Kind → Kept → ℕ → ℕ → List ℕ → ℕ → ℕ → Answer → Kept → Type 0
SendsKind None t q slba bytes tag code answer new = Refuses t 4 code answer new
SendsKind (Some k) t q slba bytes tag code answer new = SendsAll t q k slba bytes tag code answer new ⊎ IsTurnedAway t (length bytes) code answer new

-- a command of these bytes, with this tag: a Write or a Compare takes them along, and a Read is of as many
abbrev pub Sends : Kept → ℕ → ℕ → ℕ → List ℕ → ℕ → ℕ → Answer → Kept → Type 0
Sends t q number slba bytes tag code answer new = SendsKind (kind_of number) t q slba bytes tag code answer new
