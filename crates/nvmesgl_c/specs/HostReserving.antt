-- A reservation: the command, and its tag.
use Rattle.std.specs.Prelude.{◌≡◌, ◌⊎◌, ℕ, Option, Some, None, Result, Ok, Err, List}
use Rattle.io_commands.specs.Asked.{Request}
use Rattle.machine_model.specs.Script.{Table}
use Rattle.host_bench.specs.{Calls.Does, Values.Reply}
use Rattle.nvmesgl_c.specs.{HostAnswers.told, HostCalls.Refuses, HostCodes.code_of_reply, HostKept.{Kept, code_in}, HostTags.IsTagged, AdminRequests.admin_of, Requests.{asked_of, IsMade, looked_at}}
use Rattle.nvmesgl_c.specs.declared.{host.tagged.Tagged.Tagged, words.{admin.CAdmin.CAdmin, answer.Answer.Answer, asked.CRequest.CRequest, piece.CPiece.CPiece}}
use Rattle.host_bench.specs.declared.call.Call.TheVariants as call
use Rattle.host_bench.specs.declared.call.Reply.TheVariants as reply
use Rattle.machine_model.specs.declared.words.Refusal.TheVariants as refusal

-- the identifier of a command that was reserved
abbrev pub named : Reply → Option ℕ
named (reply.Reserved q cid front back) = Some cid
named r = None

-- memory was refused for its tag, and it was cancelled
pub record LacksTag (t : Table) (q cid : ℕ) (tells : Reply) (new : Table) : Type 0 where
  pub answer : Reply
  pub memory : tells ≡ reply.Refused refusal.Memory
  pub cancels : Does t (call.Cancel q cid) answer new

-- a command that was reserved gets its tag; memory may be refused for one that is not 0
abbrev pub Tags : Option ℕ → Reply → Tagged → ℕ → ℕ → Reply → Tagged → Type 0
Tags None reserved t q tag tells new = (tells ≡ reserved) × (new ≡ t)
Tags (Some cid) reserved t q tag tells new =
    ((tells ≡ reserved) × (new.bench ≡ t.bench) × IsTagged t.tags q cid tag new.tags)
    ⊎ ((tag ≡ 0 → ⊥) × LacksTag t.bench q cid tells new.bench × (new.tags ≡ t.tags))

-- a reservation of a host: what is told is the reservation, or what prevented it
pub record ReservesOne (t : Tagged) (q : ℕ) (request : Request) (tag : ℕ) (tells : Reply) (new : Tagged) : Type 0 where
  pub reserved : Reply
  pub mid : Table
  pub reserves : Does t.bench (call.Reserve q request) reserved mid
  pub tags : Tags (named reserved) reserved (record t { bench = mid }) q tag tells new

-- What C is told

-- of a handle that keeps a host or none
abbrev pub ReservesKept : Kept → ℕ → Request → ℕ → Result Reply ℕ → Kept → Type 0
ReservesKept (Err h) q request tag (Err code) new = (code ≡ code_in h) × (new ≡ Err h)
ReservesKept (Ok t) q request tag (Ok tells) (Ok new) = ReservesOne t q request tag tells new
ReservesKept t q request tag tells new = ⊥

pub record SaysReserved (t : Kept) (q : ℕ) (request : Request) (tag code : ℕ) (answer : Answer) (new : Kept) : Type 0 where
  pub reply : Result Reply ℕ
  pub reserves : ReservesKept t q request tag reply new
  pub code_is : code ≡ code_of_reply reply
  pub answer_is : answer ≡ told reply

-- what was made of what C asks for, or its code
abbrev pub ReservesMade : Result Request ℕ → Kept → ℕ → ℕ → ℕ → Answer → Kept → Type 0
ReservesMade (Err cause) t q tag code answer new = Refuses t cause code answer new
ReservesMade (Ok request) t q tag code answer new = SaysReserved t q request tag code answer new

-- a reservation of what C asks for, which has this tag; the tag 0 is none
pub record Reserves (t : Kept) (q : ℕ) (asked : CRequest) (pieces : List CPiece) (tag code : ℕ) (answer : Answer) (new : Kept) : Type 0 where
  pub made : Result Request ℕ
  pub is_made : IsMade (asked_of asked (looked_at pieces)) made
  pub goes_on : ReservesMade made t q tag code answer new

-- a reservation of an admin command that C asks for, on queue 0
pub record ReservesAdmin (t : Kept) (asked : CAdmin) (tag code : ℕ) (answer : Answer) (new : Kept) : Type 0 where
  pub made : Result Request ℕ
  pub is_made : IsMade (admin_of asked) made
  pub goes_on : ReservesMade made t 0 tag code answer new
