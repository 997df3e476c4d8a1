-- What each call answers, and what it leaves of the bench that a handle keeps.
use Rattle.std.specs.Prelude.{◌≡◌, ⊤, ◌⊎◌, ◌<◌, ◌++◌, ℕ, Result, Ok, Err, List, length, drop, take}
use Rattle.io_commands.specs.Asked.{Request}
use Rattle.machine_model.specs.Script.{finished_at}
use Rattle.nvmesgl_c.specs.{Answers.nothing, Gathering.{IsGathered, IsUngathered}, MachineAnswers.told, MachineCodes.code_of_reply, MachineKept.{Kept, code_in}, Requests.{asked_of, IsMade}}
use Rattle.nvmesgl_c.specs.declared.words.{answer.Answer.Answer, asked.CRequest.CRequest, piece.CPiece.CPiece}
use Rattle.step_core.specs.{Bench.Does, Values.{Step, Reply}}
use Rattle.nvmesgl_c.specs.Requests as requests
use Rattle.step_core.specs.declared.step.Reply.TheVariants as reply
use Rattle.step_core.specs.declared.step.Step.TheVariants as step

-- a step of the bench that a handle keeps; one that keeps none stays as it is, and has its code
abbrev pub DoesKept : Kept → Step → Result Reply ℕ → Kept → Type 0
DoesKept (Err h) what (Err code) new = (code ≡ code_in h) × (new ≡ Err h)
DoesKept (Ok t) what (Ok answer) (Ok new) = Does t what answer new
DoesKept t what answer new = ⊥

-- a call that is a step
pub record Says (t : Kept) (what : Step) (code : ℕ) (answer : Answer) (new : Kept) : Type 0 where
  pub reply : Result Reply ℕ
  pub does : DoesKept t what reply new
  pub code_is : code ≡ code_of_reply reply
  pub answer_is : answer ≡ told reply

-- a call that makes no step, for a cause; nothing changes
abbrev pub Refuses : Kept → ℕ → ℕ → Answer → Kept → Type 0
Refuses (Err h) cause code answer new = (code ≡ code_in h) × (answer ≡ nothing) × (new ≡ Err h)
Refuses (Ok t) cause code answer new = (code ≡ cause) × (answer ≡ nothing) × (new ≡ Ok t)

-- a call that is a step, or is refused memory for what the step takes along
abbrev pub SaysOrWants : Kept → Step → ℕ → Answer → Kept → Type 0
SaysOrWants t what code answer new = Says t what code answer new ⊎ Refuses t 15 code answer new

-- of more bytes than a command moves, one more than that is read
abbrev pub looked_at : List ℕ → List ℕ
looked_at bytes = take 1048577 bytes

-- a reservation of what was made of what C asks for, or its code
abbrev pub ReservesMade : Result Request ℕ → Kept → ℕ → ℕ → Answer → Kept → Type 0
ReservesMade (Err cause) t q code answer new = Refuses t cause code answer new
ReservesMade (Ok request) t q code answer new = Says t (step.Reserve q request) code answer new

-- a reservation of what C asks for
pub record Reserves (t : Kept) (q : ℕ) (asked : CRequest) (pieces : List CPiece) (code : ℕ) (answer : Answer) (new : Kept) : Type 0 where
  pub made : Result Request ℕ
  pub is_made : IsMade (asked_of asked (requests.looked_at pieces)) made
  pub goes_on : ReservesMade made t q code answer new

-- a Read's bytes at the start of a buffer, where they fit
abbrev pub Laid : Result Reply ℕ → ℕ → List ℕ → List ℕ → Type 0
Laid (Ok (reply.Gathered bytes)) code old new =
    ((length old < length bytes) × (code ≡ 5) × (new ≡ old)) ⊎ ((code ≡ 0) × (new ≡ bytes ++ drop (length bytes) old))
Laid answer code old new = (code ≡ code_of_reply answer) × (new ≡ old)

pub record Gathers (t : Kept) (q cid code : ℕ) (old buffer : List ℕ) (answer : Answer) (new : Kept) : Type 0 where
  pub reply : Result Reply ℕ
  pub does : DoesKept t (step.Gather q cid) reply new
  pub laid : Laid reply code old buffer
  pub answer_is : answer ≡ told reply

-- of a command of the bench that a handle keeps this many bytes were gathered to the start of a buffer, without a step
abbrev pub IsGatheredOf : Kept → ℕ → ℕ → ℕ → List ℕ → List ℕ → Type 0
IsGatheredOf (Err h) q cid count old buffer = ⊥
IsGatheredOf (Ok t) q cid count old buffer = IsGathered (finished_at q cid t.finished) count old buffer

-- there is no such command, or what it brought does not fit this many bytes
abbrev pub IsUngatheredOf : Kept → ℕ → ℕ → ℕ → Type 0
IsUngatheredOf (Err h) q cid room = ⊤
IsUngatheredOf (Ok t) q cid room = IsUngathered (finished_at q cid t.finished) room
