-- What each call answers, and what it leaves of the host that a handle keeps.
use Rattle.std.specs.Prelude.{◌≡◌, ⊤, ◌⊎◌, ◌<◌, ◌++◌, ℕ, Result, Ok, Err, List, length, drop}
use Rattle.machine_model.specs.Script.{finished_at}
use Rattle.nvmesgl_c.specs.{Answers.nothing, Gathering.{IsGathered, IsUngathered}, HostAnswers.{bell_of, told}, HostCodes.code_of_reply, HostKept.{Kept, code_in}}
use Rattle.nvmesgl_c.specs.declared.{host.answer.CDoorbell.CDoorbell, words.answer.Answer.Answer}
use Rattle.host_bench.specs.{Calls.Does, Values.{Call, Reply}}
use Rattle.host_bench.specs.declared.call.Reply.TheVariants as reply
use Rattle.host_bench.specs.declared.call.Call.TheVariants as call

-- a call of the host that a handle keeps; one that keeps none stays as it is, and has its code
abbrev pub DoesKept : Kept → Call → Result Reply ℕ → Kept → Type 0
DoesKept (Err h) what (Err code) new = (code ≡ code_in h) × (new ≡ Err h)
DoesKept (Ok t) what (Ok answer) (Ok new) = Does t.bench what answer new.bench × (new.tags ≡ t.tags)
DoesKept t what answer new = ⊥

-- a call of the host, whose reply is told
pub record Says (t : Kept) (what : Call) (code : ℕ) (answer : Answer) (new : Kept) : Type 0 where
  pub reply : Result Reply ℕ
  pub does : DoesKept t what reply new
  pub code_is : code ≡ code_of_reply reply
  pub answer_is : answer ≡ told reply

-- the same, where a value for a doorbell is told too
pub record SaysBell (t : Kept) (what : Call) (code : ℕ) (bell : CDoorbell) (answer : Answer) (new : Kept) : Type 0 where
  pub reply : Result Reply ℕ
  pub does : DoesKept t what reply new
  pub code_is : code ≡ code_of_reply reply
  pub bell_is : bell ≡ bell_of reply
  pub answer_is : answer ≡ told reply

-- no call of the host, for a cause; nothing changes
abbrev pub Refuses : Kept → ℕ → ℕ → Answer → Kept → Type 0
Refuses (Err h) cause code answer new = (code ≡ code_in h) × (answer ≡ nothing) × (new ≡ Err h)
Refuses (Ok t) cause code answer new = (code ≡ cause) × (answer ≡ nothing) × (new ≡ Ok t)

-- a Read's bytes at the start of a buffer, where they fit
abbrev pub Laid : Result Reply ℕ → ℕ → List ℕ → List ℕ → Type 0
Laid (Ok (reply.Gathered bytes)) code old new =
    ((length old < length bytes) × (code ≡ 5) × (new ≡ old)) ⊎ ((code ≡ 0) × (new ≡ bytes ++ drop (length bytes) old))
Laid answer code old new = (code ≡ code_of_reply answer) × (new ≡ old)

pub record Gathers (t : Kept) (q cid code : ℕ) (old buffer : List ℕ) (answer : Answer) (new : Kept) : Type 0 where
  pub reply : Result Reply ℕ
  pub does : DoesKept t (call.Gather q cid) reply new
  pub laid : Laid reply code old buffer
  pub answer_is : answer ≡ told reply

-- of a command of the host that a handle keeps this many bytes were gathered to the start of a buffer, without a call
abbrev pub IsGatheredOf : Kept → ℕ → ℕ → ℕ → List ℕ → List ℕ → Type 0
IsGatheredOf (Err h) q cid count old buffer = ⊥
IsGatheredOf (Ok t) q cid count old buffer = IsGathered (finished_at q cid t.bench.finished) count old buffer

-- there is no such command, or what it brought does not fit this many bytes
abbrev pub IsUngatheredOf : Kept → ℕ → ℕ → ℕ → Type 0
IsUngatheredOf (Err h) q cid room = ⊤
IsUngatheredOf (Ok t) q cid room = IsUngathered (finished_at q cid t.bench.finished) room
