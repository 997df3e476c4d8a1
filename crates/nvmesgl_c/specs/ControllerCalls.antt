-- What each call answers, and what it leaves of the controller that a handle keeps and of the pool that it is lent.
use Rattle.std.specs.Option.{option_map_or}
use Rattle.std.specs.Prelude.{◌≡◌, ◌⊎◌, ◌/◌, ◌<◌, ◌≤◌, ◌==◌, ℕ, nat_lt, Option, Some, None, Result, Ok, Err, List, [], length, slice_get, if◌then◌else◌}
use Rattle.std.specs.Result.{result_err}
use Rattle.nvmesgl_c.specs.{Answers.{nothing, touching, walked}, ControllerKept.{Kept, code_in}, ControllerCodes.code_of_refusal, declared.words.answer.Answer.Answer}
use Rattle.controller_core.specs.{Completing.{complete_refusal, CompletesTo}, Contents.Contents, Doorbells.{tail_rung, head_rung}, Fetching.Fetches}
use Rattle.controller_core.specs.{Resetting.reset, Walking.{walk_refusal, WalksTo}, declared.{queue.ControllerQueue.ControllerQueue, refusal.ControllerRefusal.ControllerRefusal}}
use Rattle.controller_walk.specs.declared.walk.WalkState.{WalkState}
use Rattle.page_memory.specs.Memory.{Memory}
use Rattle.queue_pair.specs.Slots.{is_in_range}

-- The doorbells

-- whether the queue is there, and the tail one of its slots
abbrev pub tail_code : List ControllerQueue → ℕ → ℕ → ℕ
tail_code queues q v = option_map_or (λ queue. if nat_lt v queue.controller.entries then 0 else 50) (slice_get queues q) 10

-- whether the queue is there, and the head lies from the one that was taken last to the tail
abbrev pub head_code : List ControllerQueue → ℕ → ℕ → ℕ
head_code queues q v =
    option_map_or (λ queue. if is_in_range queue.controller.entries queue.controller.ring.known_head queue.controller.ring.tail v then 0 else 50) (slice_get queues q) 10

-- a value that has code 0 is taken, and another one changes nothing
abbrev pub RingsTail : Kept → ℕ → ℕ → ℕ → Kept → Type 0
RingsTail (Err h) q v code new = (code ≡ code_in h) × (new ≡ Err h)
RingsTail (Ok c) q v code new = (code ≡ tail_code c.queues q v) × (new ≡ Ok (if code == 0 then tail_rung q v c else c))

abbrev pub RingsHead : Kept → ℕ → ℕ → ℕ → Kept → Type 0
RingsHead (Err h) q v code new = (code ≡ code_in h) × (new ≡ Err h)
RingsHead (Ok c) q v code new = (code ≡ head_code c.queues q v) × (new ≡ Ok (if code == 0 then head_rung q v c else c))

-- A reset

abbrev pub Resets : Kept → ℕ → Kept → Type 0
Resets (Err h) code new = (code ≡ code_in h) × (new ≡ Err h)
Resets (Ok c) code new = (code ≡ 0) × (new ≡ Ok (reset c))

-- The calls over a pool

-- a fetch over a memory with this many pages: its result is told, with the pages that it touched
abbrev pub TellsFetch : Result ℕ ControllerRefusal → List ℕ → ℕ → Answer → Type 0
TellsFetch (Ok cid) touched code answer = (code ≡ 0) × (answer ≡ record (touching touched) { cid = cid })
TellsFetch (Err why) touched code answer = (code ≡ code_of_refusal why) × (answer ≡ touching touched)

pub record FetchesBy (q : ℕ) (c : Contents) (pages : ℕ) (m : Memory) (code : ℕ) (answer : Answer) (c' : Contents) (m' : Memory) : Type 0 where
  pub result : Result ℕ ControllerRefusal
  pub touched : List ℕ
  pub fetches : Fetches c pages m [] q result c' m' touched
  pub tells : TellsFetch result touched code answer

-- a unit of a command's list: how the list stands is told
abbrev pub TellsWalk : Result WalkState ControllerRefusal → List ℕ → ℕ → Answer → Type 0
TellsWalk (Ok state) touched code answer = (code ≡ 0) × (answer ≡ walked state touched)
TellsWalk (Err why) touched code answer = (code ≡ code_of_refusal why) × (answer ≡ touching touched)

abbrev pub Walks : Contents → ℕ → ℕ → Memory → Result WalkState ControllerRefusal → Contents → Memory → List ℕ → Type 0
Walks c q cid m (Ok state) c' m' touched = WalksTo c q cid m [] state c' m' touched
Walks c q cid m (Err why) c' m' touched = (c' ≡ c) × (m' ≡ m) × (touched ≡ [])

pub record WalksBy (q cid : ℕ) (c : Contents) (pages : ℕ) (m : Memory) (code : ℕ) (answer : Answer) (c' : Contents) (m' : Memory) : Type 0 where
  pub result : Result WalkState ControllerRefusal
  pub touched : List ℕ
  pub refusal : result_err result ≡ walk_refusal c q cid
  pub walks : Walks c q cid m result c' m' touched
  pub tells : TellsWalk result touched code answer

-- a completion: the page that was touched is told
abbrev pub code_of_end : Option ControllerRefusal → ℕ
code_of_end None = 0
code_of_end (Some why) = code_of_refusal why

abbrev pub Completes : Contents → ℕ → ℕ → Memory → Option ControllerRefusal → Contents → Memory → List ℕ → Type 0
Completes c q cid m None c' m' touched = CompletesTo c q cid m [] c' m' touched
Completes c q cid m (Some why) c' m' touched = (c' ≡ c) × (m' ≡ m) × (touched ≡ [])

pub record CompletesBy (q cid : ℕ) (c : Contents) (pages : ℕ) (m : Memory) (code : ℕ) (answer : Answer) (c' : Contents) (m' : Memory) : Type 0 where
  pub touched : List ℕ
  pub completes : Completes c q cid m (complete_refusal c m q cid) c' m' touched
  pub code_is : code ≡ code_of_end (complete_refusal c m q cid)
  pub answer_is : answer ≡ touching touched

-- no call is made, with its cause: no controller is kept, or the pool has more than 65,536 pages
abbrev pub LendsNone : Kept → ℕ → ℕ → Kept → Type 0
LendsNone (Err h) bytes code new = (code ≡ code_in h) × (new ≡ Err h)
LendsNone (Ok c) bytes code new = (268435456 < bytes) × (code ≡ 51) × (new ≡ Ok c)

-- a call that is lent a pool: it is made over the bytes of the pool, or it is not made, and nothing changes
abbrev pub IsCalled : (Contents → ℕ → Memory → ℕ → Answer → Contents → Memory → Type 0) → Kept → List ℕ → ℕ → Answer → Kept → List ℕ → Type 0
IsCalled Calls (Ok c) pool code answer (Ok c') pool' =
    (length pool ≤ 268435456) × Calls c (length pool / 4096) (slice_get pool) code answer c' (slice_get pool')
IsCalled Calls c pool code answer c' pool' = ⊥

abbrev pub Lent : (Contents → ℕ → Memory → ℕ → Answer → Contents → Memory → Type 0) → Kept → List ℕ → ℕ → Answer → Kept → List ℕ → Type 0
Lent Calls c pool code answer c' pool' =
    IsCalled Calls c pool code answer c' pool' ⊎ (LendsNone c (length pool) code c' × (answer ≡ nothing) × (pool' ≡ pool))
