-- What each call answers that is lent blocks, and what it leaves of the controller that a handle keeps, of the regions and of the blocks.
use Rattle.std.specs.Option.{option_map_or}
use Rattle.std.specs.Prelude.{◌≡◌, ◌⊎◌, ◌==◌, ◌<◌, ◌*◌, ⊤, ℕ, nat_lt, Option, Some, None, Result, Ok, Err, List, [], find, length, map, replicate, if◌then◌else◌}
use Rattle.block_image.specs.Blocks.{IsPart, block_count, is_lent, shown}
use Rattle.controller_core.specs.{Completing.CompletesTo, Contents.{Contents, FetchedCommand, FetchedWork, entry_of_work, is_command}, Lending.{FetchesLent, fetch_lacked, lacked, lent_refusal, with_image}, Opening.opened}
use Rattle.controller_core.specs.declared.command.FetchedWork.TheVariants.{Io, Admin}
use Rattle.controller_core.specs.declared.lending.LentRefusal.{LentRefusal, TheVariants.{Refused, NotLent}}
use Rattle.page_memory.specs.Memory.{Memory}
use Rattle.nvmesgl_c.specs.{Answers.{nothing, touching}, Buffers.LaidIn, ControllerCodes.code_of_refusal, ControllerKept.{Kept, cause_in, code_in}, ControllerOptions.{fault_of, pages_of_queue}, NotOpening.code_of_not_opened}
use Rattle.nvmesgl_c.specs.declared.{controller.{lent_over.CWanted.CWanted, options.{CQueue.CQueue, Options.Options}}, words.{answer.Answer.Answer, not_opened.NotOpened.NotOpened}}
use Rattle.nvmesgl_c.specs.declared.words.not_opened.NotOpened.TheVariants as not_opened

-- An opening

-- when no controller is opened whose blocks are lent: the first cause that holds; memory is refused only where there is no other
abbrev pub IsWhyLent : Options → ℕ → NotOpened → Type 0
IsWhyLent o queues not_opened.BadImage = (fault_of o queues ≡ None) × (o.blocks ≡ 0)
IsWhyLent o queues not_opened.Memory = (fault_of o queues ≡ None) × (0 < o.blocks)
IsWhyLent o queues why = fault_of o queues ≡ Some why

-- what an opening makes: no byte of the namespace is kept, and each counts as zero
pub record IsOpenedLent (o : Options) (queues : List CQueue) (new : Contents) : Type 0 where
  pub form : fault_of o (length queues) ≡ None
  pub some : 0 < o.blocks
  pub opened : new ≡ opened o.entries (map pages_of_queue queues) (replicate (512 * o.blocks) 0)

abbrev pub OpensLentBy : Option ℕ → Kept → Options → List CQueue → ℕ → Kept → Type 0
OpensLentBy (Some cause) t o queues code new = (code ≡ cause) × (new ≡ t)
OpensLentBy None t o queues code (Ok new) = (code ≡ 0) × IsOpenedLent o queues new
OpensLentBy None t o queues code (Err h) = (why : NotOpened) × IsWhyLent o (length queues) why × (code ≡ code_of_not_opened why) × (t ≡ Err h)

-- a handle that is open, or is not of this kind, stays as it is; one that is closed opens, or stays closed for a cause that is told
abbrev pub OpensLent : Kept → Options → List CQueue → ℕ → Kept → Type 0
OpensLent t o queues code new = OpensLentBy (cause_in t) t o queues code new

-- What is wanted

-- these blocks are wanted, by a command of this opcode
abbrev pub wanting : ℕ → ℕ → ℕ → CWanted
wanting opcode slba blocks = record { slba = slba; blocks = blocks; opcode = opcode; reserved = replicate 19 0 }

-- nothing is told of them but where blocks are wanted that are not lent
abbrev pub wanted_by : ℕ → Option LentRefusal → CWanted → CWanted
wanted_by opcode None old = old
wanted_by opcode (Some (Refused why)) old = old
wanted_by opcode (Some (NotLent slba blocks)) old = wanting opcode slba blocks

abbrev pub code_of_lent : LentRefusal → ℕ
code_of_lent (Refused why) = code_of_refusal why
code_of_lent (NotLent slba blocks) = 58

abbrev pub code_of_lent_end : Option LentRefusal → ℕ
code_of_lent_end None = 0
code_of_lent_end (Some why) = code_of_lent why

-- The blocks

-- what can be lent to a controller, from a first block on: whole blocks, inside its namespace
abbrev pub CanLend : Contents → ℕ → List ℕ → Type 0
CanLend c first lent = IsPart (block_count c.image) first lent

-- the controller over its namespace, of which these blocks are lent: zeros in place of the others
abbrev pub over : Contents → ℕ → List ℕ → Contents
over c first lent = with_image c (shown (block_count c.image) first lent)

-- A fetch: only a Read wants blocks, whose opcode is 2

abbrev pub TellsLentFetch : Result ℕ LentRefusal → List ℕ → CWanted → ℕ → CWanted → Answer → Type 0
TellsLentFetch (Ok cid) touched old code new answer = (code ≡ 0) × (new ≡ old) × (answer ≡ record (touching touched) { cid = cid })
TellsLentFetch (Err why) touched old code new answer = (code ≡ code_of_lent why) × (new ≡ wanted_by 2 (Some why) old) × (answer ≡ touching touched)

pub record FetchesLentBy (q first : ℕ) (lent : List ℕ) (old new : CWanted) (c : Contents) (pages : ℕ) (m : Memory) (code : ℕ) (answer : Answer) (c' : Contents) (m' : Memory) : Type 0 where
  pub result : Result ℕ LentRefusal
  pub touched : List ℕ
  pub fetches : FetchesLent (over c first lent) pages m [] q result (over c' first lent) m' touched
  pub lacks : lacked result ≡ fetch_lacked (is_lent first lent) c m q
  pub image : c'.image ≡ c.image
  pub tells : TellsLentFetch result touched old code new answer

-- a buffer that cannot be lent: nothing changes
abbrev pub LendsNoBlocks : ℕ → List ℕ → List ℕ → CWanted → CWanted → Contents → Memory → ℕ → Answer → Contents → Memory → Type 0
LendsNoBlocks first lent lent' old new c m code answer c' m' =
    (CanLend c first lent → ⊥) × (code ≡ 52) × (answer ≡ nothing) × (new ≡ old) × (lent' ≡ lent) × (c' ≡ c) × (m' ≡ m)

abbrev pub FetchesBlocks : ℕ → ℕ → List ℕ → List ℕ → CWanted → CWanted → Contents → ℕ → Memory → ℕ → Answer → Contents → Memory → Type 0
FetchesBlocks q first lent lent' old new c pages m code answer c' m' =
    (CanLend c first lent × FetchesLentBy q first lent old new c pages m code answer c' m' × (lent' ≡ lent))
    ⊎ LendsNoBlocks first lent lent' old new c m code answer c' m'

-- A completion

-- the opcode of a command
abbrev pub opcode_in : Contents → ℕ → ℕ → ℕ
opcode_in c q cid = option_map_or (λ k. (entry_of_work k.work).opcode) (find (is_command q cid) c.commands) 0

abbrev pub CompletesLent : Option LentRefusal → Contents → ℕ → ℕ → ℕ → List ℕ → List ℕ → Memory → Contents → Memory → List ℕ → Type 0
CompletesLent None c q cid first lent lent' m c' m' touched =
    CompletesTo (over c first lent) q cid m [] (over c' first lent') m' touched × (c'.image ≡ c.image) × (length lent' ≡ length lent)
CompletesLent (Some why) c q cid first lent lent' m c' m' touched = (c' ≡ c) × (lent' ≡ lent) × (m' ≡ m) × (touched ≡ [])

pub record CompletesLentBy (q cid first : ℕ) (lent lent' : List ℕ) (old new : CWanted) (c : Contents) (pages : ℕ) (m : Memory) (code : ℕ) (answer : Answer) (c' : Contents) (m' : Memory) : Type 0 where
  pub touched : List ℕ
  pub completes : CompletesLent (lent_refusal (is_lent first lent) c m q cid) c q cid first lent lent' m c' m' touched
  pub code_is : code ≡ code_of_lent_end (lent_refusal (is_lent first lent) c m q cid)
  pub wanted_is : new ≡ wanted_by (opcode_in c q cid) (lent_refusal (is_lent first lent) c m q cid) old
  pub answer_is : answer ≡ touching touched

abbrev pub CompletesBlocks : ℕ → ℕ → ℕ → List ℕ → List ℕ → CWanted → CWanted → Contents → ℕ → Memory → ℕ → Answer → Contents → Memory → Type 0
CompletesBlocks q cid first lent lent' old new c pages m code answer c' m' =
    (CanLend c first lent × CompletesLentBy q cid first lent lent' old new c pages m code answer c' m')
    ⊎ LendsNoBlocks first lent lent' old new c m code answer c' m'

-- where no controller is kept that the call takes, the blocks and what is wanted stay too
abbrev pub StaysUnlent : Kept → List ℕ → List ℕ → CWanted → CWanted → Type 0
StaysUnlent (Err h) lent lent' old new = (lent' ≡ lent) × (new ≡ old)
StaysUnlent (Ok c) lent lent' old new = ⊤

-- The bytes of a command

-- those of a Read's blocks, and what a Write or a Compare fetched; an admin command has none
abbrev pub bytes_of_work : FetchedWork → List ℕ
bytes_of_work (Io job) = job.bytes
bytes_of_work (Admin entry status dw0) = []

pub record LaysBytes (bytes old : List ℕ) (code : ℕ) (new : List ℕ) (answer : Answer) : Type 0 where
  pub told : answer ≡ record nothing { bytes = length bytes }
  pub code_is : code ≡ (if nat_lt (length old) (length bytes) then 5 else 0)
  pub laid : LaidIn bytes (code == 0) old new

abbrev pub ShowsBytes : Option FetchedCommand → List ℕ → ℕ → List ℕ → Answer → Type 0
ShowsBytes None old code new answer = (code ≡ 31) × (new ≡ old) × (answer ≡ nothing)
ShowsBytes (Some k) old code new answer = LaysBytes (bytes_of_work k.work) old code new answer

abbrev pub TellsBytes : Kept → ℕ → ℕ → List ℕ → ℕ → List ℕ → Answer → Kept → Type 0
TellsBytes (Err h) q cid old code new answer left = (code ≡ code_in h) × (new ≡ old) × (answer ≡ nothing) × (left ≡ Err h)
TellsBytes (Ok c) q cid old code new answer left = ShowsBytes (find (is_command q cid) c.commands) old code new answer × (left ≡ Ok c)
