-- The controller fetches the entry at the head of a queue.
use Rattle.std.specs.Option.{option_and_then, option_map_or}
use Rattle.std.specs.Prelude.{◌≡◌, ◌≢◌, ℕ, ◌==◌, ◌≤◌, ◌++◌, ◌∷◌, [], Bool, true, false, Option, Some, None, Result, Ok, Err, List, find, is_some, slice_get, if◌then◌else◌}
use Rattle.admin_commands.specs.Verdicts.{is_live}
use Rattle.block_image.specs.Blocks.{block_count}
use Rattle.entry_codec.specs.declared.{status.TheConstants.Status.COMMAND_ID_CONFLICT, submission.SubEntry.SubEntry}
use Rattle.io_commands.specs.Jobs.{JobContents, io_fault, bytes_after_check, BeginsWalk, left_of_walk}
use Rattle.page_memory.specs.Memory.{Memory}
use Rattle.queue_pair.specs.{Memory.{submission_page, entry_at}, Rings.ControllerSide}
use Rattle.controller_core.specs.{Posting.{post_refusal_at, completion_by, memory_posted, page_posted, with_posted}, Contents.{Contents, change, is_command}}
use Rattle.controller_core.specs.{Managing.{with_taken, command_of, managed}, declared.{command.FetchedWork.TheVariants.Io, queue.ControllerQueue.ControllerQueue}}
use Rattle.controller_core.specs.declared.refusal.ControllerRefusal.{ControllerRefusal}
use Rattle.controller_core.specs.declared.refusal.ControllerRefusal.TheVariants as refusal

-- the rings of a queue from which entries are fetched
abbrev pub live_side : Option ControllerQueue → Option ControllerSide
live_side queue = option_and_then (λ queue. if is_live queue.state then Some queue.controller else None) queue

-- what a look at the entry at the head is refused for: none was rung, or a byte of its slot is missing
abbrev pub side_refusal : Memory → ControllerSide → Option ControllerRefusal
side_refusal m controller =
    if controller.ring.head == controller.ring.bell then Some refusal.Idle
    else option_map_or (λ e. None) (entry_at m controller.sq controller.ring.head) (Some refusal.SlotOut)

abbrev pub look_refusal : Contents → Memory → ℕ → Option ControllerRefusal
look_refusal c m q = option_map_or (side_refusal m) (live_side (slice_get c.queues q)) (Some refusal.Idle)

abbrev pub is_known : Contents → ℕ → SubEntry → Bool
is_known c q e = is_some (find (is_command q e.cid) c.commands)

-- An identifier that was fetched and not completed gets Command Identifier Conflict at once, and wants room for that.
abbrev pub entry_refusal : Contents → Memory → ℕ → SubEntry → Option ControllerRefusal
entry_refusal c m q e = if is_known c q e then post_refusal_at c.queues m q else None

-- the entry at the head of a live queue, rung or not, where no byte of its slot is missing
abbrev pub rung_entry : Contents → Memory → ℕ → Option SubEntry
rung_entry c m q = option_and_then (λ controller. entry_at m controller.sq controller.ring.head) (live_side (slice_get c.queues q))

-- what a fetch is refused for where memory is not wanted: the first that holds
abbrev pub fetch_refusal : Contents → Memory → ℕ → Option ControllerRefusal
fetch_refusal c m q =
    if is_some (look_refusal c m q) then look_refusal c m q else option_and_then (entry_refusal c m q) (rung_entry c m q)

-- An entry that was looked at: its page is touched, after those that were touched before.
pub record LooksAt (c : Contents) (m : Memory) (reached : List ℕ) (q : ℕ) (e : SubEntry) (reached' : List ℕ) : Type 0 where
  pub controller : ControllerSide
  pub here : live_side (slice_get c.queues q) ≡ Some controller
  pub rung : controller.ring.head ≢ controller.ring.bell
  pub at : entry_at m controller.sq controller.ring.head ≡ Some e
  pub touches : reached' ≡ reached ++ submission_page controller.sq controller.ring.head ∷ []

-- the job that a fetched entry of an I/O queue begins
pub record IsBegun (image : List ℕ) (e : SubEntry) (job : JobContents) : Type 0 where
  pub entry : job.entry ≡ e
  pub blocks : job.blocks ≡ block_count image
  pub verdict : job.verdict ≡ io_fault (block_count image) e
  pub bytes : job.bytes ≡ bytes_after_check image e (io_fault (block_count image) e)
  pub walk : BeginsWalk e (io_fault (block_count image) e) job.walk
  pub left : left_of_walk job.walk ≤ 12545

abbrev pub begun : ℕ → JobContents → Contents → Contents
begun q job c = record c { queues = change q with_taken c.queues; commands = c.commands ++ command_of q (Io job) ∷ [] }

-- The entry of an I/O queue is taken, and its command stands after the others.
pub record Begins (c : Contents) (q : ℕ) (e : SubEntry) (c' : Contents) : Type 0 where
  pub job : JobContents
  pub is : IsBegun c.image e job
  pub leaves : c' ≡ begun q job c

-- The entry is taken, and Command Identifier Conflict is posted for its identifier at once.
pub record PostsConflict (queues : List ControllerQueue) (q cid : ℕ) (m : Memory) (reached : List ℕ) (queues' : List ControllerQueue) (m' : Memory) (reached' : List ℕ) : Type 0 where
  pub queue : ControllerQueue
  pub here : slice_get queues q ≡ Some queue
  pub leaves : queues' ≡ change q (λ queue. with_posted (with_taken queue)) queues
  pub memory : m' ≡ memory_posted m queue.controller (completion_by q cid COMMAND_ID_CONFLICT 0 (with_taken queue).controller)
  pub touches : reached' ≡ reached ++ page_posted queue.controller ∷ []

-- An entry of queue 0 is decided at once, and one of an I/O queue begins a job.
abbrev pub TakesIn : Bool → Contents → ℕ → ℕ → SubEntry → Contents → Type 0
TakesIn true c pages q e c' = c' ≡ managed pages e c
TakesIn false c pages q e c' = Begins c q e c'

abbrev pub Takes : Bool → Contents → ℕ → ℕ → SubEntry → Memory → List ℕ → Contents → Memory → List ℕ → Type 0
Takes true c pages q e m looked c' m' reached' = PostsConflict c.queues q e.cid m looked c'.queues m' reached' × (c'.commands ≡ c.commands) × (c'.image ≡ c.image)
Takes false c pages q e m looked c' m' reached' = TakesIn (q == 0) c pages q e c' × (m' ≡ m) × (reached' ≡ looked)

-- What a fetch makes of a controller, of the memory and of the list of the pages touched, over a pool of this many pages.
pub record FetchesTo (c : Contents) (pages : ℕ) (m : Memory) (reached : List ℕ) (q cid : ℕ) (c' : Contents) (m' : Memory) (reached' : List ℕ) : Type 0 where
  pub entry : SubEntry
  pub looked : List ℕ
  pub looks : LooksAt c m reached q entry looked
  pub named : cid ≡ entry.cid
  pub room : entry_refusal c m q entry ≡ None
  pub takes : Takes (is_known c q entry) c pages q entry m looked c' m' reached'

-- What one is refused for: nothing to look at, no room for a completion at once, or else memory for the command.
pub record RefusedEntry (c : Contents) (m : Memory) (reached : List ℕ) (q : ℕ) (why : ControllerRefusal) (reached' : List ℕ) : Type 0 where
  pub entry : SubEntry
  pub looks : LooksAt c m reached q entry reached'
  pub cause : (if is_known c q entry then entry_refusal c m q entry else Some refusal.Memory) ≡ Some why

abbrev pub RefusedBy : Option ControllerRefusal → Contents → Memory → List ℕ → ℕ → ControllerRefusal → List ℕ → Type 0
RefusedBy (Some cause) c m reached q why reached' = (why ≡ cause) × (reached' ≡ reached)
RefusedBy None c m reached q why reached' = RefusedEntry c m reached q why reached'

abbrev pub Fetches : Contents → ℕ → Memory → List ℕ → ℕ → Result ℕ ControllerRefusal → Contents → Memory → List ℕ → Type 0
Fetches c pages m reached q (Ok cid) c' m' reached' = FetchesTo c pages m reached q cid c' m' reached'
Fetches c pages m reached q (Err why) c' m' reached' = RefusedBy (look_refusal c m q) c m reached q why reached' × (c' ≡ c) × (m' ≡ m)
