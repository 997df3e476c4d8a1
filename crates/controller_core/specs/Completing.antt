-- A fetched command ends, and its completion is posted.
use Rattle.std.specs.{List.list_any, Option.option_map_or}
use Rattle.std.specs.Prelude.{◌≡◌, ℕ, ◌==◌, ◌&&◌, ◌||◌, ◌++◌, Bool, false, not, Option, Some, None, List, [], ◌∷◌, filter, find, length, is_none, slice_get, if◌then◌else◌}
use Rattle.admin_commands.specs.{Entries.named_queue, declared.SqState.TheVariants.Absent}
use Rattle.entry_codec.specs.{Completion.IsComEntry, Status.is_success, declared.{admin_opcode.TheConstants.DELETE_IO_SQ, status.Status.Status}}
use Rattle.io_commands.specs.Jobs.{finished_status, finished_image}
use Rattle.page_memory.specs.Memory.{Memory}
use Rattle.controller_core.specs.Posting.{post_refusal_at, completion_by, memory_posted, page_posted, with_posted}
use Rattle.controller_core.specs.Contents.{Contents, FetchedCommand, FetchedWork, change, entry_of_work, verdict_of_work, dw0_of_work, is_command, is_deletion}
use Rattle.controller_core.specs.declared.{command.FetchedWork.TheVariants.{Io, Admin}, queue.ControllerQueue.ControllerQueue, refusal.ControllerRefusal.ControllerRefusal}
use Rattle.controller_core.specs.declared.refusal.ControllerRefusal.TheVariants as refusal

-- whether the identifier of an Abort is that for which a command's completion is awaited
abbrev pub is_abort_of : ℕ → Option ℕ → Bool
is_abort_of cid None = false
is_abort_of cid (Some abort) = abort == cid

-- what a command waits for: an Abort for the command that it stopped, a successful deletion for the queue's commands
abbrev pub has_success : FetchedWork → Bool
has_success work = option_map_or is_success (verdict_of_work work) false

abbrev pub waits_among : List FetchedCommand → FetchedCommand → Bool
waits_among commands k =
    (k.q == 0)
    && (list_any (λ other. is_abort_of (entry_of_work k.work).cid other.waiting_abort) commands
    || (((entry_of_work k.work).opcode == DELETE_IO_SQ) && has_success k.work
    && list_any (λ other. other.q == named_queue (entry_of_work k.work)) commands))

abbrev pub command_refusal : Contents → Memory → ℕ → FetchedCommand → Option ControllerRefusal
command_refusal c m q k =
    if is_none (verdict_of_work k.work) then Some refusal.Walking
    else if waits_among c.commands k then Some refusal.Waits
    else post_refusal_at c.queues m q

-- what a completion is refused for, the first that holds
abbrev pub complete_refusal : Contents → Memory → ℕ → ℕ → Option ControllerRefusal
complete_refusal c m q cid = option_map_or (command_refusal c m q) (find (is_command q cid) c.commands) (Some refusal.NoJob)

-- a command of an I/O queue was checked over an image of this many blocks
abbrev pub CanEnd : ℕ → FetchedWork → Type 0
CanEnd blocks (Io job) = job.blocks ≡ blocks
CanEnd blocks (Admin entry status dw0) = Unit {0}

-- how a command ends over an image, and the image and the queues that it leaves
abbrev pub status_of_end : List ℕ → FetchedWork → Status
status_of_end image (Io job) = finished_status image job
status_of_end image (Admin entry status dw0) = status

abbrev pub image_of_end : List ℕ → FetchedWork → List ℕ
image_of_end image (Io job) = finished_image image job
image_of_end image (Admin entry status dw0) = image

-- after a successful deletion the submission queue is not there
abbrev pub without_submission : ControllerQueue → ControllerQueue
without_submission queue = record queue { state = Absent }

abbrev pub queues_of_end : FetchedWork → List ControllerQueue → List ControllerQueue
queues_of_end (Io job) queues = queues
queues_of_end (Admin entry status dw0) queues =
    if is_deletion entry status then change (named_queue entry) without_submission queues else queues

abbrev pub without_command : ℕ → ℕ → List FetchedCommand → List FetchedCommand
without_command q cid commands = filter (λ k. not (is_command q cid k)) commands

-- the controller after the completion of a command
abbrev pub completed : ℕ → ℕ → FetchedWork → Contents → Contents
completed q cid work c =
    record {
      queues = change q with_posted (queues_of_end work c.queues);
      commands = without_command q cid c.commands;
      image = image_of_end c.image work;
    }

-- What the completion of a command leaves of the controller and of the memory, with the page that it touches after those that were
-- touched before. The completion's numbers are those of a value of its type, so its bytes tell it.
pub record CompletesTo (c : Contents) (q cid : ℕ) (m : Memory) (reached : List ℕ) (c' : Contents) (m' : Memory) (reached' : List ℕ) : Type 0 where
  pub command : FetchedCommand
  pub queue : ControllerQueue
  pub found : find (is_command q cid) c.commands ≡ Some command
  pub here : slice_get c.queues q ≡ Some queue
  pub leaves : c' ≡ completed q cid command.work c
  pub as_long : length c'.image ≡ length c.image
  pub typed : IsComEntry (completion_by q cid (status_of_end c.image command.work) (dw0_of_work command.work) queue.controller)
  pub memory : m' ≡ memory_posted m queue.controller (completion_by q cid (status_of_end c.image command.work) (dw0_of_work command.work) queue.controller)
  pub touches : reached' ≡ reached ++ page_posted queue.controller ∷ []
