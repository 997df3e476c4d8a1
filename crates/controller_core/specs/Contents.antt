-- What a controller keeps, and what always holds of it.
use Rattle.std.specs.{List.{AllByRecursion, count_by}, Option.option_map}
use Rattle.std.specs.Prelude.{◌≡◌, ℕ, ◌+◌, ◌<◌, ◌≤◌, ◌==◌, ◌&&◌, Bool, true, false, Option, Some, IfSome, List, find, length}
use Rattle.admin_commands.specs.Entries.{named_queue, named_command}
use Rattle.block_image.specs.Blocks.{block_count}
use Rattle.entry_codec.specs.declared.{status.Status.Status, submission.SubEntry.SubEntry}
use Rattle.io_commands.specs.Jobs.{JobContents, left_of_walk}
use Rattle.controller_core.specs.declared.{command.FetchedWork.TheVariants.{Io, Admin}, queue.ControllerQueue.ControllerQueue}
pub use Rattle.io_commands.specs.Ends.{FitsVerdict, is_deletion}
pub use Rattle.queue_pair.specs.Members.{change}
use Rattle.controller_core.specs.declared.command.FetchedCommand as command
use Rattle.controller_core.specs.declared.command.FetchedWork as work

-- a fetched command as contracts see it: they say nothing of where its bytes are kept
abbrev pub FetchedWork : Type 0
FetchedWork = work.FetchedWork JobContents

abbrev pub FetchedCommand : Type 0
FetchedCommand = command.FetchedCommand JobContents

-- the queues by their numbers, the commands that were fetched and not completed, in the order of the fetches, and the image
pub record Contents : Type 0 where
  pub queues : List ControllerQueue
  pub commands : List FetchedCommand
  pub image : List ℕ

abbrev pub contents : List ControllerQueue → List FetchedCommand → List ℕ → Contents
contents queues commands image = record { queues = queues; commands = commands; image = image }

abbrev pub entry_of_work : FetchedWork → SubEntry
entry_of_work (Io job) = job.entry
entry_of_work (Admin entry status dw0) = entry

-- how a command ends, once that is known; an admin command's end is known from its fetch on
abbrev pub verdict_of_work : FetchedWork → Option Status
verdict_of_work (Io job) = job.verdict
verdict_of_work (Admin entry status dw0) = Some status

abbrev pub dw0_of_work : FetchedWork → ℕ
dw0_of_work (Io job) = 0
dw0_of_work (Admin entry status dw0) = dw0

-- the command of an identifier of a queue
abbrev pub is_command : ℕ → ℕ → FetchedCommand → Bool
is_command q cid k = (k.q == q) && ((entry_of_work k.work).cid == cid)

-- A command of an I/O queue was checked over an image of this many blocks, and its walk ends after 12,545 units at most. All others are of
-- queue 0, and only I/O queues are deleted. A completion can carry the status of each.
abbrev pub FitsWork : ℕ → ℕ → ℕ → FetchedWork → Type 0
FitsWork blocks q done (Io job) = ((q == 0) ≡ false) × (job.blocks ≡ blocks) × FitsVerdict job.verdict × (done + left_of_walk job.walk ≤ 12545)
FitsWork blocks q done (Admin entry status dw0) = (q ≡ 0) × (status.sct < 8) × (is_deletion entry status ≡ true → (named_queue entry == 0) ≡ false)

abbrev pub FitsCommand : ℕ → ℕ → FetchedCommand → Type 0
FitsCommand blocks queues k = (k.q < queues) × FitsWork blocks k.q k.units_done k.work

-- Each command is of a queue number that the controller has, and fits that queue and the blocks of the image; no two commands of a queue have
-- the same identifier.
pub record AreCommands (blocks queues : ℕ) (commands : List FetchedCommand) : Type 0 where
  pub each : AllByRecursion (FitsCommand blocks queues) commands
  pub differ : (q cid : ℕ) → count_by (is_command q cid) commands < 2

-- the entry of the command of an identifier of a queue
abbrev pub entry_of : List FetchedCommand → ℕ → ℕ → Option SubEntry
entry_of commands q cid = option_map (λ k. entry_of_work k.work) (find (is_command q cid) commands)

-- A command of queue 0 has this identifier, and its entry names the command.
pub record IsNamedBy (commands : List FetchedCommand) (k : FetchedCommand) (abort : ℕ) : Type 0 where
  pub entry : SubEntry
  pub there : entry_of commands 0 abort ≡ Some entry
  pub names : is_command (named_queue entry) (named_command entry) k ≡ true

-- Where a command is awaited for an Abort, queue 0 has a command of that identifier, and its entry names the one that is awaited.
abbrev pub AreAwaited : List FetchedCommand → Type 0
AreAwaited commands = AllByRecursion (λ k. IfSome k.waiting_abort (IsNamedBy commands k)) commands

-- what always holds of a controller; that the positions in its rings are slots holds of each side of a pair
pub record IsController (c : Contents) : Type 0 where
  pub commands : AreCommands (block_count c.image) (length c.queues) c.commands
  pub awaited : AreAwaited c.commands
