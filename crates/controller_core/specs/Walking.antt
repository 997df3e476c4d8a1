-- What the step of a command's walk does.
use Rattle.std.specs.{Option.option_map_or, Prelude.{◌≡◌, ℕ, ◌+◌, ◌<◌, Option, Some, None, List, find, is_some, slice_get, slice_set, if◌then◌else◌}}
use Rattle.controller_walk.specs.{Walks.{DoesFirst, LeavesRest}, declared.walk.WalkState.WalkState}
use Rattle.io_commands.specs.Jobs.{JobContents, job_course, direction_of_entry, left_of_walk, verdict_of}
use Rattle.page_memory.specs.Memory.{Memory}
use Rattle.controller_core.specs.{Contents.{Contents, FetchedCommand, verdict_of_work, is_command}, declared.command.FetchedWork.TheVariants.Io}
use Rattle.controller_core.specs.declared.refusal.ControllerRefusal.{ControllerRefusal}
use Rattle.controller_core.specs.declared.refusal.ControllerRefusal.TheVariants as refusal

-- what a walk is refused for: there is no such command, or it has its verdict
abbrev pub ended_refusal : FetchedCommand → Option ControllerRefusal
ended_refusal k = if is_some (verdict_of_work k.work) then Some refusal.Nothing else None

abbrev pub refusal_among : List FetchedCommand → ℕ → ℕ → Option ControllerRefusal
refusal_among commands q cid = option_map_or ended_refusal (find (is_command q cid) commands) (Some refusal.NoJob)

abbrev pub walk_refusal : Contents → ℕ → ℕ → Option ControllerRefusal
walk_refusal c q cid = refusal_among c.commands q cid

-- Of what the list still has to do in this memory, the first unit is done, and the rest is left: what is left of the job and of the
-- memory, what is answered, and which pages are touched after those that were touched before.
pub record DoesUnit (m : Memory) (reached : List ℕ) (job : JobContents) (outcome : WalkState) (job' : JobContents) (m' : Memory) (reached' : List ℕ) : Type 0 where
  pub does : DoesFirst (job_course m job) (direction_of_entry job.entry) m m' job.bytes job'.bytes reached reached'
  pub leaves : LeavesRest (job_course m job) outcome (job_course m job')
  pub verdict : job'.verdict ≡ verdict_of outcome
  pub entry : job'.entry ≡ job.entry
  pub blocks : job'.blocks ≡ job.blocks
  pub fewer : left_of_walk job'.walk < left_of_walk job.walk

-- a command one unit further
abbrev pub stepped : JobContents → FetchedCommand → FetchedCommand
stepped job k = record k { units_done = k.units_done + 1; work = Io job }

-- So it is with the job of a command.
pub record WalksOne (command : FetchedCommand) (m : Memory) (reached : List ℕ) (outcome : WalkState) (command' : FetchedCommand) (m' : Memory) (reached' : List ℕ) : Type 0 where
  pub job : JobContents
  pub job' : JobContents
  pub work : command.work ≡ Io job
  pub going : job.verdict ≡ None
  pub unit : DoesUnit m reached job outcome job' m' reached'
  pub leaves : command' ≡ stepped job' command

-- So it is with the job of the command of this name; all other commands stay.
pub record WalksAmong (commands : List FetchedCommand) (q cid : ℕ) (m : Memory) (reached : List ℕ) (outcome : WalkState) (commands' : List FetchedCommand) (m' : Memory) (reached' : List ℕ) : Type 0 where
  pub place : ℕ
  pub command : FetchedCommand
  pub job : JobContents
  pub job' : JobContents
  pub found : find (is_command q cid) commands ≡ Some command
  pub at : slice_get commands place ≡ Some command
  pub work : command.work ≡ Io job
  pub going : job.verdict ≡ None
  pub unit : DoesUnit m reached job outcome job' m' reached'
  pub leaves : commands' ≡ slice_set commands place (stepped job' command)

-- and the queues and the image stay
pub record WalksTo (c : Contents) (q cid : ℕ) (m : Memory) (reached : List ℕ) (outcome : WalkState) (c' : Contents) (m' : Memory) (reached' : List ℕ) : Type 0 where
  pub among : WalksAmong c.commands q cid m reached outcome c'.commands m' reached'
  pub queues : c'.queues ≡ c.queues
  pub image : c'.image ≡ c.image
