-- What an entry of queue 0 does as it is fetched.
use Rattle.std.specs.Option.{option_map_or}
use Rattle.std.specs.Prelude.{ℕ, ◌-◌, ◌*◌, ◌^◌, ◌<◌, ◌/◌, ◌==◌, true, false, Some, None, List, [], ◌∷◌, ◌++◌, find, length, is_none, slice_get, map, if◌then◌else◌}
use Rattle.admin_commands.specs.{Entries.{named_queue, named_command}, Verdicts.decision, declared.AdminVerdict.AdminVerdict}
use Rattle.admin_commands.specs.declared.AdminVerdict.TheVariants.{Answer, AbortJob, StopQueue, DropCompletion, MakeCompletion, MakeSubmission}
use Rattle.admin_commands.specs.declared.{DeviceView.DeviceView, SqState.TheVariants.{Absent, Live, Stopping}}
use Rattle.entry_codec.specs.declared.status.{Status.Status, TheConstants.Status.{SUCCESS, ABORT_REQUESTED, ABORTED_SQ_DELETION}}
use Rattle.entry_codec.specs.declared.submission.SubEntry.{SubEntry}
use Rattle.queue_pair.specs.Rings.{entry_taken, fresh_controller_ring}
use Rattle.controller_core.specs.{Contents.{Contents, FetchedCommand, FetchedWork, change, is_command, verdict_of_work}, Doorbells.with_side}
use Rattle.controller_core.specs.declared.{command.FetchedWork.TheVariants.{Io, Admin}, queue.ControllerQueue.ControllerQueue}

-- a queue of which the entry at the head is taken
abbrev pub with_taken : ControllerQueue → ControllerQueue
with_taken queue = with_side (record queue.controller { ring = entry_taken queue.controller.entries queue.controller.ring }) queue

-- a command as it is fetched
abbrev pub command_of : ℕ → FetchedWork → FetchedCommand
command_of q work = record { q = q; units_done = 0; waiting_abort = None; work = work }

-- what the rule of an admin entry looks at, over a pool of this many pages
abbrev pub view_for : ℕ → List ControllerQueue → List FetchedCommand → SubEntry → DeviceView
view_for pages queues commands e =
    record {
      sq = option_map_or (λ queue. queue.state) (slice_get queues (named_queue e)) Absent;
      cq_there = option_map_or (λ queue. queue.cq_there) (slice_get queues (named_queue e)) false;
      target_walks = option_map_or (λ k. is_none (verdict_of_work k.work)) (find (is_command (named_queue e) (named_command e)) commands) false;
      queues = length queues - 1;
      entries = option_map_or (λ queue. queue.controller.entries) (slice_get queues (named_queue e)) 0;
      pages = pages;
    }

-- a command that has no verdict ends with this status
abbrev pub stopped_work : Status → FetchedWork → FetchedWork
stopped_work st (Io job) = Io (if is_none job.verdict then record job { verdict = Some st } else job)
stopped_work st (Admin entry status dw0) = Admin entry status dw0

-- the command that an Abort stops, and the commands of a queue that is deleted
abbrev pub aborted : ℕ → ℕ → ℕ → FetchedCommand → FetchedCommand
aborted q cid abort k = if is_command q cid k then record k { work = stopped_work ABORT_REQUESTED k.work; waiting_abort = Some abort } else k

abbrev pub stopped_with_queue : ℕ → FetchedCommand → FetchedCommand
stopped_with_queue q k = if k.q == q then record k { work = stopped_work ABORTED_SQ_DELETION k.work } else k

-- a queue of which nothing is fetched any more, and one without its completion queue
abbrev pub stopping : ControllerQueue → ControllerQueue
stopping queue = record queue { state = Stopping }

abbrev pub without_completion : ControllerQueue → ControllerQueue
without_completion queue = record queue { cq_there = false }

-- a queue whose completion ring begins at an address, and is empty; and one whose submission ring does
abbrev pub with_completion : ℕ → ControllerQueue → ControllerQueue
with_completion base queue = record queue { cq_there = true; controller = record queue.controller { cq = base / 4096; ring = fresh_controller_ring } }

abbrev pub with_submission : ℕ → ControllerQueue → ControllerQueue
with_submission base queue = record queue { state = Live; controller = record queue.controller { sq = base / 4096; ring = fresh_controller_ring } }

-- A creation's ring begins in a page that has a number.
abbrev pub NamesPages : AdminVerdict → Type 0
NamesPages (Answer st dw0) = Unit {0}
NamesPages (AbortJob q cid) = Unit {0}
NamesPages (StopQueue q) = Unit {0}
NamesPages (DropCompletion q) = Unit {0}
NamesPages (MakeCompletion q base) = base < 4096 * 2 ^ 32
NamesPages (MakeSubmission q base) = base < 4096 * 2 ^ 32

-- what a verdict does at the fetch
abbrev pub commands_after : ℕ → AdminVerdict → List FetchedCommand → List FetchedCommand
commands_after abort (Answer st dw0) commands = commands
commands_after abort (AbortJob q cid) commands = map (aborted q cid abort) commands
commands_after abort (StopQueue q) commands = map (stopped_with_queue q) commands
commands_after abort (DropCompletion q) commands = commands
commands_after abort (MakeCompletion q base) commands = commands
commands_after abort (MakeSubmission q base) commands = commands

abbrev pub queues_after : AdminVerdict → List ControllerQueue → List ControllerQueue
queues_after (Answer st dw0) queues = queues
queues_after (AbortJob q cid) queues = queues
queues_after (StopQueue q) queues = change q stopping queues
queues_after (DropCompletion q) queues = change q without_completion queues
queues_after (MakeCompletion q base) queues = change q (with_completion base) queues
queues_after (MakeSubmission q base) queues = change q (with_submission base) queues

-- how the admin command ends
abbrev pub status_of_verdict : AdminVerdict → Status
status_of_verdict (Answer st dw0) = st
status_of_verdict (AbortJob q cid) = SUCCESS
status_of_verdict (StopQueue q) = SUCCESS
status_of_verdict (DropCompletion q) = SUCCESS
status_of_verdict (MakeCompletion q base) = SUCCESS
status_of_verdict (MakeSubmission q base) = SUCCESS

abbrev pub dw0_of_verdict : AdminVerdict → ℕ
dw0_of_verdict (Answer st dw0) = dw0
dw0_of_verdict (AbortJob q cid) = 0
dw0_of_verdict (StopQueue q) = 0
dw0_of_verdict (DropCompletion q) = 0
dw0_of_verdict (MakeCompletion q base) = 0
dw0_of_verdict (MakeSubmission q base) = 0

abbrev pub admin_work : SubEntry → AdminVerdict → FetchedWork
admin_work e v = Admin e (status_of_verdict v) (dw0_of_verdict v)

-- the controller after an admin entry with its verdict: the entry is taken, the verdict is carried out, and the command stands after the others
abbrev pub managed_by : SubEntry → AdminVerdict → Contents → Contents
managed_by e v c =
    record {
      queues = queues_after v (change 0 with_taken c.queues);
      commands = commands_after e.cid v c.commands ++ command_of 0 (admin_work e v) ∷ [];
      image = c.image;
    }

abbrev pub verdict_for : ℕ → Contents → SubEntry → AdminVerdict
verdict_for pages c e = decision e (view_for pages c.queues c.commands e)

abbrev pub managed : ℕ → SubEntry → Contents → Contents
managed pages e c = managed_by e (verdict_for pages c e) c
