-- A host and a controller over one pool of pages, and the machine that they stand for. The lists of the machine's queues are computed from
-- the memory and from the positions of both sides; nothing is kept twice.
use Rattle.std.specs.Prelude.{ℕ, Bool, Option, Some, None, List, [], ◌∷◌, map, if◌then◌else◌}
use Rattle.admin_commands.specs.Verdicts.{is_absent}
use Rattle.controller_core.specs.Contents.{Contents, FetchedCommand, FetchedWork, entry_of_work, verdict_of_work, dw0_of_work}
use Rattle.controller_core.specs.declared.{command.FetchedWork.TheVariants.{Io, Admin}, queue.ControllerQueue.ControllerQueue}
use Rattle.entry_codec.specs.declared.{completion.ComEntry.ComEntry, submission.SubEntry.SubEntry}
use Rattle.host_core.specs.Alone.{HostView}
use Rattle.machine_model.specs.State.{State, Controller, PostedCompletion, HostQueue, ServedQueue}
use Rattle.page_memory.specs.{Memory.Memory, Pages.{Pages, byte_at}}
use Rattle.queue_pair.specs.{Lists.{entries_between, completions_from}, Rings.{HostRing, ControllerSide}, Slots.distance}
use Rattle.machine_model.specs.State as machine

-- both sides, the pages that they share, and whether nothing was forged since the last reset
pub record Sides : Type 0 where
  pub host : HostView
  pub controller : Contents
  pub pages : Pages
  pub trusted : Bool

-- the values of a list that are there
abbrev pub present : {X : Type 0} → List (Option X) → List X
present [] = []
present (None ∷ xs) = present xs
present (Some x ∷ xs) = x ∷ present xs

abbrev pub posted_completion : ComEntry → PostedCompletion
posted_completion e = record { cid = e.cid; status = e.status; dw0 = e.dw0; sq_head = e.sqhd }

-- the entries between the controller's head and the host's tail
abbrev pub unfetched_between : Memory → HostRing → ControllerSide → List SubEntry
unfetched_between m ring controller = present (entries_between m controller.sq controller.entries controller.ring.head ring.tail)

-- the completions between the host's head and the controller's tail
abbrev pub completions_between : Memory → HostRing → ControllerSide → List ComEntry
completions_between m ring controller = present (completions_from m controller.cq controller.entries ring.head controller.ring.tail)

-- a queue of the controller as the machine has it; an absent submission queue has no entries, and a completion queue that is not there no completions
abbrev pub served_queue_of : Memory → HostRing → ControllerQueue → ServedQueue
served_queue_of m ring queue =
    record {
      state = queue.state;
      cq_there = queue.cq_there;
      unfetched = if is_absent queue.state then [] else unfetched_between m ring queue.controller;
      rung = if is_absent queue.state then 0 else distance queue.controller.entries queue.controller.ring.head queue.controller.ring.bell;
      completions = if queue.cq_there then map posted_completion (completions_between m ring queue.controller) else [];
    }

-- queue by queue, as long as both sides have one
abbrev pub served_queues_of : Memory → List HostQueue → List ControllerQueue → List ServedQueue
served_queues_of m [] cs = []
served_queues_of m (h ∷ hs) [] = []
served_queues_of m (h ∷ hs) (c ∷ cs) = served_queue_of m h.ring c ∷ served_queues_of m hs cs

abbrev pub bytes_of_work : FetchedWork → List ℕ
bytes_of_work (Io job) = job.bytes
bytes_of_work (Admin entry status dw0) = []

abbrev pub job_of : FetchedCommand → machine.Job
job_of k =
    record {
      q = k.q;
      entry = entry_of_work k.work;
      bytes = bytes_of_work k.work;
      units_done = k.units_done;
      verdict = verdict_of_work k.work;
      dw0 = dw0_of_work k.work;
      waiting_abort = k.waiting_abort;
    }

-- the controller's part of the machine
abbrev pub controller_part : Sides → Controller
controller_part s =
    record {
      queues = served_queues_of (byte_at s.pages) s.host.host.queues s.controller.queues;
      jobs = map job_of s.controller.commands;
      image = s.controller.image;
    }

-- the machine that both sides stand for
abbrev pub state_of : Sides → State
state_of s =
    record {
      entries = s.host.entries;
      segment = s.host.segment;
      memory = s.pages;
      host = s.host.host;
      controller = controller_part s;
      trusted = s.trusted;
    }
