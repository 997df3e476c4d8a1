-- What a host keeps, as plain lists, with the pages that it is lent, and the machine that both stand for.
use Rattle.std.specs.Prelude.{ℕ, List, [], map, if◌then◌else◌}
use Rattle.machine_model.specs.{Refusals.{has_cq, has_sq}, State.{State, Record, HostQueue}, declared.words.Peer.Peer}
use Rattle.page_ledger.specs.{Owners.{free_pages, pages_from}, declared.owner.Owner.Owner}
use Rattle.page_memory.specs.{Pages.Pages, declared.page.Half.TheVariants.{Submission, Completion}}
use Rattle.queue_pair.specs.Memory.{half_pages}
use Rattle.host_core.specs.{Alone.{HostView, alone}, Rows.Queue}

-- the tables of a host: who owns each page, the outstanding commands, with how many queues they have slots for and how many slots of
-- each, and the queues; beside them how many entries each ring and how many descriptors a full segment
-- has, whom the host speaks to, and the pages, in or out
pub record Tables : Type 0 where
  pub entries : ℕ
  pub segment : ℕ
  pub peer : Peer
  pub pages : Pages
  pub owners : List Owner
  pub record_queues : ℕ
  pub record_places : ℕ
  pub records : List Record
  pub queues : List Queue

-- the pages of a queue's halves, starting at the first page of each, until they are given back
abbrev pub sq_pages_of : Queue → List ℕ
sq_pages_of queue =
    if has_sq queue.state then pages_from queue.host.sq (half_pages queue.host.entries Submission) else []

abbrev pub cq_pages_of : Queue → List ℕ
cq_pages_of queue = if has_cq queue.state then pages_from queue.host.cq (half_pages queue.host.entries Completion) else []

abbrev pub host_queue_of : Queue → HostQueue
host_queue_of queue =
    record { state = queue.state; ring = queue.host.ring; sq_pages = sq_pages_of queue; cq_pages = cq_pages_of queue }

-- what contracts see of a host with these tables
abbrev pub view_of : Tables → HostView
view_of t =
    record {
      entries = t.entries;
      segment = t.segment;
      host = record { peer = t.peer; free = free_pages t.owners; queues = map host_queue_of t.queues; records = t.records };
    }

-- the machine that the tables stand for
abbrev pub state_of : Tables → State
state_of t = alone (view_of t) t.pages
