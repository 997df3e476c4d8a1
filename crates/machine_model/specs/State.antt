-- The machine as lists.
use Rattle.std.specs.Prelude.{ℕ, ◌==◌, Bool, ◌&&◌, not, Option, List, ◌++◌, map, filter, if◌then◌else◌, find}
use Rattle.admin_commands.specs.declared.SqState.{SqState}
use Rattle.entry_codec.specs.declared.{hints.Hints.Hints, status.Status.Status, submission.SubEntry.SubEntry}
use Rattle.page_memory.specs.Pages.{Pages}
use Rattle.machine_model.specs.Commands.{Work}
use Rattle.queue_pair.specs.Rings.{HostRing}
use Rattle.machine_model.specs.declared.words.Peer.{Peer}
pub use Rattle.machine_model.specs.declared.words.Phase.{Phase}
pub use Rattle.machine_model.specs.declared.words.Phase.TheVariants.{Drafted, Submitted, Held, Collected}
pub use Rattle.machine_model.specs.declared.words.HostState.{HostState}
pub use Rattle.machine_model.specs.declared.words.HostState.TheVariants.{Live, Deleting, Retired, Gone, MakingCq, HalfMade, MakingSq}

-- an outstanding command: once it has ended, with its status and the hints of its
-- completion. One that the host sends itself owns no page and is submitted once it is sent
pub record Record : Type 0 where
  pub q : ℕ
  pub cid : ℕ
  pub phase : Phase
  pub work : Work
  pub data_pages : List ℕ
  pub chain_pages : List ℕ
  pub status : Option Status
  pub hints : Hints

-- a completion that was posted and not reaped: it has no hints
pub record PostedCompletion : Type 0 where
  pub cid : ℕ
  pub status : Status
  pub dw0 : ℕ
  pub sq_head : ℕ

-- a fetched command at the controller
pub record Job : Type 0 where
  pub q : ℕ
  pub entry : SubEntry
  pub bytes : List ℕ
  pub units_done : ℕ
  pub verdict : Option Status
  pub dw0 : ℕ
  pub waiting_abort : Option ℕ

-- what the host keeps of a queue
pub record HostQueue : Type 0 where
  pub state : HostState
  pub ring : HostRing
  pub sq_pages : List ℕ
  pub cq_pages : List ℕ

-- what the controller has for a queue
pub record ServedQueue : Type 0 where
  pub state : SqState
  pub cq_there : Bool
  pub unfetched : List SubEntry
  pub rung : ℕ
  pub completions : List PostedCompletion

-- the host's part of the machine: what holds whatever was forged
pub record Host : Type 0 where
  pub peer : Peer
  pub free : List ℕ
  pub queues : List HostQueue
  pub records : List Record

-- the controller's part
pub record Controller : Type 0 where
  pub queues : List ServedQueue
  pub jobs : List Job
  pub image : List ℕ

pub record State : Type 0 where
  pub entries : ℕ
  pub segment : ℕ
  pub memory : Pages
  pub host : Host
  pub controller : Controller
  pub trusted : Bool

abbrev pub is_at : ℕ → ℕ → Record → Bool
is_at q cid r = (r.q == q) && (r.cid == cid)

-- the record of a command, if it is outstanding
abbrev pub record_at : Host → ℕ → ℕ → Option Record
record_at h q cid = find (is_at q cid) h.records

abbrev pub outstanding_on : Host → ℕ → List ℕ
outstanding_on h q = map (λ r. r.cid) (filter (λ r. r.q == q) h.records)

-- the records without one, and with one changed
abbrev pub without_record : ℕ → ℕ → List Record → List Record
without_record q cid records = filter (λ r. not (is_at q cid r)) records

abbrev pub with_record : ℕ → ℕ → (Record → Record) → List Record → List Record
with_record q cid f records = map (λ r. if is_at q cid r then f r else r) records

abbrev pub pages_of : Record → List ℕ
pages_of r = r.data_pages ++ r.chain_pages
