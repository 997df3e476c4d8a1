-- What holds of a host's tables between its calls.
use Rattle.std.specs.{List.{AllByRecursion, list_any}, Prelude.{◌≡◌, ℕ, ◌+◌, ◌<◌, ◌≤◌, Bool, true, Option, Some, None, List, length, slice_get}}
use Rattle.entry_codec.specs.declared.status.Status.{Status}
use Rattle.io_commands.specs.{Requests.data_count, Values.IsGood}
use Rattle.machine_model.specs.Claims.{HasOneOwner, IdentifiersDiffer, DeletionsFit, CreationsFit, NewQueuesAreBare, AdminLives, OwnsFit}
use Rattle.machine_model.specs.{State.{Host, Record, is_at, pages_of}, Work.Work, declared.words.Phase.{Phase, TheVariants.{Drafted, Submitted, Held, Collected}}}
use Rattle.machine_model.specs.declared.words.Work.TheVariants.{Io, Management}
use Rattle.page_ledger.specs.{Owners.{is_among, owner_at}, declared.owner.{Owner.Owner, Role.TheVariants.{Data, Chain}}}
use Rattle.page_memory.specs.declared.page.Half.TheVariants.{Submission, Completion}
use Rattle.queue_pair.specs.Rings.{IsHostSide}
use Rattle.host_core.specs.{Alone.IsOver, Rows.Queue, Tables.{Tables, view_of, sq_pages_of, cq_pages_of}}
use Rattle.page_ledger.specs.declared.owner.Owner.TheVariants as owner

-- a queue speaks of its own rings, with its positions inside
pub record IsQueue (n q : ℕ) (queue : Queue) : Type 0 where
  pub number : queue.host.q ≡ q
  pub entries : queue.host.entries ≡ n
  pub host_side : IsHostSide queue.host

pub record AreQueues (n : ℕ) (queues : List Queue) : Type 0 where
  pub each : (q : ℕ) (queue : Queue) → slice_get queues q ≡ Some queue → IsQueue n q queue

-- whether a command of a queue is outstanding
abbrev pub is_outstanding : List Record → ℕ → ℕ → Bool
is_outstanding records q cid = list_any (is_at q cid) records

-- The claimed identifiers of a queue are those of its outstanding commands.
pub record ClaimsIdentifiers (records : List Record) (q : ℕ) (claimed : List Bool) : Type 0 where
  pub told : (cid : ℕ) → cid < length claimed → slice_get claimed cid ≡ Some (is_outstanding records q cid)
  pub inside : (cid : ℕ) → is_outstanding records q cid ≡ true → cid < length claimed

pub record ClaimIdentifiers (records : List Record) (queues : List Queue) : Type 0 where
  pub each : (q : ℕ) (queue : Queue) → slice_get queues q ≡ Some queue → ClaimsIdentifiers records q queue.host.claimed

-- pages with their owner in the table
abbrev pub HaveOwner : List Owner → Owner → List ℕ → Type 0
HaveOwner owners owner pages = (p : ℕ) → is_among pages p ≡ true → owner_at owners p ≡ Some owner

pub record TellsCommand (owners : List Owner) (r : Record) : Type 0 where
  pub data_pages : HaveOwner owners (owner.Command r.q r.cid Data) r.data_pages
  pub chain_pages : HaveOwner owners (owner.Command r.q r.cid Chain) r.chain_pages

pub record TellsQueue (owners : List Owner) (q : ℕ) (queue : Queue) : Type 0 where
  pub submission : HaveOwner owners (owner.Queue q Submission) (sq_pages_of queue)
  pub completion : HaveOwner owners (owner.Queue q Completion) (cq_pages_of queue)

-- The table of owners tells each claim: of the queues' halves, and of the commands' pages.
pub record OwnersTell (owners : List Owner) (queues : List Queue) (records : List Record) : Type 0 where
  pub queues_told : (q : ℕ) (queue : Queue) → slice_get queues q ≡ Some queue → TellsQueue owners q queue
  pub commands_told : AllByRecursion (TellsCommand owners) records

-- The request of a command of the caller's passed its check, and it has as many data pages as its pieces take.
abbrev pub FitsWork : Work → Record → Type 0
FitsWork (Io request) r = IsGood request × (length r.data_pages ≡ data_count request.pieces)
FitsWork (Management kind) r = Unit {0}

-- What is held is a command of the caller's, and has its status.
abbrev pub FitsPhase : Phase → Work → Option Status → Type 0
FitsPhase Drafted work status = Unit {0}
FitsPhase Submitted work status = Unit {0}
FitsPhase Held (Io request) None = ⊥
FitsPhase Held (Io request) (Some status) = Unit {0}
FitsPhase Held (Management kind) status = ⊥
FitsPhase Collected work status = Unit {0}

-- An outstanding command is one of a queue that there is, and its record fits its work and its phase.
pub record IsRecord (queues : ℕ) (r : Record) : Type 0 where
  pub queue : r.q < queues
  pub work : FitsWork r.work r
  pub phase : FitsPhase r.phase r.work r.status

-- What holds of a host's tables by themselves, whatever pages it is lent, in four groups.

-- the limits of its numbers
pub record HasLimits (entries segment queues rows places : ℕ) : Type 0 where
  pub least_entries : 2 ≤ entries
  pub most_entries : entries ≤ 1024
  pub least_segment : 2 ≤ segment
  pub most_segment : segment ≤ 256
  pub some_queues : 2 ≤ queues
  pub few_queues : queues ≤ 65
  pub record_queues : rows ≡ queues
  pub record_places : places + 1 ≡ entries

-- the ledger tells each claim, the claimed identifiers are those outstanding, and each record fits its work
pub record IsTable (count : ℕ) (ledger : List Owner) (rings : List Queue) (commands : List Record) : Type 0 where
  pub owners : OwnersTell ledger rings commands
  pub identifiers : ClaimIdentifiers commands rings
  pub records : AllByRecursion (IsRecord count) commands

-- each page has one owner, identifiers differ, and commands and queues are as the machine keeps them
pub record IsSoundTable (count : ℕ) (h : Host) : Type 0 where
  pub owners : HasOneOwner count h
  pub identifiers : IdentifiersDiffer h
  pub works_fit : AllByRecursion (λ r. OwnsFit h.peer r.q r.work (pages_of r)) h.records
  pub deletions : DeletionsFit h
  pub creations : CreationsFit h
  pub bare : NewQueuesAreBare h
  pub admin : AdminLives h.queues

pub record IsHost (t : Tables) : Type 0 where
  pub limits : HasLimits t.entries t.segment (length t.queues) t.record_queues t.record_places
  pub table : IsTable (length t.queues) t.owners t.queues t.records
  pub sound : IsSoundTable (length t.owners) (view_of t).host
  pub rings : AreQueues t.entries t.queues

-- and over the pages that it is lent
pub record IsWhole (t : Tables) : Type 0 where
  pub host : IsHost t
  pub over : IsOver (view_of t) t.pages
