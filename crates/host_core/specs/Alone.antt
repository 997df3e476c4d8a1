-- The host alone: the machine with no controller, in which nothing is trusted. What a call of the host answers and leaves is decided by
-- the host and by the bytes in memory.
use Rattle.std.specs.{List.AllByRecursion, Prelude.{◌≡◌, ◌<◌, true, ℕ, false, [], length}}
use Rattle.page_ledger.specs.{Counting.total, Owners.is_among}
use Rattle.page_memory.specs.Pages.{Pages, IsPool}
use Rattle.machine_model.specs.{Claims.{HasOneOwner, IdentifiersDiffer, IsOutWithItsCommand, counts_of}, Events.{Event, Reply}}
use Rattle.machine_model.specs.{Placement.{data_placed, chain_placed}, Positions.IsInRing, State.{State, Host, Controller, outstanding_on}, Step.Step}
use Rattle.io_commands.specs.{Drafts.DraftContents, Values.numbers_of}

-- what contracts see of a host: the entries of each ring, the descriptors of a full segment, and the machine's host
pub record HostView : Type 0 where
  pub entries : ℕ
  pub segment : ℕ
  pub host : Host

-- no controller
abbrev pub nothing : Controller
nothing = record { queues = []; jobs = []; image = [] }

-- the machine that is this host over these pages
abbrev pub alone : HostView → Pages → State
alone v pages = record { entries = v.entries; segment = v.segment; memory = pages; host = v.host; controller = nothing; trusted = false }

-- a step of the host: its refusal, its answer, and the host and the memory that it leaves
abbrev pub HostStep : HostView → Pages → Event → Reply → HostView → Pages → Type 0
HostStep v pages e reply v' pages' = Step (alone v pages) e reply (alone v' pages')

-- The pages are those of the host: as many as it has owners for, in whole, and out exactly while their command is drafted or collected.
pub record IsOver (v : HostView) (pages : Pages) : Type 0 where
  pub pool : IsPool pages
  pub size : length pages ≡ total (counts_of v.host)
  pub out : IsOutWithItsCommand (alone v pages)

-- What holds of each host, against any controller at all: each page has one owner, no identifier of a queue is outstanding twice, and each
-- position is a slot of its ring.
pub record IsSoundHost (v : HostView) : Type 0 where
  pub owners : HasOneOwner (total (counts_of v.host)) v.host
  pub identifiers : IdentifiersDiffer v.host
  pub positions : AllByRecursion (λ queue. IsInRing v.entries queue.ring) v.host.queues

-- What the machine leaves to its host, and this host chooses: an identifier below which each identifier of the queue is outstanding, and pages
-- that are placed, first those of its data and then those of its chain.
abbrev pub IsLowest : Host → ℕ → ℕ → Type 0
IsLowest h q cid = (lower : ℕ) → lower < cid → is_among (outstanding_on h q) lower ≡ true

pub record HasPlacedPages (h : Host) (d : DraftContents) : Type 0 where
  pub data_pages : numbers_of d.data_pages ≡ data_placed h.free d.request.pieces
  pub chain_pages : numbers_of d.chain_pages ≡ chain_placed h.free d.segment d.request.pieces
