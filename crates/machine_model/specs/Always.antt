-- What the host has whatever was forged: each queue its halves until it gives them back, and each command what it was reserved with.
use Rattle.std.specs.{List.AllByRecursion, Prelude.{◌≡◌, ℕ, ◌*◌, ◌-◌, ◌<◌, true, Some, List, length, slice_get, if◌then◌else◌}}
use Rattle.admin_commands.specs.declared.AdminKind.TheVariants.{Abort, DeleteSq, DeleteCq, CreateCq, CreateSq}
use Rattle.page_ledger.specs.Owners.{pages_from}
use Rattle.page_memory.specs.declared.page.Half.{Half, TheVariants.{Submission, Completion}}
use Rattle.io_commands.specs.Requests.{data_count, joined_parts}
use Rattle.queue_pair.specs.{Memory.half_pages, Rings.fresh_host_ring}
use Rattle.sgl_chain.specs.Chains.{pages_needed}
use Rattle.machine_model.specs.{Commands.{Work, Io, Management}, Refusals.{has_sq, has_cq, is_making}, State.{Host, HostQueue, Record}}

-- this many pages, one after the other
abbrev pub LieTogether : ℕ → List ℕ → Type 0
LieTogether count pages = (first : ℕ) × (pages ≡ pages_from first count)

-- the pages of a half lie together until it is given back, and there are none from then on
pub record HasHalves (n : ℕ) (queue : HostQueue) : Type 0 where
  pub submission : LieTogether (if has_sq queue.state then half_pages n Submission else 0) queue.sq_pages
  pub completion : LieTogether (if has_cq queue.state then half_pages n Completion else 0) queue.cq_pages
  -- rings that are being made are as they open
  pub fresh : is_making queue.state ≡ true → queue.ring ≡ fresh_host_ring

-- an I/O command has a data page for each data piece, and as many chain pages as the chain of its joined parts takes
abbrev pub HasPagesFor : ℕ → Work → (data_pages chain_pages : List ℕ) → Type 0
HasPagesFor segment (Io request) data_pages chain_pages =
    (length data_pages ≡ data_count request.pieces) × (length chain_pages ≡ pages_needed (length (joined_parts request.pieces data_pages)) segment)
HasPagesFor segment (Management a) data_pages chain_pages = Unit {0}

-- an outstanding command has them, and an identifier below its queue's entries less one
pub record IsProvided (n segment : ℕ) (r : Record) : Type 0 where
  pub identifier : r.cid < n - 1
  pub pages : HasPagesFor segment r.work r.data_pages r.chain_pages

-- the pages of a half, one after the other, starting at an address
pub record LieAt (n : ℕ) (half : Half) (base : ℕ) (pages : List ℕ) : Type 0 where
  pub first : ℕ
  pub begins : base ≡ 4096 * first
  pub consecutive : pages ≡ pages_from first (half_pages n half)

-- a creation that is outstanding names the half that the host granted for it
abbrev pub NamesItsHalf : ℕ → List HostQueue → Work → Type 0
NamesItsHalf n queues (Io request) = Unit {0}
NamesItsHalf n queues (Management (Abort q cid)) = Unit {0}
NamesItsHalf n queues (Management (DeleteSq q)) = Unit {0}
NamesItsHalf n queues (Management (DeleteCq q)) = Unit {0}
NamesItsHalf n queues (Management (CreateCq q size base vector)) =
    (size ≡ n) × (queue : HostQueue) × (slice_get queues q ≡ Some queue) × LieAt n Completion base queue.cq_pages
NamesItsHalf n queues (Management (CreateSq q size base)) =
    (size ≡ n) × (queue : HostQueue) × (slice_get queues q ≡ Some queue) × LieAt n Submission base queue.sq_pages

pub record IsHostProvided (n segment : ℕ) (h : Host) : Type 0 where
  pub queues : AllByRecursion (HasHalves n) h.queues
  pub commands : AllByRecursion (IsProvided n segment) h.records
  pub creations : AllByRecursion (λ r. NamesItsHalf n h.queues r.work) h.records
