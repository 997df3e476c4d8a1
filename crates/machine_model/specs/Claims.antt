-- Who claims which page.
use Rattle.std.specs.{List.{flat_map, list_any, AllByRecursion}, Option.option_map_or}
use Rattle.std.specs.Prelude.{◌≡◌, ℕ, ◌+◌, ◌<◌, ◌==◌, nat_lt, true, false, Bool, not, ◌&&◌, ◌||◌, List, [], ◌∷◌, ◌++◌, length, map, filter, slice_get, sum_by, if◌then◌else◌}
use Rattle.page_ledger.specs.{Counting.total, Owners.is_among, declared.owner.{Counts.Counts, Owner.{Owner, TheVariants.{Free, Queue, Command}}}}
use Rattle.page_ledger.specs.declared.owner.Role.TheVariants.{Data, Chain}
use Rattle.machine_model.specs.{Commands.{Work, Io, Management}, Events.{Event, Reply}, Memory.is_in, Opening.{opening, Opens}}
use Rattle.machine_model.specs.Refusals.{is_drafted, is_collected, is_asked, is_live, is_making, is_making_cq, is_making_sq, has_sq, has_cq, deletes_sq_of, creates_cq_of, creates_sq_of, takes_admin}
use Rattle.machine_model.specs.{Run.Run, State.{State, Host, HostQueue, Record, outstanding_on, pages_of}, Step.{Step, times}}
use Rattle.io_commands.specs.Requests.{is_admin}
use Rattle.machine_model.specs.declared.words.Peer.{Peer}
use Rattle.page_memory.specs.declared.page.Half.TheVariants.{Submission, Completion}

abbrev pub claimed : Owner → List ℕ → List (ℕ × Owner)
claimed owner pages = map (λ p. (p, owner)) pages

abbrev pub claims_of_queues : ℕ → List HostQueue → List (ℕ × Owner)
claims_of_queues q [] = []
claims_of_queues q (queue ∷ queues) =
    claimed (Queue q Submission) queue.sq_pages ++ claimed (Queue q Completion) queue.cq_pages ++ claims_of_queues (q + 1) queues

abbrev pub claims_of_record : Record → List (ℕ × Owner)
claims_of_record r = claimed (Command r.q r.cid Data) r.data_pages ++ claimed (Command r.q r.cid Chain) r.chain_pages

abbrev pub claims_of : Host → List (ℕ × Owner)
claims_of h = claimed Free h.free ++ claims_of_queues 0 h.queues ++ flat_map claims_of_record h.records

-- each page of the pool is in exactly one claim, and no other page does
abbrev pub HasOneOwner : ℕ → Host → Type 0
HasOneOwner count h = (p : ℕ) → times p (map (λ claim. claim.0) (claims_of h)) ≡ (if nat_lt p count then 1 else 0)

-- no identifier of a queue is outstanding twice
abbrev pub IdentifiersDiffer : Host → Type 0
IdentifiersDiffer h = (q cid : ℕ) → times cid (outstanding_on h q) < 2

-- how many pages are free, and a queue's, a chain's and data
abbrev pub counts_of : Host → Counts
counts_of h =
    record {
      free_pages = length h.free;
      queue_pages = sum_by (λ queue. length queue.sq_pages + length queue.cq_pages) h.queues;
      chain_pages = sum_by (λ r. length r.chain_pages) h.records;
      data_pages = sum_by (λ r. length r.data_pages) h.records;
    }

-- a page is out exactly where its command is drafted or collected
abbrev pub is_away : Record → Bool
is_away r = is_drafted r.phase || is_collected r.phase

abbrev pub IsOutWithItsCommand : State → Type 0
IsOutWithItsCommand s =
    (p : ℕ) → p < length s.memory → is_in s.memory p ≡ not (list_any (λ r. is_away r && is_among (pages_of r) p) s.host.records)

-- a command of the caller's is on queue 0 exactly where it is an admin command, if the host takes any; one that the host sends itself is,
-- and owns no page
abbrev pub OwnsFit : Peer → ℕ → Work → List ℕ → Type 0
OwnsFit peer q (Io r) pages = (q == 0) ≡ (takes_admin peer && is_admin r.kind)
OwnsFit peer q (Management a) pages = (q ≡ 0) × (pages ≡ [])

-- one deletion of a queue's submission side is outstanding where the host waits for it, and none elsewhere
abbrev pub DeletionsFit : Host → Type 0
DeletionsFit h =
    (q : ℕ) → length (filter (λ r. deletes_sq_of q r.work) h.records) ≡ (if option_map_or (λ queue. is_asked queue.state) (slice_get h.queues q) false then 1 else 0)

-- so is one creation of a half where the host waits for it
abbrev pub CreationsFit : Host → Type 0
CreationsFit h =
    (q : ℕ)
    → (length (filter (λ r. creates_cq_of q r.work) h.records) ≡ (if option_map_or (λ queue. is_making_cq queue.state) (slice_get h.queues q) false then 1 else 0))
    × (length (filter (λ r. creates_sq_of q r.work) h.records) ≡ (if option_map_or (λ queue. is_making_sq queue.state) (slice_get h.queues q) false then 1 else 0))

-- no command of a queue is outstanding while the queue is made again
abbrev pub NewQueuesAreBare : Host → Type 0
NewQueuesAreBare h =
    (q : ℕ) → option_map_or (λ queue. is_making queue.state) (slice_get h.queues q) false ≡ true → length (outstanding_on h q) ≡ 0

-- a queue has no page of a half that the host does not have
pub record HasNoOtherPages (queue : HostQueue) : Type 0 where
  pub submission : has_sq queue.state ≡ false → queue.sq_pages ≡ []
  pub completion : has_cq queue.state ≡ false → queue.cq_pages ≡ []

-- queue 0 is never deleted
abbrev pub AdminLives : List HostQueue → Type 0
AdminLives queues = option_map_or (λ queue. is_live queue.state) (slice_get queues 0) true ≡ true

-- The headline's first three parts, which each step keeps whatever was forged, with what of records and queues keeps them so
pub record IsSound (s : State) : Type 0 where
  pub owners : HasOneOwner (length s.memory) s.host
  pub counted : total (counts_of s.host) ≡ length s.memory
  pub identifiers : IdentifiersDiffer s.host
  pub out : IsOutWithItsCommand s
  pub works_fit : AllByRecursion (λ r. OwnsFit s.host.peer r.q r.work (pages_of r)) s.host.records
  pub deletions : DeletionsFit s.host
  pub creations : CreationsFit s.host
  pub bare : NewQueuesAreBare s.host
  pub halves : AllByRecursion HasNoOtherPages s.host.queues
  pub admin : AdminLives s.host.queues

abbrev pub each_step_keeps : Type 0
each_step_keeps = (old : State) (e : Event) (reply : Reply) (new : State) → Step old e reply new → IsSound old → IsSound new

abbrev pub every_run_is_sound : Type 0
every_run_is_sound =
    (pages queues n s : ℕ) (image : List ℕ) (es : List Event) (replies : List Reply) (new : State)
    → Opens pages queues n s → Run (opening pages queues n s image) es replies new → IsSound new

-- the counts add up wherever each page has one owner
abbrev pub counts_add_up : Type 0
counts_add_up = (count : ℕ) (h : Host) → HasOneOwner count h → total (counts_of h) ≡ count

abbrev pub every_run_takes_out : Type 0
every_run_takes_out =
    (pages queues n s : ℕ) (image : List ℕ) (es : List Event) (replies : List Reply) (new : State)
    → Opens pages queues n s → Run (opening pages queues n s image) es replies new → IsOutWithItsCommand new
