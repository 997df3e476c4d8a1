-- What a handle shows of its host.
use Rattle.std.specs.{List.Contains, Option.option_map, Prelude.{◌≡◌, ◌≤◌, ℕ, true, false, Option, Some, None, Ok, Err, [], ◌∷◌, length, slice_get}}
use Rattle.nvmesgl_c.specs.{HostKept.{Kept, code_in}, Owners.owner_of, declared.{host.looks.{CHostQueue.CHostQueue, CPages.CPages}, words.owner.COwner.COwner}}
use Rattle.machine_model.specs.{Claims.claims_of, Script.Table, declared.words.HostState.HostState}
use Rattle.page_ledger.specs.declared.owner.Owner.{Owner}
use Rattle.host_core.specs.{Rights.memory_of_queue, declared.rights.{QueueMemory.QueueMemory, Run.Run}}
use Rattle.queue_pair.specs.{Positions.host_positions, declared.positions.HostPositions.HostPositions}
use Rattle.machine_model.specs.Claims as claims
use Rattle.machine_model.specs.declared.words.HostState.TheVariants as host_state

abbrev pub pages_of : Table → CPages
pages_of t =
    let counts = claims.counts_of t.world.host in
    record {
      pages = length t.world.memory;
      free_pages = counts.free_pages;
      queue_pages = counts.queue_pages;
      chain_pages = counts.chain_pages;
      data_pages = counts.data_pages;
      reserved = 0 ∷ 0 ∷ 0 ∷ 0 ∷ [];
    }

-- the counts, of a handle that is open
abbrev pub TellsCounts : Kept → ℕ → CPages → CPages → Kept → Type 0
TellsCounts (Err h) code old new left = (code ≡ code_in h) × (new ≡ old) × (left ≡ Err h)
TellsCounts (Ok t) code old new left = (code ≡ 0) × (new ≡ pages_of t.bench) × (left ≡ Ok t)

-- a page is searched for: its owner is that of the one claim that has it; there is none outside the pool
abbrev pub FindsOwner : Table → ℕ → Option Owner → Type 0
FindsOwner t page None = length t.world.memory ≤ page
FindsOwner t page (Some owner) = Contains (claims_of t.world.host) (page, owner)

abbrev pub ShowsOwner : Option Owner → ℕ → COwner → COwner → Type 0
ShowsOwner None code old new = (code ≡ 6) × (new ≡ old)
ShowsOwner (Some owner) code old new = (code ≡ 0) × (new ≡ owner_of owner)

-- the owner of a page, of a handle that is open
abbrev pub TellsOwner : Kept → ℕ → ℕ → COwner → COwner → Kept → Type 0
TellsOwner (Err h) page code old new left = (code ≡ code_in h) × (new ≡ old) × (left ≡ Err h)
TellsOwner (Ok t) page code old new left = (found : Option Owner) × FindsOwner t.bench page found × ShowsOwner found code old new × (left ≡ Ok t)

-- a queue's state as a number, and a queue as C sees it
abbrev pub number_of : HostState → ℕ
number_of host_state.Live = 0
number_of (host_state.Deleting false) = 1
number_of (host_state.Deleting true) = 2
number_of host_state.Retired = 3
number_of host_state.Gone = 4
number_of host_state.MakingCq = 5
number_of host_state.HalfMade = 6
number_of host_state.MakingSq = 7

-- the first page of a ring, and how many there are
abbrev pub ring_of : Option Run → ℕ × ℕ
ring_of None = (0, 0)
ring_of (Some run) = (run.first, run.count)

abbrev pub queue_of : HostState → HostPositions → QueueMemory → CHostQueue
queue_of state at memory =
    record {
      state = number_of state;
      submission_tail = at.submission_tail;
      submission_head = at.submission_head;
      completion_head = at.completion_head;
      phase = at.phase;
      submission_page = (ring_of memory.submission).0;
      completion_page = (ring_of memory.completion).0;
      submission_pages = (ring_of memory.submission).1;
      completion_pages = (ring_of memory.completion).1;
      reserved = 0 ∷ 0 ∷ 0 ∷ 0 ∷ [];
    }

-- the queue of this number is told, if there is one
abbrev pub FindsQueue : Table → ℕ → Option CHostQueue → Type 0
FindsQueue t q found = found ≡ option_map (λ queue. queue_of queue.state (host_positions queue.ring) (memory_of_queue queue)) (slice_get t.world.host.queues q)

abbrev pub ShowsQueue : Option CHostQueue → ℕ → CHostQueue → CHostQueue → Type 0
ShowsQueue None code old new = (code ≡ 10) × (new ≡ old)
ShowsQueue (Some queue) code old new = (code ≡ 0) × (new ≡ queue)

abbrev pub TellsQueue : Kept → ℕ → ℕ → CHostQueue → CHostQueue → Kept → Type 0
TellsQueue (Err h) q code old new left = (code ≡ code_in h) × (new ≡ old) × (left ≡ Err h)
TellsQueue (Ok t) q code old new left = (found : Option CHostQueue) × FindsQueue t.bench q found × ShowsQueue found code old new × (left ≡ Ok t)
