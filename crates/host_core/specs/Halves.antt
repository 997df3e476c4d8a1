-- The halves that a host gives back.
use Rattle.std.specs.Prelude.{◌≡◌, ℕ, Bool, true, Some, List, slice_get}
use Rattle.admin_commands.specs.declared.AdminKind.{AdminKind, TheVariants.{Abort, DeleteSq, DeleteCq, CreateCq, CreateSq}}
use Rattle.machine_model.specs.{Refusals.{has_cq, has_cq_alone, has_sq}, declared.words.HostState.HostState}
use Rattle.page_ledger.specs.{Lists.ListsAll, Owners.{is_half, pages_from}}
use Rattle.page_memory.specs.declared.page.Half.{Half, TheVariants.{Submission, Completion}}
use Rattle.queue_pair.specs.{Memory.half_pages, Rings.first_page_of}
use Rattle.host_core.specs.{Commands.{passes, state_at}, Rows.Queue, Tables.{Tables, cq_pages_of, sq_pages_of}}

-- whether the host has a half of a queue in this state
abbrev pub has_half : Half → HostState → Bool
has_half Submission state = has_sq state
has_half Completion state = has_cq state

-- the pages of a queue's half, and none where the host does not have the half
abbrev pub half_of : Half → Queue → List ℕ
half_of Submission queue = sq_pages_of queue
half_of Completion queue = cq_pages_of queue

-- A queue's half is there: the pages starting at its first are those that it owns.
pub record HasHalf (t : Tables) (q : ℕ) (half : Half) : Type 0 where
  pub queue : Queue
  pub at : slice_get t.queues q ≡ Some queue
  pub lists : ListsAll (is_half q half) t.owners (pages_from (first_page_of half queue.host) (half_pages t.entries half))

-- Where the end of one of the host's own commands may give a half back, that half is there.
abbrev pub HasMeant : AdminKind → Tables → Type 0
HasMeant (Abort q cid) t = Unit {0}
HasMeant (DeleteSq q) t = Unit {0}
HasMeant (DeleteCq q) t = passes has_cq_alone (state_at t.queues q) ≡ true → HasHalf t q Completion
HasMeant (CreateCq q n base vector) t = HasHalf t q Completion
HasMeant (CreateSq q n base) t = HasHalf t q Submission
