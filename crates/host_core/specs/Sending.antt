-- The host sends an admin command.
use Rattle.std.specs.Prelude.{◌≡◌, ◌++◌, ◌∷◌, ◌*◌, ◌-◌, ◌==◌, ◌||◌, ◌&&◌, [], ℕ, Bool, List, Option, None, Some, true, false, nat_lt, not, length, position, slice_get}
use Rattle.admin_commands.specs.{Entries.admin_entry, declared.AdminKind.{AdminKind, TheVariants.{Abort, DeleteSq, DeleteCq, CreateCq, CreateSq}}}
use Rattle.machine_model.specs.{After.change, Events.Event, Memory.{with_pages, zeroed_pages}}
use Rattle.machine_model.specs.Refusals.{cq_deletion_outstanding, in_state, is_changing, is_deleting, is_gone, is_half_made, is_io_queue, is_submitted, has_cq, has_cq_alone, no_io_queue, record_is, refusal_of, run_for}
use Rattle.machine_model.specs.{State.{Record, State, outstanding_on}, declared.words.HostState.{HostState, TheVariants.{Deleting, MakingCq, MakingSq}}}
use Rattle.machine_model.specs.declared.words.{Phase.TheVariants.Submitted, Refusal.Refusal, Work.TheVariants.Management}
use Rattle.page_ledger.specs.Owners.{pages_from, with_owner}
use Rattle.page_memory.specs.declared.page.Half.{Half, TheVariants.{Submission, Completion}}
use Rattle.queue_pair.specs.{Memory.half_pages, Rings.{HostSide, fresh_host_ring, none_claimed}, Slots.is_full}
use Rattle.host_core.specs.{Commands.{passes, with_claim}, Posting.posted, Reaping.with_state, Rows.Queue, Tables.{Tables, state_of}}
use Rattle.entry_codec.specs.declared.hints.TheConstants.Hints.{NONE}
use Rattle.machine_model.specs.Events as events
use Rattle.page_ledger.specs.declared.owner.Owner.TheVariants as owner
use Rattle.machine_model.specs.declared.words.Refusal.TheVariants as refusal

-- the call that sends a command
abbrev pub sending : AdminKind → Event
sending (Abort q cid) = events.Abort q cid
sending (DeleteSq q) = events.DeleteSq q
sending (DeleteCq q) = events.DeleteCq q
sending (CreateCq q n base vector) = events.CreateCq q vector
sending (CreateSq q n base) = events.CreateSq q

-- whether a command is sent with no half granted before it
abbrev pub grants_none : AdminKind → Bool
grants_none (Abort q cid) = true
grants_none (DeleteSq q) = true
grants_none (DeleteCq q) = true
grants_none (CreateCq q n base vector) = false
grants_none (CreateSq q n base) = false

-- the record of an admin command that was just sent
abbrev pub record_of_admin : AdminKind → ℕ → Record
record_of_admin kind cid =
    record { q = 0; cid = cid; phase = Submitted; work = Management kind; data_pages = []; chain_pages = []; status = None; hints = NONE }

-- its identifier of queue 0 is claimed, and it is outstanding
abbrev pub noted : AdminKind → ℕ → Tables → Tables
noted kind cid t = record t { records = t.records ++ record_of_admin kind cid ∷ []; queues = change 0 (with_claim cid) t.queues }

-- and its entry is posted at the tail of queue 0
abbrev pub sent : AdminKind → ℕ → Queue → Tables → Tables
sent kind cid queue t = posted 0 (with_claim cid queue) (admin_entry kind cid) (noted kind cid t)

-- the host waits for the deletion of a submission queue that it asked for
abbrev pub asked : AdminKind → Tables → Tables
asked (Abort q cid) t = t
asked (DeleteSq q) t = record t { queues = change q (with_state (Deleting false)) t.queues }
asked (DeleteCq q) t = t
asked (CreateCq q n base vector) t = t
asked (CreateSq q n base) t = t

-- a queue's side made anew over these halves
abbrev pub renewed : (sq cq : ℕ) → HostSide → HostSide
renewed sq cq side = record side { sq = sq; cq = cq; ring = fresh_host_ring; claimed = none_claimed (side.entries - 1) }

-- a queue whose half is granted starting at a page
abbrev pub making : Half → ℕ → Queue → Queue
making Completion first queue = record queue { state = MakingCq; host = renewed queue.host.sq first queue.host }
making Submission first queue = record queue { state = MakingSq; host = renewed first queue.host.cq queue.host }

-- the pages of a half starting at its first
abbrev pub half_from : Tables → Half → ℕ → List ℕ
half_from t half first = pages_from first (half_pages t.entries half)

-- a queue is granted a half: its pages are the queue's, in and zero
abbrev pub granted : Half → (q first : ℕ) → Tables → Tables
granted half q first t =
    record t {
      pages = with_pages (zeroed_pages (half_from t half first)) t.pages;
      owners = with_owner t.owners (half_from t half first) (owner.Queue q half);
      queues = change q (making half first) t.queues;
    }

-- the call that makes a half, and the command that it sends; a completion half alone has a vector, or none
abbrev pub creating : Half → ℕ → Option ℕ → Event
creating Completion q vector = events.CreateCq q vector
creating Submission q vector = events.CreateSq q

abbrev pub creation : Half → (q entries first : ℕ) → Option ℕ → AdminKind
creation Completion q entries first vector = CreateCq q entries (4096 * first) vector
creation Submission q entries first vector = CreateSq q entries (4096 * first)

-- the tables that a sending leaves, by queue 0
abbrev pub Sends : Tables → AdminKind → ℕ → Tables → Type 0
Sends t kind cid new = (queue : Queue) → slice_get t.queues 0 ≡ Some queue → new ≡ asked kind (sent kind cid queue t)

-- the tables that a creation leaves: the half is granted, and the command sent
abbrev pub Creates : Tables → Half → (q : ℕ) → Option ℕ → (cid first : ℕ) → Tables → Type 0
Creates t half q vector cid first new =
    (queue : Queue) → slice_get t.queues 0 ≡ Some queue → new ≡ sent (creation half q t.entries first vector) cid queue (granted half q first t)

-- what rules out a command for the queue and the command that it names
abbrev pub named_causes : State → AdminKind → List (Bool × Refusal)
named_causes s (Abort q cid) =
    (no_io_queue s q, refusal.NoQueue)
    ∷ (in_state is_deleting s q, refusal.WrongState)
    ∷ (not (record_is (λ r. is_submitted r.phase) s q cid), refusal.NoSuchCommand)
    ∷ []
named_causes s (DeleteSq q) = (no_io_queue s q, refusal.NoQueue) ∷ (in_state is_deleting s q, refusal.WrongState) ∷ []
named_causes s (DeleteCq q) =
    ((q == 0) || not (in_state has_cq s q), refusal.NoQueue)
    ∷ (in_state is_changing s q || (in_state has_cq_alone s q && cq_deletion_outstanding s q), refusal.WrongState)
    ∷ []
named_causes s (CreateCq q n base vector) =
    (not (is_io_queue s q), refusal.NoQueue)
    ∷ (not (in_state is_gone s q), refusal.WrongState)
    ∷ (nat_lt 0 (length (outstanding_on s.host q)), refusal.Outstanding)
    ∷ []
named_causes s (CreateSq q n base) =
    (not (is_io_queue s q), refusal.NoQueue) ∷ (not (in_state is_half_made s q) || cq_deletion_outstanding s q, refusal.WrongState) ∷ []

-- Queue 0 has room for a command, and this is its next identifier.
pub record HasSlot (t : Tables) (cid : ℕ) : Type 0 where
  pub queue : Queue
  pub at : slice_get t.queues 0 ≡ Some queue
  pub next : position not queue.host.claimed ≡ Some cid
  pub room : is_full queue.host.entries queue.host.ring.known_head queue.host.ring.tail ≡ false

-- Nothing rules out a sending with no half granted.
pub record CanSend (t : Tables) (kind : AdminKind) (cid : ℕ) : Type 0 where
  pub plain : grants_none kind ≡ true
  pub none : refusal_of (state_of t) (sending kind) ≡ None
  pub slot : HasSlot t cid

-- Nothing rules out the making of a half, whatever its vector is, and the lowest run of free pages for it begins at this page.
pub record CanCreate (t : Tables) (half : Half) (q cid first : ℕ) : Type 0 where
  pub none : (vector : Option ℕ) → refusal_of (state_of t) (creating half q vector) ≡ None
  pub slot : HasSlot t cid
  pub run : run_for (state_of t) half ≡ Some first

-- whether no I/O queue of this number, in this state, has a completion half
abbrev pub lacks_queue : ℕ → Option HostState → Bool
lacks_queue q state = (q == 0) || not (passes has_cq state)
