-- A controller reset, at the host.
use Rattle.std.specs.{List.AllByRecursion, Option.option_map_or, Prelude.{◌≡◌, ◌<◌, ◌≤◌, ◌-◌, ℕ, zero, suc, ◌==◌, Bool, false, not, if◌then◌else◌, List, [], ◌∷◌, Some, filter, find, length, map, slice_get, slice_set}}
use Rattle.machine_model.specs.{After.{admin_pages, after_reset, change, is_of_io, reset_records}, Claims.IdentifiersDiffer, Memory.{with_pages, zeroed_pages}, State.{Record, is_at, without_record}}
use Rattle.machine_model.specs.declared.words.HostState.TheVariants.{Gone}
use Rattle.page_ledger.specs.{Lists.ListsAll, Owners.{given_back, is_half, is_queue, owner_at}, declared.owner.Owner.Owner}
use Rattle.page_memory.specs.{Pages.Pages, declared.page.Half.Half}
use Rattle.queue_pair.specs.Rings.{fresh_host_ring}
use Rattle.host_core.specs.{Alone.{HostView, alone}, Commands.{claims_changed, without_claim}, Halves.half_of, Laws.shown, Rows.Queue, Tables.{Tables, view_of}, Whole.ClaimIdentifiers}
use Rattle.page_ledger.specs.declared.owner.Owner.TheVariants as owner

-- What contracts see: the host and the pages that the machine with no controller has after a reset
abbrev pub host_reset : HostView → Pages → HostView
host_reset v pages = shown (after_reset (alone v pages))

abbrev pub pages_reset : HostView → Pages → Pages
pages_reset v pages = (after_reset (alone v pages)).memory

-- The tables

-- both rings of queue 0 are as they open, over the same halves; its state and its claimed identifiers stay
abbrev pub admin_reset : Queue → Queue
admin_reset queue = record queue { host = record queue.host { ring = fresh_host_ring } }

-- and its pages are zero
abbrev pub with_admin_renewed : Tables → Tables
with_admin_renewed t =
    record t {
      pages = with_pages (zeroed_pages (admin_pages (view_of t).host.queues)) t.pages;
      queues = change 0 admin_reset t.queues;
    }

-- whether an identifier of queue 0 is that of a command that the host sent itself
abbrev pub has_own : List Record → ℕ → Bool
has_own records cid = option_map_or (λ r. not (is_of_io r.work)) (find (is_at 0 cid) records) false

-- such a command is over, and its identifier free
abbrev pub with_own_over : ℕ → Tables → Tables
with_own_over cid t =
    if has_own t.records cid then record t { records = without_record 0 cid t.records; queues = change 0 (without_claim cid) t.queues } else t

-- the claimed identifiers without those of such commands below a number
abbrev pub own_freed : List Record → ℕ → List Bool → List Bool
own_freed records zero claimed = claimed
own_freed records (suc n) claimed = if has_own records n then slice_set (own_freed records n claimed) n false else own_freed records n claimed

-- all commands that the host sent itself are over, and their identifiers free
abbrev pub with_all_own_over : Tables → Tables
with_all_own_over t =
    record t {
      records = filter (λ r. is_of_io r.work) t.records;
      queues = change 0 (claims_changed (own_freed t.records (t.entries - 1))) t.queues;
    }

-- and one of the caller's that was submitted is lost
abbrev pub with_records_reset : Tables → Tables
with_records_reset t = record (with_all_own_over t) { records = reset_records t.records }

-- an I/O queue is gone, and both rings are as they open; the claimed identifiers stay claimed
abbrev pub gone : Queue → Queue
gone queue = record queue { state = Gone; host = record queue.host { ring = fresh_host_ring } }

abbrev pub gone_behind_first : List Queue → List Queue
gone_behind_first [] = []
gone_behind_first (queue ∷ queues) = queue ∷ map gone queues

-- its pages are free
abbrev pub with_queue_gone : ℕ → Tables → Tables
with_queue_gone q t = record t { owners = given_back (is_queue q) t.owners; queues = change q gone t.queues }

-- whether a page is one of an I/O queue
abbrev pub is_of_io_queue : Owner → Bool
is_of_io_queue owner.Free = false
is_of_io_queue (owner.Queue q half) = not (q == 0)
is_of_io_queue (owner.Command q cid role) = false

-- all I/O queues are gone
abbrev pub with_io_queues_gone : Tables → Tables
with_io_queues_gone t = record t { owners = given_back is_of_io_queue t.owners; queues = gone_behind_first t.queues }

abbrev pub tables_reset : Tables → Tables
tables_reset t = with_io_queues_gone (with_records_reset (with_admin_renewed t))

-- What the parts of a reset rely on

-- A command is in a record slot of an existing queue, and one that the host sends itself on queue 0.
pub record IsPlaced (entries queues : ℕ) (r : Record) : Type 0 where
  pub queue : r.q < queues
  pub identifier : r.cid < entries - 1
  pub own : is_of_io r.work ≡ false → r.q ≡ 0

pub record HasPlaces (t : Tables) : Type 0 where
  pub some_entries : 1 ≤ t.entries
  pub few_queues : length t.queues ≤ 65
  pub commands : AllByRecursion (IsPlaced t.entries (length t.queues)) t.records

-- Queue 0 is there, no identifier of a queue is outstanding twice, and the claimed ones are those outstanding.
pub record HasClaims (t : Tables) : Type 0 where
  pub some_queues : 0 < length t.queues
  pub differ : IdentifiersDiffer (view_of t).host
  pub claims : ClaimIdentifiers t.records t.queues

-- What a queue owns of a half are the pages of the half, and none where it does not have the half.
pub record ListsHalf (t : Tables) (q : ℕ) (half : Half) : Type 0 where
  pub queue : Queue
  pub at : slice_get t.queues q ≡ Some queue
  pub entries : queue.host.entries ≡ t.entries
  pub lists : ListsAll (is_half q half) t.owners (half_of half queue)

-- The same holds of all queues, and no other queue owns a page.
pub record ListHalves (t : Tables) : Type 0 where
  pub few_queues : length t.queues ≤ 65
  pub inside : (p q : ℕ) (half : Half) → owner_at t.owners p ≡ Some (owner.Queue q half) → q < length t.queues
  pub each : (q : ℕ) → q < length t.queues → (half : Half) → ListsHalf t q half
