-- A host as it opens: the halves of its queues are its lowest pages, one queue's after the other's, and all pages after them are free.
use Rattle.std.specs.Prelude.{◌≡◌, ◌⊎◌, ℕ, ◌+◌, ◌-◌, ◌*◌, ◌<◌, ◌≤◌, false, Option, Some, None, List, [], length, map, replicate}
use Rattle.machine_model.specs.{Opening.{opening, open_refusal}, declared.words.{Peer.Peer, HostState.TheVariants.Live, OpenRefusal.{OpenRefusal, TheVariants.Memory}}}
use Rattle.page_ledger.specs.{Owners.{is_free, is_owned_at, owner_at, pages_from}, declared.owner.Owner.Owner}
use Rattle.page_memory.specs.{Pages.{Pages, zero_page}, declared.page.Half.TheVariants.{Submission, Completion}}
use Rattle.queue_pair.specs.{Memory.half_pages, Rings.{fresh_host_ring, none_claimed}}
use Rattle.host_core.specs.{Alone.HostView, Rows.Queue, Tables.Tables, declared.config.Config.Config}
use Rattle.page_ledger.specs.declared.owner.Owner.TheVariants as owner

-- the refusal of a configuration
abbrev pub refusal_of_config : Config → Option OpenRefusal
refusal_of_config c = open_refusal c.pages c.queues c.entries c.segment

-- the host of the machine that it opens, except that it speaks to this peer, and its pages
abbrev pub opened_view : Config → Peer → HostView
opened_view c peer =
    record { entries = c.entries; segment = c.segment; host = record (opening c.pages c.queues c.entries c.segment []).host { peer = peer } }

abbrev pub opened_pages : Config → Pages
opened_pages c = (opening c.pages c.queues c.entries c.segment []).memory

-- a configuration is refused for its fault, or, where it has none, for want of memory
abbrev pub RefusesOpening : Config → OpenRefusal → Type 0
RefusesOpening c why = (refusal_of_config c ≡ Some why) ⊎ ((why ≡ Memory) × (refusal_of_config c ≡ None))

-- where the halves of a queue begin, if submission halves have a pages and completion halves b
abbrev pub sq_from : ℕ → ℕ → ℕ → ℕ
sq_from a b q = q * (a + b)

abbrev pub cq_from : ℕ → ℕ → ℕ → ℕ
cq_from a b q = sq_from a b q + a

-- a queue of n entries as it opens
abbrev pub fresh_at : ℕ → ℕ → ℕ → ℕ → Queue
fresh_at n sq cq q =
    record {
      state = Live;
      host = record { q = q; entries = n; sq = sq; cq = cq; ring = fresh_host_ring; claimed = none_claimed (n - 1) };
    }

abbrev pub fresh_queue : ℕ → ℕ → Queue
fresh_queue n q =
    fresh_at n (sq_from (half_pages n Submission) (half_pages n Completion) q) (cq_from (half_pages n Submission) (half_pages n Completion) q) q

abbrev pub fresh_queues : ℕ → ℕ → List Queue
fresh_queues n count = map (fresh_queue n) (pages_from 0 count)

-- All pages starting at a given one are free, and none before it.
pub record IsFreeFrom (base : ℕ) (owners : List Owner) : Type 0 where
  pub used : (p : ℕ) → p < base → is_owned_at is_free owners p ≡ false
  pub free : (p : ℕ) → base ≤ p → p < length owners → owner_at owners p ≡ Some owner.Free

-- The halves of this many queues have their owners, and all pages after them are free.
pub record AreGranted (a b count : ℕ) (owners : List Owner) : Type 0 where
  pub submission : (q p : ℕ) → q < count → sq_from a b q ≤ p → p < sq_from a b q + a → owner_at owners p ≡ Some (owner.Queue q Submission)
  pub completion : (q p : ℕ) → q < count → cq_from a b q ≤ p → p < cq_from a b q + b → owner_at owners p ≡ Some (owner.Queue q Completion)
  pub rest : IsFreeFrom (sq_from a b count) owners

abbrev pub HalvesGranted : ℕ → ℕ → List Owner → Type 0
HalvesGranted n count owners = AreGranted (half_pages n Submission) (half_pages n Completion) count owners

-- the tables of a host as it opens
abbrev pub opened : Config → Peer → List Owner → Tables
opened c peer owners =
    record {
      entries = c.entries;
      segment = c.segment;
      peer = peer;
      pages = replicate c.pages (Some zero_page);
      owners = owners;
      record_queues = c.queues + 1;
      record_places = c.entries - 1;
      records = [];
      queues = fresh_queues c.entries (c.queues + 1);
    }
