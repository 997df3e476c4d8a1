-- The host posts an entry.
use Rattle.std.specs.Prelude.{◌≡◌, ℕ, ◌<◌, ◌+◌, ◌/◌, ◌%◌, List, false, Some, IsSome, length, slice_get, true}
use Rattle.entry_codec.specs.{Submission.{submission_bytes, FitsSubmission}, declared.submission.SubEntry.SubEntry}
use Rattle.machine_model.specs.{After.change, Refusals.has_sq}
use Rattle.page_memory.specs.{Pages.{IsPool, page_at, with_page_bytes}, declared.page.Half.TheVariants.Submission}
use Rattle.queue_pair.specs.{Memory.{half_pages, submission_place}, Rings.next_tail, Slots.is_full}
use Rattle.host_core.specs.{Rows.Queue, Tables.Tables, Whole.AreQueues}

-- the tables with these bytes in memory, starting at an address, all in one page
abbrev pub overwritten : ℕ → List ℕ → Tables → Tables
overwritten place bytes t = record t { pages = with_page_bytes t.pages (place / 4096) (place % 4096) bytes }

-- a queue whose tail moved on
abbrev pub with_tail_moved : Queue → Queue
with_tail_moved queue = record queue { host = record queue.host { ring = next_tail queue.host.entries queue.host.ring } }

-- where the host's next entry goes
abbrev pub tail_place : Queue → ℕ
tail_place queue = submission_place queue.host.sq queue.host.ring.tail

-- the tables with an entry posted at the tail of a queue
abbrev pub posted : ℕ → Queue → SubEntry → Tables → Tables
posted q queue entry t = record (overwritten (tail_place queue) (submission_bytes entry) t) { queues = change q with_tail_moved t.queues }

-- An entry can be posted: the queue has its submission half, which is in, there is room, and the entry fits its slot.
pub record CanPost (t : Tables) (q : ℕ) (queue : Queue) (entry : SubEntry) : Type 0 where
  pub at : slice_get t.queues q ≡ Some queue
  pub kept : has_sq queue.state ≡ true
  pub room : is_full queue.host.entries queue.host.ring.known_head queue.host.ring.tail ≡ false
  pub sgl1 : length entry.sgl1 ≡ 16
  pub fits : FitsSubmission entry
  pub pool : IsPool t.pages
  pub inside : (k : ℕ) → k < half_pages queue.host.entries Submission → IsSome (page_at t.pages (queue.host.sq + k))
  pub queues : AreQueues t.entries t.queues

-- the same of a queue by its number, and what is left then
abbrev pub CanPostTo : Tables → ℕ → SubEntry → Type 0
CanPostTo t q entry = (queue : Queue) → slice_get t.queues q ≡ Some queue → CanPost t q queue entry

abbrev pub Posts : Tables → ℕ → SubEntry → Tables → Type 0
Posts t q entry new = (queue : Queue) → slice_get t.queues q ≡ Some queue → new ≡ posted q queue entry t
