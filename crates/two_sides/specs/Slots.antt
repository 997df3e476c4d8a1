-- A queue's slots by the list of its pages, and in memory: where the pages are consecutive, as a queue's are, both tell the same.
use Rattle.std.specs.Prelude.{◌≡◌, ℕ, ◌*◌, ◌<◌, List, Some, length}
use Rattle.page_ledger.specs.Owners.{pages_from}
use Rattle.page_memory.specs.{Memory.written, Pages.{Pages, page_at, byte_at, with_page_bytes, AreWhole}}
use Rattle.queue_pair.specs.Memory.{submission_page, completion_page, submission_slot, completion_slot, submission_place, completion_place}
use Rattle.machine_model.specs.Refusals.{slot_page, slot_offset, slot_bytes}

-- the page of a slot
abbrev pub entries_lie_in_pages : Type 0
entries_lie_in_pages = (sq pages slot : ℕ) → slot < 64 * pages → slot_page (pages_from sq pages) 64 slot ≡ submission_page sq slot

abbrev pub completions_lie_in_pages : Type 0
completions_lie_in_pages = (cq pages slot : ℕ) → slot < 256 * pages → slot_page (pages_from cq pages) 16 slot ≡ completion_page cq slot

-- its bytes, or nothing where that page is out
abbrev pub entries_stand_in_memory : Type 0
entries_stand_in_memory =
    (m : Pages) (sq pages slot : ℕ) → AreWhole m → slot < 64 * pages → slot_bytes m (pages_from sq pages) 64 slot ≡ submission_slot (byte_at m) sq slot

abbrev pub completions_stand_in_memory : Type 0
completions_stand_in_memory =
    (m : Pages) (cq pages slot : ℕ) → AreWhole m → slot < 256 * pages → slot_bytes m (pages_from cq pages) 16 slot ≡ completion_slot (byte_at m) cq slot

-- and what a post to it makes of the memory
abbrev pub entries_are_written : Type 0
entries_are_written =
    (m : Pages) (sq pages slot : ℕ) (page bytes : List ℕ) → slot < 64 * pages → page_at m (submission_page sq slot) ≡ Some page → length page ≡ 4096 → length bytes ≡ 64
    → byte_at (with_page_bytes m (slot_page (pages_from sq pages) 64 slot) (slot_offset 64 slot) bytes) ≡ written (byte_at m) (submission_place sq slot) bytes

abbrev pub completions_are_written : Type 0
completions_are_written =
    (m : Pages) (cq pages slot : ℕ) (page bytes : List ℕ) → slot < 256 * pages → page_at m (completion_page cq slot) ≡ Some page → length page ≡ 4096 → length bytes ≡ 16
    → byte_at (with_page_bytes m (slot_page (pages_from cq pages) 16 slot) (slot_offset 16 slot) bytes) ≡ written (byte_at m) (completion_place cq slot) bytes
