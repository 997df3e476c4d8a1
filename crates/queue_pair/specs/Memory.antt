-- The slots of a queue's halves in memory. A submission slot has 64 bytes and a completion slot 16, and each half begins
-- at a page, so that no slot lies in two pages.
use Rattle.std.specs.{Bool.beq, Prelude.{ℕ, ◌+◌, ◌*◌, ◌/◌, Bool, List, Option, Some, None, option_map, option_and_then, if◌then◌else◌}}
use Rattle.page_memory.specs.{Memory.{Memory, bytes_at}, declared.page.Half.{Half, TheVariants.{Submission, Completion}}}
use Rattle.entry_codec.specs.{Completion.completion_of, Submission.submission_of, declared.{completion.ComEntry.ComEntry, submission.SubEntry.SubEntry}}

-- the first address of a slot of a half that begins at a page
abbrev pub submission_place : ℕ → ℕ → ℕ
submission_place sq slot = 4096 * sq + 64 * slot

abbrev pub completion_place : ℕ → ℕ → ℕ
completion_place cq slot = 4096 * cq + 16 * slot

-- the one page that has the slot
abbrev pub submission_page : ℕ → ℕ → ℕ
submission_page sq slot = sq + slot / 64

abbrev pub completion_page : ℕ → ℕ → ℕ
completion_page cq slot = cq + slot / 256

-- how many pages a half of n entries has
abbrev pub half_pages : ℕ → Half → ℕ
half_pages n Submission = (n + 63) / 64
half_pages n Completion = (n + 255) / 256

-- the bytes of a slot, or nothing where its page is out
abbrev pub submission_slot : Memory → ℕ → ℕ → Option (List ℕ)
submission_slot m sq slot = bytes_at m (submission_place sq slot) 64

abbrev pub completion_slot : Memory → ℕ → ℕ → Option (List ℕ)
completion_slot m cq slot = bytes_at m (completion_place cq slot) 16

-- the entry in a slot, whatever its bytes are, or nothing where its page is out
abbrev pub entry_at : Memory → ℕ → ℕ → Option SubEntry
entry_at m sq slot = option_map submission_of (submission_slot m sq slot)

abbrev pub completion_at : Memory → ℕ → ℕ → Option ComEntry
completion_at m cq slot = option_map completion_of (completion_slot m cq slot)

-- the completion in a slot, where its phase is the expected one
abbrev pub with_phase : Bool → ComEntry → Option ComEntry
with_phase phase entry = if beq entry.phase phase then Some entry else None

abbrev pub new_completion_at : Memory → ℕ → ℕ → Bool → Option ComEntry
new_completion_at m cq slot phase = option_and_then (with_phase phase) (completion_at m cq slot)

-- a completion with the phase of its posting
abbrev pub phased : Bool → ComEntry → ComEntry
phased phase entry = record entry { phase = phase }

-- the offset of a doorbell of queue q, with a doorbell stride of 0
abbrev pub doorbell_offset : ℕ → Half → ℕ
doorbell_offset q Submission = 0x1000 + 8 * q
doorbell_offset q Completion = 0x1000 + 8 * q + 4
