-- What a walk of a list in the pool reads, moves and ends with.
use Rattle.std.specs.{List.AllByRecursion, Prelude.{◌≡◌, ◌<◌, ◌≤◌, ◌^◌, ℕ, true, Some, List, is_some, take}}
use Rattle.entry_codec.specs.declared.status.TheConstants.Status.{DATA_SGL_LENGTH_INVALID}
use Rattle.page_memory.specs.{Memory.Memory, Pages.{Pages, byte_at, AreWhole}}
use Rattle.sgl_descriptor.specs.{Spelling.descriptor_of, Targets.{counted_in, targets}, declared.{Descriptor.Descriptor, Direction.Direction, Part.Part}}
use Rattle.sgl_chain.specs.Spells.{Spells}
use Rattle.controller_walk.specs.{Along.parts_of_list, Units.{course_of_list, verdict_of_list}, declared.walk.WalkState.TheVariants.{End, Fault}}
use Rattle.machine_model.specs.{Memory.memory_of, Reached.{IsListIn, KeepsToPages, AreApart, IsThere}}

abbrev pub lists_keep_to_their_pages : Type 0
lists_keep_to_their_pages =
    (chain_pages data_pages : List ℕ) (m : Memory) (sgl1 : List ℕ) (parts : List Part) (dir : Direction) (need : ℕ)
    → AreApart chain_pages data_pages → IsListIn chain_pages data_pages m sgl1 parts → KeepsToPages chain_pages data_pages (course_of_list m sgl1 dir need)

-- A list whose parts are there and count exactly the bytes that are moved ends well, and the parts that are taken have the targets of its
-- parts, byte for byte: how they are cut, and that empty ones after the last byte are omitted, is the walk's own.
abbrev pub lists_end_well : Type 0
lists_end_well =
    (m : Memory) (sgl1 : List ℕ) (first : Descriptor) (parts : List Part) (dir : Direction) (need : ℕ)
    → ((place : ℕ) → is_some (m place) ≡ true → place < 2 ^ 64) → descriptor_of sgl1 ≡ Some first → Spells m first parts → AllByRecursion (IsThere m) parts → counted_in dir parts ≡ need
    → (verdict_of_list m sgl1 dir need ≡ End)
    × (targets dir (parts_of_list m sgl1 dir need) ≡ targets dir parts)

-- Its parts may count more: then what is taken has the first of its targets, one for each byte that is moved.
abbrev pub long_lists_end_well : Type 0
long_lists_end_well =
    (m : Memory) (sgl1 : List ℕ) (first : Descriptor) (parts : List Part) (dir : Direction) (need : ℕ)
    → ((place : ℕ) → is_some (m place) ≡ true → place < 2 ^ 64) → descriptor_of sgl1 ≡ Some first → Spells m first parts → AllByRecursion (IsThere m) parts → need ≤ counted_in dir parts
    → (verdict_of_list m sgl1 dir need ≡ End)
    × (targets dir (parts_of_list m sgl1 dir need) ≡ take need (targets dir parts))

-- They may count less: then the list ends for lack of a byte.
abbrev pub short_lists_end : Type 0
short_lists_end =
    (m : Memory) (sgl1 : List ℕ) (first : Descriptor) (parts : List Part) (dir : Direction) (need : ℕ)
    → ((place : ℕ) → is_some (m place) ≡ true → place < 2 ^ 64) → descriptor_of sgl1 ≡ Some first → Spells m first parts → AllByRecursion (IsThere m) parts → counted_in dir parts < need
    → verdict_of_list m sgl1 dir need ≡ Fault DATA_SGL_LENGTH_INVALID

-- where each page that is in is whole, that is the memory of the pool
abbrev pub walks_read_the_pool : Type 0
walks_read_the_pool = (pages : Pages) (place : ℕ) → AreWhole pages → memory_of pages place ≡ byte_at pages place

-- so a list has one course in both
abbrev pub walks_go_as_in_the_pool : Type 0
walks_go_as_in_the_pool =
    (pages : Pages) (sgl1 : List ℕ) (dir : Direction) (need : ℕ) → AreWhole pages → course_of_list (memory_of pages) sgl1 dir need ≡ course_of_list (byte_at pages) sgl1 dir need
