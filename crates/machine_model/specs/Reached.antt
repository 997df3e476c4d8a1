-- What the list of a command makes its walk do, where memory spells the command's parts from the list's first descriptor.
use Rattle.std.specs.List.{list_all, AllByRecursion}
use Rattle.std.specs.Prelude.{◌≡◌, ◌<◌, ◌≤◌, ◌+◌, ◌%◌, ◌^◌, ◌||◌, ℕ, Bool, true, false, Some, None, List, is_some, if◌then◌else◌}
use Rattle.page_ledger.specs.Owners.{is_among}
use Rattle.page_memory.specs.Memory.{Memory, page_of}
use Rattle.sgl_descriptor.specs.{Spelling.descriptor_of, declared.{Descriptor.Descriptor, Part.{Part, TheVariants.{Data, Bucket}}}}
use Rattle.sgl_chain.specs.Spells.{Spells}
use Rattle.controller_walk.specs.{Laws.{ReadsWithin, MovesOutside}, Units.{Act, Stays, Reads, Moves, Course, Closes, Does, touched, units}}

-- only the bytes of a memory at some addresses
abbrev pub only : (ℕ → Bool) → Memory → Memory
only at m place = if at place then m place else None

-- the addresses of some pages
abbrev pub on_pages : List ℕ → ℕ → Bool
on_pages pages place = is_among pages (page_of place)

-- each byte of a part that has an address lies at some addresses
abbrev pub LiesIn : (ℕ → Bool) → Part → Type 0
LiesIn at (Data addr len) = (k : ℕ) → k < len → at (addr + k) ≡ true
LiesIn at (Bucket len) = Unit {0}

-- A unit reads a descriptor at the first addresses, or moves one byte or more at the second addresses, all in one page.
abbrev pub ActIn : (chain own : ℕ → Bool) → Act → Type 0
ActIn chain own Stays = Unit {0}
ActIn chain own (Reads place) = (k : ℕ) → k < 16 → chain (place + k) ≡ true
ActIn chain own (Moves place n offset) = (0 < n) × (place % 4096 + n ≤ 4096) × ((k : ℕ) → k < n → own (place + k) ≡ true)

-- so does each unit of a course
abbrev pub CourseIn : (chain own : ℕ → Bool) → Course → Type 0
CourseIn chain own (Closes v) = Unit {0}
CourseIn chain own (Does a rest) = ActIn chain own a × CourseIn chain own rest

-- A list whose segments lie in chain pages and spell parts that lie in data pages: the walk reads in the one and moves in the other.
pub record IsListIn (chain_pages data_pages : List ℕ) (m : Memory) (sgl1 : List ℕ) (parts : List Part) : Type 0 where
  pub first : Descriptor
  pub spelled : descriptor_of sgl1 ≡ Some first
  pub spells : Spells (only (on_pages chain_pages) m) first parts
  pub parts_lie : AllByRecursion (LiesIn (on_pages data_pages)) parts

-- what a walk of such a list does, where no page is of both kinds
pub record KeepsToPages (chain_pages data_pages : List ℕ) (c : Course) : Type 0 where
  pub reads : ReadsWithin (on_pages chain_pages) c
  pub moves : MovesOutside (on_pages chain_pages) c
  pub units_in : CourseIn (on_pages chain_pages) (on_pages data_pages) c
  pub touches : AllByRecursion (λ a. list_all (λ p. is_among chain_pages p || is_among data_pages p) (touched a) ≡ true) (units c)

abbrev pub AreApart : (chain_pages data_pages : List ℕ) → Type 0
AreApart chain_pages data_pages = (p : ℕ) → is_among data_pages p ≡ true → is_among chain_pages p ≡ false

-- the bytes of a part are there, below 2 ^ 64
abbrev pub IsThere : Memory → Part → Type 0
IsThere m (Data addr len) = (addr + len ≤ 2 ^ 64) × ((k : ℕ) → k < len → is_some (m (addr + k)) ≡ true)
IsThere m (Bucket len) = len ≤ 2 ^ 64
