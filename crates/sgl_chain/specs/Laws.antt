-- What holds of every chain.
use Rattle.std.specs.Prelude.{◌≡◌, ◌↔◌, ◌≤◌, ◌<◌, ◌*◌, ◌^◌, ℕ, List, Some, All, length, slice_index}
use Rattle.sgl_descriptor.specs.{Spelling.Fits, Targets.descriptor_of_part, declared.{Descriptor.Descriptor, Part.Part}}
use Rattle.page_memory.specs.{Memory.Memory, Pages.{Pages, page_at, byte_at, with_bytes}}
use Rattle.sgl_chain.specs.Chains.{Sgl, pages_needed, first_of, segments_on, segment_at, segment_bytes, parts_of}
use Rattle.sgl_chain.specs.Spells.{Spells, SpellsWhereLaid, Holds, IsLaid}

-- One part or more, with a segment size of 2 to 256 descriptors and as many pages as the segments need.
pub record HasPages (s : ℕ) (pages : List ℕ) (parts : List Part) : Type 0 where
  pub low : 2 ≤ s
  pub high : s ≤ 256
  pub some : 0 < length parts
  pub needed : length pages ≡ pages_needed (length parts) s

-- the chain of parts, with a segment on each page
abbrev pub chain_of : ℕ → List ℕ → List Part → Sgl
chain_of s pages parts = record { first = first_of s pages parts; segments = segments_on s pages parts }

-- Page numbers and the fields of parts fit their types.
pub record AreTyped (pages : List ℕ) (parts : List Part) : Type 0 where
  pub pages_fit : All (λ page. page < 2 ^ 32) pages
  pub parts_fit : All (λ part. Fits (descriptor_of_part part)) parts

-- The segments of 1 to 1,024 parts, laid in their pages, spell these parts from SGL1.
abbrev pub LaidChainsSpell : ℕ → Type 0
LaidChainsSpell s = (pages : List ℕ) (parts : List Part) → HasPages s pages parts → AreTyped pages parts → length parts ≤ 1024 →
    SpellsWhereLaid pages (chain_of s pages parts) parts

-- A descriptor spells at most one list of parts.
abbrev pub OneList : Memory → Type 0
OneList m = (d : Descriptor) (parts others : List Part) → Spells m d parts → Spells m d others → parts ≡ others

-- A memory has each byte of another, and perhaps more.
abbrev pub HasBytesOf : Memory → Memory → Type 0
HasBytesOf larger m = (place byte : ℕ) → m place ≡ Some byte → larger place ≡ Some byte

-- What is spelled over a memory is spelled over every memory that has its bytes.
abbrev pub SpelledInMore : Memory → Memory → Type 0
SpelledInMore m larger = HasBytesOf larger m → (d : Descriptor) (parts : List Part) → Spells m d parts → Spells larger d parts

-- The parts of a chain are those that it is built of.
abbrev pub PartsComeBack : ℕ → Type 0
PartsComeBack s = (pages : List ℕ) (parts : List Part) → HasPages s pages parts → parts_of (chain_of s pages parts) ≡ parts

-- Where a page of the pool is what laying a segment made of it, the memory holds the segment's bytes starting at the page's
-- first address.
abbrev pub PagesHoldSegments : Pages → Type 0
PagesHoldSegments pages = (p : ℕ) (page : List ℕ) (descriptors : List Descriptor) →
    page_at pages p ≡ Some (with_bytes page 0 (segment_bytes descriptors)) → Holds (byte_at pages) (4096 * p) (segment_bytes descriptors)

-- Segments are laid in their pages exactly where the memory holds the bytes of each, by its index among them, in the page at that index.
abbrev pub LaidByNumber : Memory → Type 0
LaidByNumber m = (pages : List ℕ) (segments : List (List Descriptor)) → length segments ≤ length pages →
    (IsLaid m pages segments) ↔ ((i : ℕ) → i < length segments → Holds m (4096 * slice_index pages i) (segment_bytes (segment_at segments i)))
