-- How the parts of a transfer are cut into segments, one on each page, and how the segments are linked.
use Rattle.std.specs.List.{filter_map, flat_map}
use Rattle.std.specs.Prelude.{◌+◌, ◌-◌, ◌*◌, ◌≤◌, ◌++◌, ◌∷◌, [], ℕ, zero, suc, List, Option, Some, None, if◌then◌else◌, nat_le, length, map, take, drop, slice_get, unwrap_or, All}
use Rattle.sgl_descriptor.specs.{Spelling.{spelling, Fits}, Targets.descriptor_of_part, declared.Descriptor.Descriptor}
use Rattle.sgl_descriptor.specs.declared.{Descriptor.TheVariants.{DataBlock, BitBucket, Segment, LastSegment}, Part.{Part, TheVariants.{Data, Bucket}}}

-- Up to s parts are in one segment. Of more, s - 1 are in the first, and the rest in those after it. The first
-- argument bounds the recursion: there are never more segments than parts.
abbrev pub segments_within : ℕ → ℕ → ℕ → ℕ
segments_within zero k s = 0
segments_within (suc bound) k s = if nat_le k s then 1 else 1 + segments_within bound (k - (s - 1)) s

-- how many pages the segments of k parts need, with up to s descriptors in each: none for one part, which is SGL1 itself
abbrev pub pages_needed : ℕ → ℕ → ℕ
pages_needed k s = if nat_le k 1 then 0 else segments_within k k s

-- the link to the segments of k parts, the first of which is on this page
abbrev pub link : ℕ → ℕ → ℕ → Descriptor
link s page k = if nat_le k s then LastSegment (4096 * page) (16 * k) else Segment (4096 * page) (16 * s)

-- the link to the segments of k parts on these pages
abbrev pub link_to : ℕ → List ℕ → ℕ → List Descriptor
link_to s [] k = []
link_to s (page ∷ pages) k = link s page k ∷ []

-- The segments of parts, one on each page: up to s parts are in one; of more, s - 1 and the link to the rest.
abbrev pub segments_on : ℕ → List ℕ → List Part → List (List Descriptor)
segments_on s [] parts = []
segments_on s (page ∷ pages) parts =
    if nat_le (length parts) s then map descriptor_of_part parts ∷ []
    else (map descriptor_of_part (take (s - 1) parts) ++ link_to s pages (length parts - (s - 1))) ∷ segments_on s pages (drop (s - 1) parts)

-- SGL1 of parts: the descriptor of the one part, where there is no page, or the link to the first segment
abbrev pub first_of : ℕ → List ℕ → List Part → Descriptor
first_of s (page ∷ pages) parts = link s page (length parts)
first_of s [] (part ∷ parts) = descriptor_of_part part
first_of s [] [] = BitBucket 0

-- What one page has room for: at most 256 descriptors. Their fields fit their types.
pub record FitsPage (descriptors : List Descriptor) : Type 0 where
  pub few : length descriptors ≤ 256
  pub fits : All Fits descriptors

-- the fields of all descriptors in segments fit their types
abbrev pub AllFit : List (List Descriptor) → Type 0
AllFit segments = All (λ descriptors. All Fits descriptors) segments

-- a segment, and those after it
pub record Linked : Type 0 where
  pub descriptors : List Descriptor
  pub behind : List (List Descriptor)

-- all segments starting at this one
abbrev pub segments_from : Linked → List (List Descriptor)
segments_from segment = segment.descriptors ∷ segment.behind

-- a chain: SGL1, and the descriptors of each of its segments
pub record Sgl : Type 0 where
  pub first : Descriptor
  pub segments : List (List Descriptor)

-- the descriptors of segment i
abbrev pub segment_at : List (List Descriptor) → ℕ → List Descriptor
segment_at segments i = unwrap_or (slice_get segments i) []

-- the bytes of a segment, 16 for each descriptor
abbrev pub segment_bytes : List Descriptor → List ℕ
segment_bytes descriptors = flat_map spelling descriptors

-- the part that a descriptor is, if it is no link
abbrev pub part_of : Descriptor → Option Part
part_of (DataBlock addr len) = Some (Data addr len)
part_of (BitBucket len) = Some (Bucket len)
part_of (Segment addr len) = None
part_of (LastSegment addr len) = None

-- the parts in segments, in order
abbrev pub parts_in : List (List Descriptor) → List Part
parts_in segments = flat_map (filter_map part_of) segments

-- the parts of a chain: those in its segments, or the one that SGL1 is
abbrev pub parts_from : Descriptor → List (List Descriptor) → List Part
parts_from first [] = filter_map part_of (first ∷ [])
parts_from first (descriptors ∷ segments) = parts_in (descriptors ∷ segments)

abbrev pub parts_of : Sgl → List Part
parts_of sgl = parts_from sgl.first sgl.segments
