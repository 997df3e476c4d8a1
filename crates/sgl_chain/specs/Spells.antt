-- What an SGL says: the parts that a descriptor spells over a memory, by whole segments that are there
-- (NVM Express Base Specification 2.0, "Scatter Gather List (SGL)", section 4.1.2).
use Rattle.std.specs.Prelude.{◌≡◌, ◌≤◌, ◌<◌, ◌+◌, ◌*◌, ◌%◌, ◌++◌, ◌∷◌, [], ℕ, List, Some, length, slice_index, map}
use Rattle.sgl_descriptor.specs.{Spelling.{IsSpelling, IsLink}, Targets.descriptor_of_part, declared.Descriptor.Descriptor}
use Rattle.sgl_descriptor.specs.declared.{Descriptor.TheVariants.{DataBlock, BitBucket, Segment, LastSegment}, Part.{Part, TheVariants.{Data, Bucket}}}
use Rattle.page_memory.specs.Memory.{Memory, bytes_at}
use Rattle.sgl_chain.specs.Chains.{Sgl, segment_bytes}

-- The bytes starting at an address spell the descriptors, 16 bytes each, whatever their reserved bytes are.
abbrev pub Stand : Memory → ℕ → List Descriptor → Type 0
Stand m place [] = Unit {0}
Stand m place (d ∷ descriptors) = ((bytes : List ℕ) × (bytes_at m place 16 ≡ Some bytes) × IsSpelling d bytes) × Stand m (place + 16) descriptors

-- One or more descriptors are at an address, a multiple of 8, in this many bytes.
abbrev pub IsSegment : Memory → ℕ → ℕ → List Descriptor → Type 0
IsSegment m addr len descriptors = (addr % 8 ≡ 0) × (0 < len) × (len ≡ 16 * length descriptors) × Stand m addr descriptors

-- A descriptor and the segments after it spell parts. A Data Block or a Bit Bucket is one part, with no segment
-- after it. All but the last descriptor of a segment are parts, in order. The last one is a link where a Segment
-- descriptor names the segment, and spells the rest. It is a part where a Last Segment descriptor names it.
abbrev pub SpellsBy : Memory → Descriptor → List (List Descriptor) → List Part → Type 0
SpellsBy m (DataBlock addr len) [] parts = parts ≡ Data addr len ∷ []
SpellsBy m (BitBucket len) [] parts = parts ≡ Bucket len ∷ []
SpellsBy m (LastSegment addr len) (descriptors ∷ []) parts =
    IsSegment m addr len descriptors × (descriptors ≡ map descriptor_of_part parts)
SpellsBy m (Segment addr len) (descriptors ∷ segments) parts =
    IsSegment m addr len descriptors ×
    ((front : List Part) × (last : Descriptor) × (rest : List Part) ×
    (descriptors ≡ map descriptor_of_part front ++ last ∷ []) × IsLink last × (parts ≡ front ++ rest) × SpellsBy m last segments rest)
SpellsBy m _ _ parts = ⊥

-- how many descriptors the segments hold
abbrev pub descriptors_in : List (List Descriptor) → ℕ
descriptors_in [] = 0
descriptors_in (descriptors ∷ segments) = length descriptors + descriptors_in segments

-- A descriptor spells parts over a memory, by whole segments there. With it there are at most 4,096 descriptors (own).
abbrev pub Spells : Memory → Descriptor → List Part → Type 0
Spells m d parts = (segments : List (List Descriptor)) × (1 + descriptors_in segments ≤ 4096) × SpellsBy m d segments parts

-- These bytes are in a memory, starting at an address.
abbrev pub Holds : Memory → ℕ → List ℕ → Type 0
Holds m place bytes = (k : ℕ) → k < length bytes → m (place + k) ≡ Some (slice_index bytes k)

-- Each segment is laid in its page: its bytes start at the page's first address.
abbrev pub IsLaid : Memory → List ℕ → List (List Descriptor) → Type 0
IsLaid m (page ∷ pages) (descriptors ∷ segments) = Holds m (4096 * page) (segment_bytes descriptors) × IsLaid m pages segments
IsLaid m pages [] = Unit {0}
IsLaid m [] (descriptors ∷ segments) = ⊥

-- Wherever the segments are laid in these pages, the first descriptor spells the parts.
abbrev pub SpellsWhereLaid : List ℕ → Sgl → List Part → Type 0
SpellsWhereLaid pages sgl parts = (m : Memory) → IsLaid m pages sgl.segments → Spells m sgl.first parts
