-- The parts of a data transfer, and where each of its bytes goes to or comes from.
use Rattle.std.specs.{List.range_with_len, Prelude.{◌+◌, [], ◌∷◌, ℕ, List, map, replicate, flat_map}}
use Rattle.sgl_descriptor.specs.declared.{Descriptor.{Descriptor, TheVariants.{DataBlock, BitBucket, Segment, LastSegment}}, Direction.Direction}
use Rattle.sgl_descriptor.specs.declared.{Direction.TheVariants.{Destination, Source}, Part.{Part, TheVariants.{Data, Bucket}}}

-- the descriptor of a part: a Data Block or a Bit Bucket
abbrev pub descriptor_of_part : Part → Descriptor
descriptor_of_part (Data addr len) = DataBlock addr len
descriptor_of_part (Bucket len) = BitBucket len

-- how many bytes a descriptor counts: a Bit Bucket counts only for a destination, and a link never
abbrev pub counted : Direction → Descriptor → ℕ
counted dir (DataBlock addr len) = len
counted Destination (BitBucket len) = len
counted Source (BitBucket len) = 0
counted dir (Segment addr len) = 0
counted dir (LastSegment addr len) = 0

-- how many bytes parts count together
abbrev pub counted_in : Direction → List Part → ℕ
counted_in dir [] = 0
counted_in dir (part ∷ parts) = counted dir (descriptor_of_part part) + counted_in dir parts

-- where a counted byte goes to or comes from: its address in memory, or nowhere
pub data Target : Type 0 where
  Place : ℕ → Target
  Discarded : Target

-- A Bit Bucket discards what a destination gets, and gives a source nothing.
abbrev pub targets_of_part : Direction → Part → List Target
targets_of_part dir (Data addr len) = map (λ place. Place place) (range_with_len addr len)
targets_of_part Destination (Bucket len) = replicate len Discarded
targets_of_part Source (Bucket len) = []

-- one item for each counted byte, in order
abbrev pub targets : Direction → List Part → List Target
targets dir parts = flat_map (targets_of_part dir) parts
