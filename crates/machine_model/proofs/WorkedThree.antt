-- The draft of three pieces and its segments in memory, computed.
use Rattle.std.proofs.Common.{refl, [], ◌∷◌, lit≤, lit<}
use Rattle.page_memory.specs.{Memory.bytes_at, Pages.{byte_at, zero_page}}
use Rattle.sgl_descriptor.specs.{Spelling.{spelling, descriptor_of}, declared.{Descriptor.TheVariants.{DataBlock, LastSegment}, Part.TheVariants.Data}}
use Rattle.sgl_chain.specs.Spells.{IsSegment}
use Rattle.entry_codec.specs.{Completion.{completion_bytes, completion_of}, Submission.{submission_bytes, submission_of}}
use Rattle.controller_walk.specs.Units.{moving, from_place}
use Rattle.machine_model.specs.{Script.left_by, WorkedChains.{small_segments, two_segments}, WorkedLaws.{IsBuiltOfThree, SegmentsNamed, segments_of_three}}

pub is_built : IsBuiltOfThree
unfolding zero_page
is_built = record { good = refl; low = lit≤ tt; high = lit≤ tt; pieces_have_pages = refl; chain_has_pages = refl; built = refl }

front_segment : IsSegment (byte_at (left_by small_segments two_segments).world.memory) 28672 32 (DataBlock 16384 512 ∷ LastSegment 32768 32 ∷ [])
unfolding zero_page bytes_at descriptor_of submission_bytes submission_of completion_bytes completion_of moving from_place
front_segment = (refl, lit< tt, refl, ((spelling (DataBlock 16384 512), refl, (refl, refl, refl)), ((spelling (LastSegment 32768 32), refl, (refl, refl, refl)), tt)))

last_segment : IsSegment (byte_at (left_by small_segments two_segments).world.memory) 32768 32 (DataBlock 20480 512 ∷ DataBlock 24576 512 ∷ [])
unfolding zero_page bytes_at descriptor_of submission_bytes submission_of completion_bytes completion_of moving from_place
last_segment = (refl, lit< tt, refl, ((spelling (DataBlock 20480 512), refl, (refl, refl, refl)), ((spelling (DataBlock 24576 512), refl, (refl, refl, refl)), tt)))

pub segments_are_named : SegmentsNamed
segments_are_named = (
  segments_of_three,
  lit≤ tt,
  (front_segment, (Data 16384 512 ∷ [], LastSegment 32768 32, Data 20480 512 ∷ Data 24576 512 ∷ [], refl, refl, refl, (last_segment, refl))),
)
