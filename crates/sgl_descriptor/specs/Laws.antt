-- What holds of every spelling and of all targets.
use Rattle.std.specs.Prelude.{◌≡◌, ◌↔◌, ◌<◌, ◌+◌, ◌++◌, ℕ, List, Some, length, slice_index}
use Rattle.sgl_descriptor.specs.Spelling.{IsSpelling, spelling, descriptor_of, HasValidType, HasInvalidType, AgreeOutsideReserved}
use Rattle.sgl_descriptor.specs.{Targets.{targets, counted_in}, declared.{Descriptor.Descriptor, Direction.Direction, Part.Part}}

-- 16 bytes
pub record IsSixteenBytes (bytes : List ℕ) : Type 0 where
  pub sixteen : length bytes ≡ 16
  pub small : (i : ℕ) → slice_index bytes i < 256

-- What is written is 16 bytes, which spell the descriptor and are read as it.
pub record RoundTrip (d : Descriptor) : Type 0 where
  pub written : IsSixteenBytes (spelling d)
  pub spelled : IsSpelling d (spelling d)
  pub read : descriptor_of (spelling d) ≡ Some d

-- Bytes spell the descriptor that they are read as, and no other.
pub record OneSpelling (bytes : List ℕ) : Type 0 where
  pub found : (d : Descriptor) → IsSpelling d bytes → descriptor_of bytes ≡ Some d
  pub spelled : (d : Descriptor) → descriptor_of bytes ≡ Some d → IsSpelling d bytes

-- Two strings are read alike exactly where they agree outside the reserved bytes, or where both have an invalid type.
pub record ReadAlike (a b : List ℕ) : Type 0 where
  pub valid : HasValidType a → (descriptor_of a ≡ descriptor_of b) ↔ AgreeOutsideReserved a b
  pub invalid : HasInvalidType a → (descriptor_of a ≡ descriptor_of b) ↔ HasInvalidType b

-- The targets of joined parts are those of the first and then those of the others, and the bytes that they count add up.
pub record TargetsJoin (dir : Direction) (a b : List Part) : Type 0 where
  pub joined : targets dir (a ++ b) ≡ targets dir a ++ targets dir b
  pub counted : counted_in dir (a ++ b) ≡ counted_in dir a + counted_in dir b
