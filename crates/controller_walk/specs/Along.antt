-- The bytes that a list moves are those that the targets of its parts name.
use Rattle.std.specs.Prelude.{◌≡◌, ◌<◌, ◌≤◌, ◌⊎◌, ◌+◌, ◌-◌, ◌++◌, [], ◌∷◌, ℕ, List, Option, Some, None, min, slice_get, option_and_then}
use Rattle.page_memory.specs.Memory.{Memory, bytes_at}
use Rattle.sgl_descriptor.specs.{Spelling.descriptor_of, Targets.{Place, targets, counted_in}, declared.Descriptor.Descriptor}
use Rattle.sgl_descriptor.specs.declared.{Descriptor.TheVariants.{DataBlock, BitBucket, Segment, LastSegment}, Direction.Direction, Part.Part}
use Rattle.sgl_descriptor.specs.declared.Part.TheVariants.{Data, Bucket}
use Rattle.controller_walk.specs.Units.{Stays, Reads, Moves, Course, Closes, Does, verdict, course_of_list, verdict_of_list}
use Rattle.controller_walk.specs.declared.walk.WalkState.TheVariants.{End}

-- the descriptor at an address, if 16 bytes there spell one
abbrev pub descriptor_at : Memory → ℕ → Option Descriptor
descriptor_at m place = option_and_then descriptor_of (bytes_at m place 16)

-- how many bytes are still wanted after parts
abbrev pub wanted_behind : Direction → ℕ → List Part → ℕ
wanted_behind dir need parts = need - counted_in dir parts

-- The parts taken so far, with that of one more descriptor, where it is a part: its prefix, as far as bytes are wanted.
abbrev pub taken : Direction → ℕ → List Part → Option Descriptor → List Part
taken dir need parts None = parts
taken dir need parts (Some (DataBlock addr len)) = parts ++ Data addr (min len (wanted_behind dir need parts)) ∷ []
taken dir need parts (Some (BitBucket len)) = parts ++ Bucket (min len (wanted_behind dir need parts)) ∷ []
taken dir need parts (Some (Segment addr len)) = parts
taken dir need parts (Some (LastSegment addr len)) = parts

-- Each byte that a course moves goes to or comes from its target, by the parts taken so far, and where the course ends
-- well its parts count just the bytes that are needed. Only needed bytes are moved, and a descriptor is read only where
-- bytes are still wanted.
abbrev pub MovesAlong : Memory → Direction → ℕ → List Part → Course → Type 0
MovesAlong m dir need parts (Closes v) = v ≡ End → counted_in dir parts ≡ need
MovesAlong m dir need parts (Does Stays rest) = MovesAlong m dir need parts rest
MovesAlong m dir need parts (Does (Reads place) rest) = (counted_in dir parts < need) × MovesAlong m dir need (taken dir need parts (descriptor_at m place)) rest
MovesAlong m dir need parts (Does (Moves place n offset) rest) =
    (offset + n ≤ need) × ((i : ℕ) → i < n → slice_get (targets dir parts) (offset + i) ≡ Some (Place (place + i))) × MovesAlong m dir need parts rest

abbrev pub ListMovesAlong : Memory → List ℕ → Direction → ℕ → Type 0
ListMovesAlong m sgl1 dir need = MovesAlong m dir need (taken dir need [] (descriptor_of sgl1)) (course_of_list m sgl1 dir need)

-- all parts of a course, with those taken before it
abbrev pub parts_taken : Memory → Direction → ℕ → List Part → Course → List Part
parts_taken m dir need parts (Closes v) = parts
parts_taken m dir need parts (Does Stays rest) = parts_taken m dir need parts rest
parts_taken m dir need parts (Does (Reads place) rest) = parts_taken m dir need (taken dir need parts (descriptor_at m place)) rest
parts_taken m dir need parts (Does (Moves place n offset) rest) = parts_taken m dir need parts rest

-- the parts of a list, as far as its walk takes them
abbrev pub parts_of_list : Memory → List ℕ → Direction → ℕ → List Part
parts_of_list m sgl1 dir need = parts_taken m dir need (taken dir need [] (descriptor_of sgl1)) (course_of_list m sgl1 dir need)

-- the byte at an index of the command's bytes is moved
abbrev pub MovesByte : ℕ → Course → Type 0
MovesByte i (Closes v) = ⊥
MovesByte i (Does Stays rest) = MovesByte i rest
MovesByte i (Does (Reads place) rest) = MovesByte i rest
MovesByte i (Does (Moves place n offset) rest) = ((offset ≤ i) × (i < offset + n)) ⊎ MovesByte i rest

-- Where a course ends well, it moves each byte whose target is an address, after those of the parts taken before it.
abbrev pub MovesAll : Memory → Direction → ℕ → List Part → Course → Type 0
MovesAll m dir need parts c =
    verdict c ≡ End → (i p : ℕ) → counted_in dir parts ≤ i → slice_get (targets dir (parts_taken m dir need parts c)) i ≡ Some (Place p) → MovesByte i c

abbrev pub ListMovesAll : Memory → List ℕ → Direction → ℕ → Type 0
ListMovesAll m sgl1 dir need =
    verdict_of_list m sgl1 dir need ≡ End → (i p : ℕ)
    → slice_get (targets dir (parts_of_list m sgl1 dir need)) i ≡ Some (Place p)
    → MovesByte i (course_of_list m sgl1 dir need)
