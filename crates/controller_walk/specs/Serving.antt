-- What of a memory a course depends on: the descriptors that it reads, and that no byte is missing where it moves. Of all other
-- bytes, and of whether they are missing, it knows nothing, unless it ends for want of a byte.
use Rattle.std.specs.Prelude.{◌≡◌, ◌≢◌, ℕ, List, true, is_some}
use Rattle.entry_codec.specs.declared.status.TheConstants.Status.{DATA_TRANSFER_ERROR}
use Rattle.page_memory.specs.Memory.{Memory, bytes_at}
use Rattle.sgl_descriptor.specs.declared.Direction.{Direction}
use Rattle.controller_walk.specs.{Units.{Stays, Reads, Moves, Course, Closes, Does, course_of_list}, Walks.course, declared.walk.Walk.Walk}
use Rattle.controller_walk.specs.declared.walk.WalkState.TheVariants.{Fault}

-- Another memory serves a course that one memory gave: at each descriptor that the course reads both have the same bytes, and
-- the other misses none of those that it moves. A course that ended for want of a byte is served by no other memory.
abbrev pub Serves : (m other : Memory) → Course → Type 0
Serves m other (Closes v) = v ≢ Fault DATA_TRANSFER_ERROR
Serves m other (Does Stays rest) = Serves m other rest
Serves m other (Does (Reads place) rest) = (bytes_at other place 16 ≡ bytes_at m place 16) × Serves m other rest
Serves m other (Does (Moves place n offset) rest) = (is_some (bytes_at other place n) ≡ true) × Serves m other rest

-- a memory that serves what a walk has to do gives it the same to do
abbrev pub SameWhereServed : Memory → Memory → Type 0
SameWhereServed m other = (w : Walk) → Serves m other (course m w) → course other w ≡ course m w

-- and a memory that serves a list gives it the same course
abbrev pub SameListWhereServed : Memory → Memory → Type 0
SameListWhereServed m other =
    (sgl1 : List ℕ) (dir : Direction) (need : ℕ) → Serves m other (course_of_list m sgl1 dir need)
    → course_of_list other sgl1 dir need ≡ course_of_list m sgl1 dir need
