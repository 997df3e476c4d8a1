-- What a walk still has to do, and what one step does of it.
use Rattle.std.specs.Prelude.{◌≡◌, ◌+◌, ◌-◌, ◌*◌, ◌/◌, ◌++◌, ℕ, Bool, true, false, List, Some, slice_range, take, drop}
use Rattle.sgl_descriptor.specs.{Spelling.descriptor_of, declared.Direction.{Direction, TheVariants.{Destination, Source}}}
use Rattle.page_memory.specs.Memory.{Memory, bytes_at, written}
use Rattle.controller_walk.specs.Units.{Act, Stays, Reads, Moves, touched, Course, Closes, Does, after_read, from_place, rest_of, moving, pages_spanned, entry_cursor}
use Rattle.controller_walk.specs.declared.{progress.State.{State, TheVariants.{First, Next, Data, Over}}, walk.{Walk.Walk, WalkState.WalkState}}
use Rattle.controller_walk.specs.declared.walk.WalkState.TheVariants.{More, End, Fault}

-- how many bytes the command of a walk moves
abbrev pub need_of : Walk → ℕ
need_of w = w.need

-- how many of them the descriptors that were taken have counted
abbrev pub counted_of : Walk → ℕ
counted_of w = w.need - w.wanted

-- which way they go
abbrev pub direction_of : Walk → Direction
direction_of w = w.direction

abbrev pub is_over_in : State → Bool
is_over_in (First sgl1) = false
is_over_in (Next c) = false
is_over_in (Data block after) = false
is_over_in (Over fault) = true

-- whether a walk has answered its verdict
abbrev pub is_over : Walk → Bool
is_over w = is_over_in w.state

abbrev pub course_in : Memory → Walk → State → Course
course_in m w (First sgl1) = Does Stays (after_read m w.direction w.need entry_cursor w.wanted (rest_of w.allowed m w.direction w.need) (descriptor_of sgl1))
course_in m w (Next c) = from_place w.allowed m w.direction w.need c w.wanted
course_in m w (Data block after) = moving m (pages_spanned block.place block.len) block.place block.len block.offset (rest_of w.allowed m w.direction w.need after w.wanted)
course_in m w (Over fault) = Closes End

-- what a walk still has to do in a memory; nothing is left of one that is over
abbrev pub course : Memory → Walk → Course
course m w = course_in m w w.state

abbrev pub is_more : WalkState → Bool
is_more More = true
is_more End = false
is_more (Fault status) = false

abbrev pub IfMore : WalkState → Type 0 → Type 0
IfMore More P = P
IfMore End P = Unit {0}
IfMore (Fault status) P = Unit {0}

-- The step that leaves this course answers More where there is a unit to do, and otherwise the verdict.
abbrev pub answer : Course → WalkState
answer (Closes v) = v
answer (Does a rest) = More

-- A step that leaves a course answers so, and after More the course is what the walk still has to do.
abbrev pub Leaves : Course → WalkState → Course → Type 0
Leaves rest result left = (result ≡ answer rest) × IfMore result (left ≡ rest)

-- A move, within readable memory: a destination gets the command's bytes starting at the offset, and nothing else of the
-- memory changes; a source gives them, and nothing else of the command's bytes changes.
abbrev pub Moved : Direction → ℕ → ℕ → ℕ → Memory → Memory → List ℕ → List ℕ → Type 0
Moved Destination place n offset m m' bytes bytes' =
    ((found : List ℕ) × (bytes_at m place n ≡ Some found) × (m' ≡ written m place (slice_range bytes offset (offset + n)))) × (bytes' ≡ bytes)
Moved Source place n offset m m' bytes bytes' =
    ((found : List ℕ) × (bytes_at m place n ≡ Some found) × (bytes' ≡ take offset bytes ++ (found ++ drop (offset + n) bytes))) × (m' ≡ m)

-- what a unit does to the memory and to the command's bytes
abbrev pub Effect : Direction → Act → Memory → Memory → List ℕ → List ℕ → Type 0
Effect dir Stays m m' bytes bytes' = (m' ≡ m) × (bytes' ≡ bytes)
Effect dir (Reads place) m m' bytes bytes' = (m' ≡ m) × (bytes' ≡ bytes)
Effect dir (Moves place n offset) m m' bytes bytes' = Moved dir place n offset m m' bytes bytes'

-- and to the list of the pages reached
abbrev pub Acts : Direction → Act → Memory → Memory → List ℕ → List ℕ → List ℕ → List ℕ → Type 0
Acts dir a m m' bytes bytes' reached reached' = Effect dir a m m' bytes bytes' × (reached' ≡ reached ++ touched a)

-- There is a first unit of a course, and it is done.
abbrev pub DoesFirst : Course → Direction → Memory → Memory → List ℕ → List ℕ → List ℕ → List ℕ → Type 0
DoesFirst (Closes v) dir m m' bytes bytes' reached reached' = ⊥
DoesFirst (Does a rest) dir m m' bytes bytes' reached reached' = Acts dir a m m' bytes bytes' reached reached'

-- There is a first unit of a course, and what is after it is left.
abbrev pub LeavesRest : Course → WalkState → Course → Type 0
LeavesRest (Closes v) result left = ⊥
LeavesRest (Does a rest) result left = Leaves rest result left

abbrev pub left_in : Walk → State → ℕ
left_in w (First sgl1) = 4 + 3 * w.allowed + w.wanted / 4096
left_in w (Next c) = 1 + 3 * w.allowed + w.wanted / 4096
left_in w (Data block after) = 1 + pages_spanned block.place block.len + 3 * w.allowed + w.wanted / 4096
left_in w (Over fault) = 0

-- how many steps a walk may still answer More to, at most
abbrev pub left_of : Walk → ℕ
left_of w = left_in w w.state

-- how many descriptors a walk may still read from memory, at most, whatever happens to that memory between its steps
abbrev pub reads_left : Walk → ℕ
reads_left w = w.allowed

-- how many descriptors the first unit of a course reads
abbrev pub reads_first : Course → ℕ
reads_first (Closes v) = 0
reads_first (Does Stays rest) = 0
reads_first (Does (Reads place) rest) = 1
reads_first (Does (Moves place n offset) rest) = 0

-- what no step changes
abbrev pub Keeps : Walk → Walk → Type 0
Keeps w w' = (w'.direction ≡ w.direction) × (w'.need ≡ w.need)
