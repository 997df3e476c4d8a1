-- What holds of every list: its course depends on the descriptors that it reads and on which bytes are missing, so
-- each step of a walk does the next unit of one list while nobody changes those descriptors or which bytes
-- are missing.
use Rattle.std.specs.Prelude.{◌≡◌, ◌<◌, ◌+◌, ℕ, zero, suc, Bool, true, false, is_some, List, [], ◌∷◌, Option, Some, None, length, slice_get, if◌then◌else◌, nat_lt}
use Rattle.sgl_descriptor.specs.declared.Direction.{Direction, TheVariants.{Destination, Source}}
use Rattle.page_memory.specs.Memory.{Memory}
use Rattle.controller_walk.specs.Units.{Act, Stays, Reads, Moves, Course, Closes, Does, units, verdict, course_of_list}
use Rattle.controller_walk.specs.{Walks.{course, Acts, DoesFirst, LeavesRest, IfMore, direction_of}, declared.walk.{Walk.Walk, WalkState.WalkState}}
use Rattle.controller_walk.specs.declared.walk.WalkState.TheVariants.{More}

-- The same bytes are missing, and those at some addresses, which `at` tells, are the same.
pub record Agree (at : ℕ → Bool) (m m' : Memory) : Type 0 where
  pub there : (q : ℕ) → is_some (m q) ≡ is_some (m' q)
  pub same : (q : ℕ) → at q ≡ true → m q ≡ m' q

-- the descriptors that a course reads lie at those addresses
abbrev pub ReadsWithin : (ℕ → Bool) → Course → Type 0
ReadsWithin at (Closes v) = Unit {0}
ReadsWithin at (Does Stays rest) = ReadsWithin at rest
ReadsWithin at (Does (Reads place) rest) = ((k : ℕ) → k < 16 → at (place + k) ≡ true) × ReadsWithin at rest
ReadsWithin at (Does (Moves place n offset) rest) = ReadsWithin at rest

-- the moves of a course avoid those addresses
abbrev pub MovesOutside : (ℕ → Bool) → Course → Type 0
MovesOutside at (Closes v) = Unit {0}
MovesOutside at (Does Stays rest) = MovesOutside at rest
MovesOutside at (Does (Reads place) rest) = MovesOutside at rest
MovesOutside at (Does (Moves place n offset) rest) = ((k : ℕ) → k < n → at (place + k) ≡ false) × MovesOutside at rest

abbrev pub OverwritesNothing : (ℕ → Bool) → Direction → Course → Type 0
OverwritesNothing at Destination c = MovesOutside at c
OverwritesNothing at Source c = Unit {0}

-- The list is read within some addresses, and what it moves to a destination avoids them.
pub record IsApart (at : ℕ → Bool) (dir : Direction) (c : Course) : Type 0 where
  pub reads : ReadsWithin at c
  pub moves : OverwritesNothing at dir c

-- memories that miss the same bytes and agree on the descriptors that a list reads give one course
abbrev pub SameCourse : Memory → Memory → Type 0
SameCourse m m' =
    (at : ℕ → Bool) (sgl1 : List ℕ) (dir : Direction) (need : ℕ) → Agree at m m' → ReadsWithin at (course_of_list m sgl1 dir need)
    → course_of_list m sgl1 dir need ≡ course_of_list m' sgl1 dir need

-- what is left of a course after t units
abbrev pub after_units : ℕ → Course → Course
after_units zero c = c
after_units (suc t) (Closes v) = Closes v
after_units (suc t) (Does a rest) = after_units t rest

-- After t units of a course, which a memory gave, a walk has the others to do, in that memory and in each that agrees with it.
abbrev pub StandsAfter : (ℕ → Bool) → Memory → ℕ → Course → Walk → Type 0
StandsAfter at m t c w = (now : Memory) → Agree at m now → course now w ≡ after_units t c

-- what the step that does the t-th unit answers
abbrev pub answer_at : Course → ℕ → WalkState
answer_at c t = if nat_lt (suc t) (length (units c)) then More else verdict c

abbrev pub DoesUnit : Option Act → Direction → Memory → Memory → List ℕ → List ℕ → List ℕ → List ℕ → Type 0
DoesUnit None dir m m' bytes bytes' reached reached' = ⊥
DoesUnit (Some a) dir m m' bytes bytes' reached reached' = Acts dir a m m' bytes bytes' reached reached'

-- a walk that begins has done none of the units of its list
abbrev pub StandsAtFirst : (ℕ → Bool) → Memory → List ℕ → Direction → ℕ → Walk → Type 0
StandsAtFirst at m sgl1 dir need w =
    ReadsWithin at (course_of_list m sgl1 dir need)
    → ((now : Memory) → course now w ≡ course_of_list now sgl1 dir need)
    → StandsAfter at m 0 (course_of_list m sgl1 dir need) w

-- What a step does at a walk that stands after t units: the t-th unit, counted from 0, with its answer. The memory still
-- agrees with that of the list, and after More the walk stands after that unit.
pub record DoesUnitAt (at : ℕ → Bool) (m : Memory) (c : Course) (t : ℕ) (w' : Walk) (answer : WalkState) (dir : Direction)
    (now now' : Memory) (bytes bytes' reached reached' : List ℕ) : Type 0 where
  pub unit : DoesUnit (slice_get (units c) t) dir now now' bytes bytes' reached reached'
  pub answers : answer ≡ answer_at c t
  pub agrees : Agree at m now'
  pub stands : IfMore answer (StandsAfter at m (suc t) c w')

-- The clauses of a step give that: `does` and `leaves` of `Walk::step` are the last two premises.
abbrev pub StepDoesUnit : (ℕ → Bool) → Memory → Course → ℕ → Walk → Walk → WalkState → Type 0
StepDoesUnit at m c t w w' answer =
    (now now' : Memory) (bytes bytes' reached reached' : List ℕ)
    → IsApart at (direction_of w) c → StandsAfter at m t c w → Agree at m now
    → DoesFirst (course now w) (direction_of w) now now' bytes bytes' reached reached'
    → LeavesRest (course now w) answer (course now w')
    → DoesUnitAt at m c t w' answer (direction_of w) now now' bytes bytes' reached reached'

-- how many descriptors units read from memory
abbrev pub reads_in : List Act → ℕ
reads_in [] = 0
reads_in (Stays ∷ rest) = reads_in rest
reads_in (Reads place ∷ rest) = 1 + reads_in rest
reads_in (Moves place n offset ∷ rest) = reads_in rest
