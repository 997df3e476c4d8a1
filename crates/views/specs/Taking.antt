-- Which descriptors of a list are told, and that they are those which its walk reads.
use Rattle.std.specs.{List.AllByRecursion, Option.option_map}
use Rattle.std.specs.Prelude.{◌≡◌, ◌++◌, ◌-◌, ℕ, zero, suc, Bool, true, false, List, [], ◌∷◌, Option, Some, None, if◌then◌else◌, nat_le, min, option_and_then}
use Rattle.controller_walk.specs.{Faults.{counts_of, next_of}, Laws.{Agree, StandsAfter, after_units}, Units.{Stays, Reads, Moves, Course, Closes, Does}}
use Rattle.controller_walk.specs.{Walks.{counted_of, need_of}, declared.{cause.DescriptorAt.DescriptorAt, walk.Walk.Walk}}
use Rattle.page_memory.specs.Memory.{Memory, bytes_at}
use Rattle.views.specs.declared.explain.list.Taken.{Taken}

-- One descriptor

-- its 16 bytes: those at its address in memory, or, of the entry's own, which has no address there, the entry's
abbrev pub bytes_of : Memory → List ℕ → Option ℕ → Option (List ℕ)
bytes_of m sgl1 None = Some sgl1
bytes_of m sgl1 (Some place) = bytes_at m place 16

-- nothing where it is one too many for a list, or a byte is missing
abbrev pub taken_at : Memory → List ℕ → ℕ → DescriptorAt → Option Taken
taken_at m sgl1 counted it =
    if nat_le it.number 4096 then option_map (λ (bytes : List ℕ). record { at = it; bytes = bytes; counted = counted }) (bytes_of m sgl1 it.place) else None

-- THE DESCRIPTOR that the next step of a walk takes, with how many of the bytes that are still wanted it counts
abbrev pub taken_next : Memory → List ℕ → Walk → Option Taken
taken_next m sgl1 w = option_and_then (taken_at m sgl1 (min (need_of w - counted_of w) (counts_of m w))) (next_of w)

abbrev pub with_next : List Taken → Option Taken → List Taken
with_next told None = told
with_next told (Some taken) = told ++ taken ∷ []

-- the entry's own descriptor
abbrev pub own : DescriptorAt
own = record { number = 1; place = None }

-- All of a list

-- the addresses in memory of those that are told
abbrev pub then_place : Option ℕ → List ℕ → List ℕ
then_place None places = places
then_place (Some place) places = place ∷ places

abbrev pub places_of : List Taken → List ℕ
places_of [] = []
places_of (taken ∷ rest) = then_place taken.at.place (places_of rest)

-- the addresses from which a course reads descriptors
abbrev pub reads_of : Course → List ℕ
reads_of (Closes v) = []
reads_of (Does Stays rest) = reads_of rest
reads_of (Does (Reads place) rest) = place ∷ reads_of rest
reads_of (Does (Moves place n offset) rest) = reads_of rest

-- each has the bytes at its address in this memory, or in the entry
abbrev pub HaveBytes : Memory → List ℕ → List Taken → Type 0
HaveBytes m sgl1 told = AllByRecursion (λ taken. bytes_of m sgl1 taken.at.place ≡ Some taken.bytes) told

-- the first one is the entry's own
abbrev pub BeginWithOwn : List Taken → Type 0
BeginWithOwn [] = ⊥
BeginWithOwn (taken ∷ rest) = taken.at ≡ own

-- THOSE THAT ARE TOLD of a list: the entry's own descriptor, and the ones which the list reads from memory, all of them, in order, each with its
-- bytes
pub record AreOf (m : Memory) (sgl1 : List ℕ) (c : Course) (told : List Taken) : Type 0 where
  pub first : BeginWithOwn told
  pub bytes : HaveBytes m sgl1 told
  pub places : places_of told ≡ reads_of c

-- none is told before the first unit, which takes the entry's own
abbrev pub Begun : ℕ → List Taken → Walk → Type 0
Begun zero told w = (told ≡ []) × (next_of w ≡ Some own)
Begun (suc unit) told w = BeginWithOwn told

-- some units of a list are done, and what was read so far is told
pub record TellsTaken (at : ℕ → Bool) (m : Memory) (sgl1 : List ℕ) (c : Course) (told : List Taken) (w : Walk) (now : Memory) : Type 0 where
  pub unit : ℕ
  pub agrees : Agree at m now
  pub stands : StandsAfter at m unit c w
  pub begun : Begun unit told w
  pub bytes : HaveBytes m sgl1 told
  pub places : places_of told ++ reads_of (after_units unit c) ≡ reads_of c

abbrev pub ToldTo : Bool → (ℕ → Bool) → Memory → List ℕ → Course → List Taken → Walk → Memory → Type 0
ToldTo true at m sgl1 c told w now = AreOf m sgl1 c told
ToldTo false at m sgl1 c told w now = TellsTaken at m sgl1 c told w now
