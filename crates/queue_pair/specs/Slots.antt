-- The slots of a ring of n entries, in ring order: after slot n - 1 comes slot 0.
use Rattle.std.specs.Prelude.{ℕ, zero, suc, ◌+◌, ◌-◌, ◌==◌, ◌&&◌, nat_le, nat_lt, Bool, List, [], ◌∷◌, if◌then◌else◌}

-- the slot after another
abbrev pub next_slot : ℕ → ℕ → ℕ
next_slot n slot = if slot + 1 == n then 0 else slot + 1

-- how many slots lie from one position to another, without the last one
abbrev pub distance : ℕ → ℕ → ℕ → ℕ
distance n from to = if nat_le from to then to - from else to + n - from

-- n - 1 slots lie from the head to the tail: one more would make the tail the head
abbrev pub is_full : ℕ → ℕ → ℕ → Bool
is_full n head tail = distance n head tail == n - 1

-- the position lies from one to another in ring order, both ends inside
abbrev pub is_in_range : ℕ → ℕ → ℕ → ℕ → Bool
is_in_range n from to slot = nat_lt slot n && nat_le (distance n from slot) (distance n from to)

-- this many slots, starting at a given one
abbrev pub slots_from : ℕ → ℕ → ℕ → List ℕ
slots_from n slot zero = []
slots_from n slot (suc many) = slot ∷ slots_from n (next_slot n slot) many

-- the slots from one position to another
abbrev pub slots_between : ℕ → ℕ → ℕ → List ℕ
slots_between n from to = slots_from n from (distance n from to)

-- the position after this many moves
abbrev pub moved : ℕ → ℕ → ℕ → ℕ
moved n slot zero = slot
moved n slot (suc many) = moved n (next_slot n slot) many
