-- Sets of changes: which changes one has, and when two changes are one.
use Rattle.std.specs.{Int.bit_at, Prelude.{ℕ, ◌%◌, Bool, true, false, ◌==◌, Result, Ok, bit_xor}}
use Rattle.machine_model.specs.declared.words.{Reaped.{Reaped, TheVariants.{Done, AdminDone}}, Refusal.Refusal}
use Rattle.shared.specs.declared.changes.{Change.Change, Change.TheVariants.{Room, Posted, Rung, Ended}, Changes.Changes}

-- whether two changes are one: the ends of two commands are, where their places have the same remainder modulo sixteen
abbrev pub are_one : Change → Change → Bool
are_one Room Room = true
are_one Posted Posted = true
are_one Rung Rung = true
are_one (Ended place) (Ended other) = place % 16 == other % 16
are_one _ _ = false

-- whether a change is the end of a command
abbrev pub is_end : Change → Bool
is_end (Ended place) = true
is_end _ = false

-- the bit of a change
abbrev pub bit_of : Change → ℕ
bit_of Room = 16
bit_of Posted = 17
bit_of Rung = 18
bit_of (Ended place) = place % 16

-- whether a set of changes has one
abbrev pub is_told : Changes → Change → Bool
is_told changes change = bit_at changes.bits (bit_of change) == 1

-- whether a reap of a queue with this answer may have made a change: the end of the command that it tells, and of an admin command any
abbrev pub is_of_reap : ℕ → Result Reaped Refusal → Change → Bool
is_of_reap q (Ok (Done cid status)) change = are_one (Ended (bit_xor q cid % 16)) change
is_of_reap q (Ok (AdminDone cid status dw0)) change = true
is_of_reap q answer change = false
