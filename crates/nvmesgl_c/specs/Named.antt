-- A memory with a name kept at the places that no address reaches.
use Rattle.std.specs.Prelude.{ℕ, ◌^◌, Some, if◌then◌else◌, nat_lt}
use Rattle.page_memory.specs.Memory.{Memory}

-- the first place after those that a call of 4,096 bytes reaches from any address of 64 bits, and more
abbrev pub beyond : ℕ
beyond = 2 ^ 65

abbrev pub named_memory : Memory → ℕ → Memory
named_memory m name place = if nat_lt place beyond then m place else Some name
