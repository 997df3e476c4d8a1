use Rattle.std.proofs.Common.{ℕ, ◌<◌, ◌+◌, IsSome}
use Rattle.page_memory.specs.Pages.{slot_at}
use Rattle.page_memory.proofs.flat.FlatMemory.is_there.Given as goal

abbrev pub invariant-loop-k : goal.invariant-loop-k
invariant-loop-k g l = (k : ℕ) → k < l.k → IsSome (slot_at l.self.bytes (l.addr + k))
