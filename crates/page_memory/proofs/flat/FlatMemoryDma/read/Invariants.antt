use Rattle.std.proofs.Common.{◌≡◌, ℕ, ◌<◌, ◌+◌, Some, slice_index}
use Rattle.page_memory.specs.Pages.{slot_at}
use Rattle.page_memory.proofs.flat.FlatMemoryDma.read.Given as goal

abbrev pub invariant-loop-k : goal.invariant-loop-k
invariant-loop-k g l = (k : ℕ) → k < l.k → slot_at l.self.bytes (l.addr + k) ≡ Some (slice_index l.into k)
