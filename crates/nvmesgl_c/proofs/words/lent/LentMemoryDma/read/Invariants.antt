use Rattle.std.proofs.Common.{◌≡◌, ℕ, ◌<◌, ◌+◌, Some, slice_index, slice_get}
use Rattle.nvmesgl_c.proofs.words.lent.LentMemoryDma.read.Given as goal

abbrev pub invariant-loop-k : goal.invariant-loop-k
invariant-loop-k l = (k : ℕ) → k < l.k → slice_get l.self.bytes.now (l.addr + k) ≡ Some (slice_index l.into k)
