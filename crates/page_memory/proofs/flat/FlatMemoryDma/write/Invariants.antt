use Rattle.std.proofs.Common.{◌≡◌, take, length}
use Rattle.page_memory.specs.{Memory.written, Pages.slot_at}
use Rattle.page_memory.proofs.flat.FlatMemoryDma.write.Given as goal

abbrev pub invariant-loop-k : goal.invariant-loop-k
invariant-loop-k g l =
    (length l.self.bytes ≡ length l.initial.self.bytes)
    × (l.self.touched ≡ l.initial.self.touched)
    × (slot_at l.self.bytes ≡ written (slot_at l.initial.self.bytes) l.addr (take l.k l.bytes))
    × (l.self.unlisted ≡ l.initial.self.unlisted)
