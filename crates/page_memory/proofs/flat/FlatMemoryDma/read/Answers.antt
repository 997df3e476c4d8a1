use Rattle.std.proofs.Common.{arith}
use Rattle.page_memory.{proofs.Bytes.bytes_held, specs.Pages.slot_at}
use Rattle.page_memory.proofs.flat.FlatMemoryDma.read.Goals as goal

pub returns-clause-read : goal.returns-clause-read
returns-clause-read g c =
    rw (← c.loop-k.auto.into, ← c.touch.ensures.kept)
    (bytes_held (slot_at c.touch.new.self.bytes) c.args.addr c.loop-k.into (λ k lt. c.loop-k.invariant k (omega (arith, lt, c.loop-k.auto.into, c.loop-k-test.false))))
