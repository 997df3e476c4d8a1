use Rattle.std.proofs.Common.{arith}
use Rattle.views.proofs.SparsePools.{whole-put}
use Rattle.views.proofs.sparse_memory.SparseMemory.put.Goals as goal

pub invariant_of-self-2 : goal.invariant_of-self-2
invariant_of-self-2 c = record {
  whole = whole-put c.self.inside.given.items _ c.args.page c.args.at c.args.bytes.now (rw c.reserve.ensures.items at c.put_in.ensures.items) c.self.invariant.whole c.requires;
  few = c.self.invariant.few;
  room = omega (arith, c.put_in.ensures.len, c.put_in.ensures.capacity, c.in_ok-reserve.ensures.ok);
}
