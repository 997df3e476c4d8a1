use Rattle.std.proofs.{Common.{arith, refl, ap, ◌∙◌, ◌<◌, ◌+◌, List, Option, ℕ, length}, lemmas.List.length-set}
use Rattle.page_memory.{proofs.Bytes.{bytes_some, wrote_more}, specs.Pages.slot_at}
use Rattle.page_memory.proofs.flat.FlatMemoryDma.write.Goals as goal

pub returns-clause-there : goal.returns-clause-there
returns-clause-there g c = bytes_some (slot_at c.args.self.now.bytes) c.args.addr _ (c.if-not-is_there.ensures.there refl)

pub loop-k-preserved : goal.loop-k-preserved
loop-k-preserved g c =
    let inside : c.args.addr + c.loop-k.k < length c.loop-k.self.bytes = rw (c.loop-k.invariant.0, c.touch.ensures.kept) (omega (arith, c.if-not-is_there.ensures.inside refl, c.loop-k-test.true)) in (
      ap (λ (b : List (Option ℕ)). length b) c.put.ensures.put ∙ rw length-set c.loop-k.invariant.0,
      c.put.ensures.touched ∙ c.loop-k.invariant.1,
      wrote_more c.loop-k.self.bytes _ c.args.addr c.loop-k.k c.args.bytes.now (slot_at c.touch.new.self.bytes) c.loop-k.invariant.2 c.loop-k-test.true inside c.put.ensures.put,
      c.put.ensures.unlisted ∙ c.loop-k.invariant.3,
    )
