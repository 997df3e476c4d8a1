use Rattle.std.proofs.Common.{refl}
use Rattle.sgl_chain.proofs.Spelled.{lay_more, lay_all, length-spelling}
use Rattle.sgl_chain.proofs.segment.lay_descriptors.Goals as goal

pub loop-i-preserved : goal.loop-i-preserved
loop-i-preserved g c =
    rw (c.set.ensures.bytes, c.write.ensures)
    (record {
      number = c.loop-i.invariant.number;
      bytes = lay_more c.args.descriptors.now c.loop-i.i _ _ c.args.page.now.1 c.loop-i.page.1 c.loop-i-test.true (length-spelling _) c.loop-i.invariant.bytes;
    })

pub returns-clause-bytes : goal.returns-clause-bytes
returns-clause-bytes g c =
    rw (
      ← c.loop-i.invariant.number,
      ← lay_all c.args.descriptors.now c.loop-i.i c.args.page.now.1 c.loop-i.page.1 c.loop-i.auto.i-end c.loop-i-test.false c.loop-i.invariant.bytes,
    )
    refl
