use Rattle.std.proofs.Common.{arith}
use Rattle.nvmesgl_c.proofs.Runs.{copied_more}
use Rattle.nvmesgl_c.proofs.words.region.copy_from.Goals as goal

pub loop-run-preserved : goal.loop-run-preserved
loop-run-preserved c = record {
  few = omega (arith, c.in-Some.ensures.run.few, c.loop-run.invariant.few, c.put.ensures.len);
  copied =
      copied_more c.args.regions.now c.args.addr c.loop-run.done _ _ c.in-Some.run' c.index-regions-run.result c.loop-run.into c.put.new.into c.in-Some.ensures.run c.index-regions-run.is
      c.put.ensures.bytes (omega arith) (omega (arith, c.in-Some.ensures.run.few, c.loop-run.invariant.few)) c.loop-run.invariant.copied;
}
