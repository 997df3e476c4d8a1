use Rattle.std.proofs.Common.{arith}
use Rattle.nvmesgl_c.proofs.Runs.{there_more}
use Rattle.nvmesgl_c.proofs.words.region.is_there.Goals as goal

pub loop-run-preserved : goal.loop-run-preserved
loop-run-preserved c = record {
  few = omega (arith, c.in-Some.ensures.run.few, c.loop-run.invariant.few);
  there = there_more c.args.regions.now c.args.addr c.loop-run.done _ c.in-Some.run' c.in-Some.ensures.run c.loop-run.invariant.there;
}
