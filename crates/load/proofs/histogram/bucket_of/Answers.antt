use Rattle.std.proofs.Common.{arith}
use Rattle.load.proofs.Loads.{halved, in_bucket}
use Rattle.load.proofs.histogram.bucket_of.Goals as goal

pub loop-top-preserved : goal.loop-top-preserved
loop-top-preserved c = halved c.loop-top.shift c.loop-top.top c.args.value (omega arith) (omega arith) c.loop-top.invariant

pub returns-clause-bucket : goal.returns-clause-bucket
returns-clause-bucket c = in_bucket c.loop-top.shift c.loop-top.top c.args.value (omega arith) c.loop-top.invariant
