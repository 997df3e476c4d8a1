-- the bucket lies among those that are left
use Rattle.std.proofs.Common.{◌≡◌, drop}
use Rattle.load.specs.Histograms.{bucket_at}
use Rattle.load.proofs.histogram.Histogram.bucket_at.Given as goal

abbrev pub invariant-loop-bucket : goal.invariant-loop-bucket
invariant-loop-bucket l = bucket_at l.bucket (drop l.bucket l.self.counts) l.left ≡ bucket_at 0 l.self.counts l.rank
