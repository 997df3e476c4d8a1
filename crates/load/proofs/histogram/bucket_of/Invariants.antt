-- the number lies between this many powers of two and one more of them
use Rattle.load.proofs.Loads.{IsBetween}
use Rattle.load.proofs.histogram.bucket_of.Given as goal

abbrev pub invariant-loop-top : goal.invariant-loop-top
invariant-loop-top l = IsBetween l.shift l.top l.value

abbrev pub decreases-loop-top : goal.decreases-loop-top
decreases-loop-top l = l.top
