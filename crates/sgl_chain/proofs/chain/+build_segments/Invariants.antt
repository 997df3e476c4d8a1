use Rattle.std.proofs.Common.{length}
use Rattle.sgl_chain.proofs.chain.+build_segments.Given as goal

abbrev pub decreases-build_segments : goal.decreases-build_segments
decreases-build_segments g l = length l.parts.now
