use Rattle.std.proofs.Common.{length}
use Rattle.io_commands.proofs.data_bytes.+lay.Given as goal

abbrev pub decreases-lay : goal.decreases-lay
decreases-lay g l = length l.pieces.now
