use Rattle.std.proofs.Common.{length}
use Rattle.io_commands.proofs.data_bytes.+fill.Given as goal

abbrev pub decreases-fill : goal.decreases-fill
decreases-fill g l = length l.pieces.now
