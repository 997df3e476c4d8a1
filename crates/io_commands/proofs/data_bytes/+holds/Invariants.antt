use Rattle.std.proofs.Common.{length}
use Rattle.io_commands.proofs.data_bytes.+holds.Given as goal

abbrev pub decreases-holds : goal.decreases-holds
decreases-holds g l = length l.pieces.now
