use Rattle.std.proofs.Common.{length}
use Rattle.io_commands.proofs.data_bytes.+push_data.Given as goal

abbrev pub decreases-push_data : goal.decreases-push_data
decreases-push_data g l = length l.pieces.now
