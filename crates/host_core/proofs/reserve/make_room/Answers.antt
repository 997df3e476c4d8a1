use Rattle.std.proofs.Common.{arith}
use Rattle.host_core.proofs.reserve.make_room.Goals as goal

pub overflow_add-grant : goal.overflow_add-grant
overflow_add-grant g c = omega arith

pub overflow_cast-grant : goal.overflow_cast-grant
overflow_cast-grant g c = omega arith
