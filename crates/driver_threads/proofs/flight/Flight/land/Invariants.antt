use Rattle.std.specs.VecDeque.{deque_len}
use Rattle.driver_threads.proofs.flight.Flight.land.Given as goal

abbrev pub decreases-loop-left : goal.decreases-loop-left
decreases-loop-left g l = deque_len l.flying
