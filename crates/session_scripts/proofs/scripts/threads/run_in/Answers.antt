use Rattle.std.proofs.Crossing.{frees}
use Rattle.session_scripts.proofs.scripts.threads.run_in.Goals as goal

-- a block of a borrowed `Refusing` is a block of the heap in it, which any thread may give back
pub play-ended-requires-frees-A-Allocator : goal.play-ended-requires-frees-A-Allocator
play-ended-requires-frees-A-Allocator g c κs within = record { frees = λ handle. frees.frees handle.now.inner }
