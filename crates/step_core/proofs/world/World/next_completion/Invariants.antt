use Rattle.std.proofs.Common.{◌≡◌, ℕ, ◌<◌, false}
use Rattle.step_core.specs.{Looks.has_completion, Touching.LooksAtMost}
use Rattle.step_core.proofs.world.World.next_completion.Given as goal

abbrev pub invariant-loop-q : goal.invariant-loop-q
invariant-loop-q g l = (l.self.state ≡ l.fn.self.state) × ((k : ℕ) → k < l.q → has_completion l.fn.self.state k ≡ false) × LooksAtMost l.q l.fn.self.touches l.self.touches
