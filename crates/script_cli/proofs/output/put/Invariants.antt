-- what was written is a prefix of the bytes, and the rest is left
use Rattle.std.{proofs.Common.{◌≡◌, ◌++◌, ℕ, List, length}, specs.Io.KnownBytes.Appends}
use Rattle.script_cli.proofs.output.put.Given as goal

abbrev pub invariant-loop-rest : goal.invariant-loop-rest
invariant-loop-rest g l = (front : List ℕ) × (l.fn.bytes ≡ front ++ l.rest) × Appends (g.W.Write.contents l.fn.writer) (g.W.Write.contents l.writer) front

abbrev pub decreases-loop-rest : goal.decreases-loop-rest
decreases-loop-rest g l = length l.rest
