use Rattle.nvmesgl_c.proofs.Serving.{Serving}
use Rattle.nvmesgl_c.proofs.machine.serve.serve.Given as goal

-- the controller's steps so far
abbrev pub invariant-loop-made : goal.invariant-loop-made
invariant-loop-made l = Serving l.initial.desk l.completed l.made l.desk
