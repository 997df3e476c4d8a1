use Rattle.nvmesgl_c.proofs.Serving.{Reaping}
use Rattle.nvmesgl_c.proofs.machine.carrying.reap_until.Given as goal

-- the reaps so far
abbrev pub invariant-loop-taken : goal.invariant-loop-taken
invariant-loop-taken l = Reaping l.q l.cid l.initial.desk l.taken l.desk
