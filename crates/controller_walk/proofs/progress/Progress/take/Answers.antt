use Rattle.controller_walk.proofs.progress.Progress.take.Goals as goal

pub returns-in-None-clause-leaves : goal.returns-in-None-clause-leaves
returns-in-None-clause-leaves c m = rw (← c.in-Ok.ensures.exact, ← c.in-None.ensures) (c.follow.ensures.leaves m)
