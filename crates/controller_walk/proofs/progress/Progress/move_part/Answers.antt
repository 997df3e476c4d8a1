use Rattle.std.proofs.Common.{arith, rules}
use Rattle.controller_walk.proofs.Courses.{moving_found, moving_missing}
use Rattle.controller_walk.proofs.progress.Progress.move_part.Goals as goal

pub returns-in-Err-clause-does : goal.returns-in-Err-clause-does
returns-in-Err-clause-does g c =
    rw (moving_missing (g.D.Dma.memory c.args.dma.now) c.args.block.place c.args.block.len c.args.block.offset _ c.requires.block.0 (rw (← c.first_part-n.ensures.part) c.in-Err.ensures.missing))
    ((c.in-Err.ensures.kept.0, c.in-Err.ensures.kept.1), search rules)

pub returns-in-Err-clause-leaves : goal.returns-in-Err-clause-leaves
returns-in-Err-clause-leaves g c =
    rw (moving_missing (g.D.Dma.memory c.args.dma.now) c.args.block.place c.args.block.len c.args.block.offset _ c.requires.block.0 (rw (← c.first_part-n.ensures.part) c.in-Err.ensures.missing))
    (search rules)

pub returns-in-Ok-clause-does : goal.returns-in-Ok-clause-does
returns-in-Ok-clause-does g c =
    rw (moving_found (g.D.Dma.memory c.args.dma.now) c.args.block.place c.args.block.len c.args.block.offset _ c.in-Ok.ensures.there.0 c.requires.block.0 (rw (← c.first_part-n.ensures.part) c.in-Ok.ensures.there.1))
    (rw (← c.first_part-n.ensures.part) (c.in-Ok.ensures.moved, c.in-Ok.ensures.touched))

pub returns-in-Ok-clause-leaves : goal.returns-in-Ok-clause-leaves
returns-in-Ok-clause-leaves g c =
    rw (moving_found (g.D.Dma.memory c.args.dma.now) c.args.block.place c.args.block.len c.args.block.offset _ c.in-Ok.ensures.there.0 c.requires.block.0 (rw (← c.first_part-n.ensures.part) c.in-Ok.ensures.there.1))
    (rw (← c.first_part-n.ensures.part) (c.advance.ensures.leaves (g.D.Dma.memory c.args.dma.now)))

pub returns-in-Err-clause-reads : goal.returns-in-Err-clause-reads
returns-in-Err-clause-reads g c =
    rw (moving_missing (g.D.Dma.memory c.args.dma.now) c.args.block.place c.args.block.len c.args.block.offset _ c.requires.block.0 (rw (← c.first_part-n.ensures.part) c.in-Err.ensures.missing))
    (search rules)

pub returns-in-Ok-clause-reads : goal.returns-in-Ok-clause-reads
returns-in-Ok-clause-reads g c =
    rw (moving_found (g.D.Dma.memory c.args.dma.now) c.args.block.place c.args.block.len c.args.block.offset _ c.in-Ok.ensures.there.0 c.requires.block.0 (rw (← c.first_part-n.ensures.part) c.in-Ok.ensures.there.1))
    (omega (arith, c.advance.ensures.allowed))
