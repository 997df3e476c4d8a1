use Rattle.std.proofs.Common.{rules, arith, refl}
use Rattle.controller_walk.proofs.Courses.{from_none, from_missing, from_read}
use Rattle.controller_walk.proofs.progress.Progress.take_next.Goals as goal

pub returns-then-self-eq0-clause-does : goal.returns-then-self-eq0-clause-does
returns-then-self-eq0-clause-does g c bytes =
    rw (from_none c.args.self.allowed (g.D.Dma.memory c.args.dma.now) c.args.self.direction c.args.self.need c.args.cursor c.args.self.wanted c.if-self-eq0.true)
    ((refl, refl), search rules)

pub returns-then-self-eq0-clause-leaves : goal.returns-then-self-eq0-clause-leaves
returns-then-self-eq0-clause-leaves g c =
    rw (from_none c.args.self.allowed (g.D.Dma.memory c.args.dma.now) c.args.self.direction c.args.self.need c.args.cursor c.args.self.wanted c.if-self-eq0.true)
    (search rules)

pub returns-in-Err-clause-does : goal.returns-in-Err-clause-does
returns-in-Err-clause-does g c bytes =
    rw (from_missing c.args.self.allowed (g.D.Dma.memory c.args.dma.now) c.args.self.direction c.args.self.need c.args.cursor c.args.self.wanted (omega arith) c.in-Err.ensures.missing)
    ((c.in-Err.ensures.memory, refl), search rules)

pub returns-in-Err-clause-leaves : goal.returns-in-Err-clause-leaves
returns-in-Err-clause-leaves g c =
    rw (from_missing c.args.self.allowed (g.D.Dma.memory c.args.dma.now) c.args.self.direction c.args.self.need c.args.cursor c.args.self.wanted (omega arith) c.in-Err.ensures.missing)
    (search rules)

pub returns-in-Ok-clause-does : goal.returns-in-Ok-clause-does
returns-in-Ok-clause-does g c bytes =
    rw (from_read c.args.self.allowed (g.D.Dma.memory c.args.dma.now) c.args.self.direction c.args.self.need c.args.cursor c.args.self.wanted c.read.new.into (omega arith) c.in-Ok.ensures.read)
    ((c.in-Ok.ensures.memory, refl), c.in-Ok.ensures.touched)

pub returns-in-Ok-clause-leaves : goal.returns-in-Ok-clause-leaves
returns-in-Ok-clause-leaves g c =
    rw (from_read c.args.self.allowed (g.D.Dma.memory c.args.dma.now) c.args.self.direction c.args.self.need c.args.cursor c.args.self.wanted c.read.new.into (omega arith) c.in-Ok.ensures.read)
    (c.take.ensures.leaves (g.D.Dma.memory c.args.dma.now))

pub returns-then-self-eq0-clause-reads : goal.returns-then-self-eq0-clause-reads
returns-then-self-eq0-clause-reads g c =
    rw (from_none c.args.self.allowed (g.D.Dma.memory c.args.dma.now) c.args.self.direction c.args.self.need c.args.cursor c.args.self.wanted c.if-self-eq0.true)
    (search rules)

pub returns-in-Err-clause-reads : goal.returns-in-Err-clause-reads
returns-in-Err-clause-reads g c =
    rw (from_missing c.args.self.allowed (g.D.Dma.memory c.args.dma.now) c.args.self.direction c.args.self.need c.args.cursor c.args.self.wanted (omega arith) c.in-Err.ensures.missing)
    (search rules)

pub returns-in-Ok-clause-reads : goal.returns-in-Ok-clause-reads
returns-in-Ok-clause-reads g c =
    rw (from_read c.args.self.allowed (g.D.Dma.memory c.args.dma.now) c.args.self.direction c.args.self.need c.args.cursor c.args.self.wanted c.read.new.into (omega arith) c.in-Ok.ensures.read)
    (omega (arith, c.take.ensures.allowed))
