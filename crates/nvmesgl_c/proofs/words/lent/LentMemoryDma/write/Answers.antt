use Rattle.std.proofs.Common.{refl}
use Rattle.nvmesgl_c.proofs.Slices.{read_outside, there_inside, wrote}
use Rattle.nvmesgl_c.proofs.words.lent.LentMemoryDma.write.Goals as goal

pub returns-then-not-is_inside-clause-missing : goal.returns-then-not-is_inside-clause-missing
returns-then-not-is_inside-clause-missing c = read_outside c.args.self.now.bytes.now c.args.addr _ c.requires.some (c.if-not-is_inside.ensures.outside refl)

pub returns-clause-there : goal.returns-clause-there
returns-clause-there c = there_inside c.args.self.now.bytes.now c.args.addr _ (c.if-not-is_inside.ensures.inside refl)

pub returns-clause-written : goal.returns-clause-written
returns-clause-written c =
    rw c.put.ensures.bytes (wrote c.args.self.now.bytes.now c.args.bytes.now c.args.addr (c.if-not-is_inside.ensures.inside refl))
