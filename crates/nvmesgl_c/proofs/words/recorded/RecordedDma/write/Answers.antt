use Rattle.std.proofs.Common.{arith, length}
use Rattle.nvmesgl_c.{proofs.Named.bytes_named, specs.Regions.paired}
use Rattle.nvmesgl_c.proofs.words.recorded.RecordedDma.write.Goals as goal

pub returns-clause-there : goal.returns-clause-there
returns-clause-there g c =
    rw (bytes_named (g.M.Dma.memory c.args.self.now.lent.now) (paired c.args.self.now.lent.ghost_name (g.M.Dma.unlisted c.args.self.now.lent.now)) c.args.addr (length c.args.bytes.now) (omega (arith, c.ranges.addr.fits, c.requires.few))) c.write.ensures.there

pub returns-clause-missing : goal.returns-clause-missing
returns-clause-missing g c =
    rw (bytes_named (g.M.Dma.memory c.args.self.now.lent.now) (paired c.args.self.now.lent.ghost_name (g.M.Dma.unlisted c.args.self.now.lent.now)) c.args.addr (length c.args.bytes.now) (omega (arith, c.ranges.addr.fits, c.requires.few))) c.write.ensures.missing
