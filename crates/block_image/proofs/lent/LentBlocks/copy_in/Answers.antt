use Rattle.block_image.proofs.Lending.{lies_in, put_shown}
use Rattle.std.proofs.Common.{ap, ◌∙◌}
use Rattle.block_image.specs.Blocks.{block_count, shown}
use Rattle.block_image.proofs.lent.LentBlocks.copy_in.Goals as goal

pub returns-clause-changed : goal.returns-clause-changed
returns-clause-changed c =
    let s = c.args.self.now in
    ap (shown s.blocks s.first) c.put.ensures
    ∙ put_shown s.blocks s.first s.bytes.now c.args.slba c.args.buffer.now s.part c.requires.range.whole
    (lies_in s.first s.bytes.now c.args.slba (block_count c.args.buffer.now) c.requires.there)
