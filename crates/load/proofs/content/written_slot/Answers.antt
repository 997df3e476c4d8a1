use Rattle.std.proofs.Common.{◌+◌, arith}
use Rattle.load.proofs.Loads.{block_put}
use Rattle.load.proofs.content.written_slot.Goals as goal

pub loop-block-preserved : goal.loop-block-preserved
loop-block-preserved c =
    block_put c.args.seed c.args.generation c.loop-block.block (c.first_block-first.result + c.args.layout.slot_blocks) c.loop-block.bytes.items c.put_block.new.out.items _ (omega arith)
    c.in_ok-put_block.ensures c.loop-block.invariant
