use Rattle.std.proofs.Common.{arith}
use Rattle.load.proofs.Loads.{row_put}
use Rattle.load.proofs.content.put_rows.Goals as goal

pub loop-number-preserved : goal.loop-number-preserved
loop-number-preserved c =
    row_put c.args.row.now c.loop-number.number c.loop-number.out.items c.push.new.self.items c.extend_from_slice.new.self.items _ (omega arith) c.in_ok-push.ensures.items
    c.in_ok-extend_from_slice.ensures.items c.loop-number.invariant
