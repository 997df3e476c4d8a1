use Rattle.std.proofs.Common.{arith}
use Rattle.load.proofs.Loads.{page_pushed}
use Rattle.load.proofs.plan.pieces_of.Goals as goal

pub loop-rest-preserved : goal.loop-rest-preserved
loop-rest-preserved c =
    page_pushed c.loop-rest.pieces c.push.new.self c.loop-rest.rest c.args.blocks c.in_ok-push.ensures.pushed (omega arith) c.loop-rest.invariant
