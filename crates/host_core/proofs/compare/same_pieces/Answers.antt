use Rattle.std.proofs.Common.{sym}
use Rattle.host_core.proofs.Lists.{pieces-differ}
use Rattle.host_core.proofs.compare.same_pieces.Goals as goal

pub returns-then-a-b : goal.returns-then-a-b
returns-then-a-b c = sym (pieces-differ c.args.a.now c.args.b.now c.if-a-b.true)
