use Rattle.controller_core.proofs.{Counting.{counted_here, counted_nowhere}, Rows.commands_of}
use Rattle.std.proofs.Common.{arith, rules}
use Rattle.controller_core.proofs.commands.Commands.count.Goals as goal

pub returns-in-Some : goal.returns-in-Some
returns-in-Some g c =
    rw (← c.self.view_is) (counted_here c.self.inside.counts.items (commands_of c.self.inside.table) c.args.q c.from.result c.in-Some.count.now c.self.invariant.2 c.from.ensures (search rules))

pub returns-in-None : goal.returns-in-None
returns-in-None g c =
    rw (← c.self.view_is) (counted_nowhere c.self.inside.counts.items (commands_of c.self.inside.table) c.args.q c.from.result c.self.invariant.2 c.from.ensures (omega (arith, c.deref.ensures.len, c.in-None.ensures.lookup)))
