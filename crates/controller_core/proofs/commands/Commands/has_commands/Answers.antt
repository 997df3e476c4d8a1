use Rattle.controller_core.proofs.Counting.{any_count}
use Rattle.controller_core.proofs.commands.Commands.has_commands.Goals as goal

pub returns : goal.returns
returns g c = any_count c.args.self.now.list c.args.q c.count.result c.count.ensures
