use Rattle.std.proofs.Common.{Ok}
use Rattle.driver_threads.proofs.UnderWay.{collects_command}
use Rattle.trials.proofs.alone.collected.Goals as goal

pub returns-in-Ok : goal.returns-in-Ok
returns-in-Ok g c = collects_command c.args.book.now c.collect.new.self c.args.ticket.q c.args.ticket.cid (Ok c.in-Ok.finished) c.in-Ok.ensures.step
