use Rattle.driver_threads.proofs.UnderWay.{collects_command}
use Rattle.driver_threads.proofs.book_lock.Shared.collect.Goals as goal

pub returns-clause-command : goal.returns-clause-command
returns-clause-command g c = collects_command c.deref_mut.result.now.machine c.collect.new.self c.args.ticket.q c.args.ticket.cid c.collect.result c.collect.ensures.step
