use Rattle.driver_threads.proofs.UnderWay.{awaits_ticket}
use Rattle.driver_threads.proofs.book_lock.Shared.submit.Goals as goal

pub returns-clause-awaits : goal.returns-clause-awaits
returns-clause-awaits g c = awaits_ticket c.deref_mut.result.now.machine.log c.args.seat.now c.submit.new.seat c.args.draft c.submit.result c.submit.ensures.receipt c.submit.ensures.ticket
