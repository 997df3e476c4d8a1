use Rattle.std.proofs.Common.{None, refl}
use Rattle.step_core.specs.Replies.{collect_reply}
use Rattle.driver_book.proofs.Runs.{does_in, keeps_jobs}
use Rattle.machine_model.specs.Events as events
use Rattle.driver_book.proofs.book.Book.collect.Goals as goal

pub invariant_of-self-2 : goal.invariant_of-self-2
invariant_of-self-2 g c = keeps_jobs None (events.Collect c.args.ticket.q c.args.ticket.cid) (collect_reply c.collect-answer.result) c.self.invariant c.collect-answer.ensures.step refl refl (rw (c.note.ensures, c.make_room.ensures.same, c.q.ensures, c.cid.ensures, c.collected.ensures) refl)

pub returns-clause-step : goal.returns-clause-step
returns-clause-step g c = does_in c.self.view_is _ _ _ _ None (events.Collect c.args.ticket.q c.args.ticket.cid) (collect_reply c.collect-answer.result) c.collect-answer.ensures.step refl (rw (c.note.ensures, c.make_room.ensures.same, c.q.ensures, c.cid.ensures, c.collected.ensures) refl)
