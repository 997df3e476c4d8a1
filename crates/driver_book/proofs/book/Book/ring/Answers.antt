use Rattle.std.proofs.Common.{None, refl}
use Rattle.step_core.specs.Replies.{ring_reply}
use Rattle.driver_book.proofs.Runs.{does_in, keeps_jobs}
use Rattle.machine_model.specs.Events as events
use Rattle.driver_book.proofs.book.Book.ring.Goals as goal

pub invariant_of-self-2 : goal.invariant_of-self-2
invariant_of-self-2 g c = keeps_jobs None (events.Ring c.args.q) (ring_reply c.ring-answer.result) c.self.invariant c.ring-answer.ensures.step refl refl (rw (c.note.ensures, c.make_room.ensures.same, c.done.ensures) refl)

pub returns-clause-step : goal.returns-clause-step
returns-clause-step g c = does_in c.self.view_is _ _ _ _ None (events.Ring c.args.q) (ring_reply c.ring-answer.result) c.ring-answer.ensures.step refl (rw (c.note.ensures, c.make_room.ensures.same, c.done.ensures) refl)
