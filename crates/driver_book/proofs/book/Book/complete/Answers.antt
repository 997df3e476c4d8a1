use Rattle.std.proofs.Common.{None, refl}
use Rattle.step_core.specs.Replies.{complete_reply}
use Rattle.driver_book.proofs.Runs.{does_in, keeps_jobs, takes_no_memory, touches_in}
use Rattle.machine_model.specs.Events as events
use Rattle.driver_book.proofs.book.Book.complete.Goals as goal

pub invariant_of-self-2 : goal.invariant_of-self-2
invariant_of-self-2 g c = keeps_jobs None (events.Complete c.args.q c.args.cid) (complete_reply c.complete-answer.result) c.self.invariant c.complete-answer.ensures.step refl refl (rw (c.note.ensures, c.make_room.ensures.same, c.completed.ensures) refl)

pub returns-clause-step : goal.returns-clause-step
returns-clause-step g c = does_in c.self.view_is _ _ _ _ None (events.Complete c.args.q c.args.cid) (complete_reply c.complete-answer.result) c.complete-answer.ensures.step refl (rw (c.note.ensures, c.make_room.ensures.same, c.completed.ensures) refl)

pub returns-clause-touches : goal.returns-clause-touches
returns-clause-touches g c = touches_in c.self.view_is (events.Complete c.args.q c.args.cid) (complete_reply c.complete-answer.result) c.complete-answer.ensures.touches

pub returns-clause-memory : goal.returns-clause-memory
returns-clause-memory g c = takes_no_memory _ c.self.inside.world.state c.complete-answer.new.self.state (events.Complete c.args.q c.args.cid) (complete_reply c.complete-answer.result) refl c.complete-answer.ensures.step
