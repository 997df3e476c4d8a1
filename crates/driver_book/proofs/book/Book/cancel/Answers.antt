use Rattle.std.proofs.Common.{None, refl}
use Rattle.step_core.specs.Replies.{accept_reply}
use Rattle.driver_book.{proofs.Runs.{does_in, keeps_jobs, takes_no_memory}}
use Rattle.machine_model.specs.Events as events
use Rattle.driver_book.proofs.book.Book.cancel.Goals as goal

pub invariant_of-self-2 : goal.invariant_of-self-2
invariant_of-self-2 g c = keeps_jobs None (events.Cancel c.args.draft) (accept_reply c.cancel-answer.result) c.self.invariant c.cancel-answer.ensures.step refl refl (rw (c.note.ensures, c.make_room.ensures.same, c.q.ensures, c.cid.ensures, c.ended.ensures) refl)

pub returns-clause-step : goal.returns-clause-step
returns-clause-step g c = does_in c.self.view_is _ _ _ _ None (events.Cancel c.args.draft) (accept_reply c.cancel-answer.result) c.cancel-answer.ensures.step refl (rw (c.note.ensures, c.make_room.ensures.same, c.q.ensures, c.cid.ensures, c.ended.ensures) refl)

pub returns-clause-memory : goal.returns-clause-memory
returns-clause-memory g c = takes_no_memory _ c.self.inside.world.state c.cancel-answer.new.self.state (events.Cancel c.args.draft) (accept_reply c.cancel-answer.result) refl c.cancel-answer.ensures.step
