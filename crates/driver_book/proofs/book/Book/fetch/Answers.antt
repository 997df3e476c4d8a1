use Rattle.std.proofs.Common.{None, refl}
use Rattle.step_core.specs.Replies.{fetch_reply}
use Rattle.driver_book.proofs.Runs.{does_in, keeps_jobs, takes_memory, touches_in}
use Rattle.machine_model.specs.Events as events
use Rattle.driver_book.proofs.book.Book.fetch.Goals as goal

pub invariant_of-self-2 : goal.invariant_of-self-2
invariant_of-self-2 g c = keeps_jobs None (events.Fetch c.args.q) (fetch_reply c.fetch-answer.result) c.self.invariant c.fetch-answer.ensures.step refl refl (rw (c.note.ensures, c.make_room.ensures.same, c.fetched.ensures) refl)

pub returns-clause-step : goal.returns-clause-step
returns-clause-step g c = does_in c.self.view_is _ _ _ _ None (events.Fetch c.args.q) (fetch_reply c.fetch-answer.result) c.fetch-answer.ensures.step refl (rw (c.note.ensures, c.make_room.ensures.same, c.fetched.ensures) refl)

pub returns-clause-touches : goal.returns-clause-touches
returns-clause-touches g c = touches_in c.self.view_is (events.Fetch c.args.q) (fetch_reply c.fetch-answer.result) c.fetch-answer.ensures.touches

pub returns-clause-memory : goal.returns-clause-memory
returns-clause-memory g c = takes_memory _ c.self.view_is c.fetch-answer.new.self.state (events.Fetch c.args.q) (fetch_reply c.fetch-answer.result) c.fetch-answer.ensures.step
