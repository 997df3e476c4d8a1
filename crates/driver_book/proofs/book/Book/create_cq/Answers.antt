use Rattle.std.proofs.Common.{None, refl}
use Rattle.step_core.specs.Replies.{send_reply}
use Rattle.driver_book.proofs.Runs.{does_in, keeps_book, takes_any}
use Rattle.machine_model.specs.Events as events
use Rattle.driver_book.proofs.book.Book.create_cq.Goals as goal

pub invariant_of-self-2 : goal.invariant_of-self-2
invariant_of-self-2 g c = keeps_book None (events.CreateCq c.args.q c.args.vector) (send_reply c.create_cq-answer.result) c.self.invariant c.create_cq-answer.ensures.step (takes_any _ (events.CreateCq c.args.q c.args.vector) (g.met.L.FullLogBrand.takes_all)) refl (rw (c.note.ensures, c.make_room.ensures.same, c.sent.ensures) refl)

pub returns-clause-step : goal.returns-clause-step
returns-clause-step g c = does_in c.self.view_is _ _ _ _ None (events.CreateCq c.args.q c.args.vector) (send_reply c.create_cq-answer.result) c.create_cq-answer.ensures.step refl (rw (c.note.ensures, c.make_room.ensures.same, c.sent.ensures) refl)
