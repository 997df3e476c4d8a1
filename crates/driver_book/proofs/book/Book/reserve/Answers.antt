use Rattle.std.proofs.Common.{None, length, ap, refl, IfOk, subst}
use Rattle.step_core.specs.Replies.{reserve_reply}
use Rattle.driver_book.proofs.Runs.{does_in, draft_takes, keeps_jobs, reservation_written, takes_as, takes_memory}
use Rattle.driver_book.specs.{Calls.{LacksRoomToReserve, most_pages}, State.BookContents}
use Rattle.host_core.specs.Alone.{IsLowest}
use Rattle.machine_model.specs.Events as events
use Rattle.driver_book.proofs.book.Book.reserve.Goals as goal

pub note_reservation-requires-clause-draft : goal.note_reservation-requires-clause-draft
note_reservation-requires-clause-draft g c =
    draft_takes c.self.inside.world.state c.reserve-answer.new.self.state c.args.q c.args.request c.reserve-answer.result c.make_room.new.self.room c.reserve-answer.ensures.step
    (takes_as c.make_room.new.self.room (length c.pieces-pieces.result.now) c.pages_to_log-pages.result (length c.args.request.pieces) (most_pages c.self.inside.world.state c.args.q c.args.request) (ap length c.pieces-pieces.ensures) c.pages_to_log-pages.ensures c.in-Ok.ensures.room)

pub invariant_of-self-2 : goal.invariant_of-self-2
invariant_of-self-2 g c =
    keeps_jobs None (events.Reserve c.args.q c.args.request) (reserve_reply c.reserve-answer.result) c.self.invariant c.reserve-answer.ensures.step refl refl
    (reservation_written c.self.inside.world.state c.reserve-answer.new.self.state c.args.q c.args.request c.reserve-answer.result c.self.inside.log.entries c.make_room.new.self.entries c.note_reservation.new.log.entries c.reserve-answer.ensures.step c.reserve-answer.ensures.back c.make_room.ensures.same c.note_reservation.ensures.draft c.note_reservation.ensures.request)

pub returns-clause-step : goal.returns-clause-step
returns-clause-step g c =
    does_in c.self.view_is _ _ _ _ None (events.Reserve c.args.q c.args.request) (reserve_reply c.reserve-answer.result) c.reserve-answer.ensures.step refl
    (reservation_written c.self.inside.world.state c.reserve-answer.new.self.state c.args.q c.args.request c.reserve-answer.result c.self.inside.log.entries c.make_room.new.self.entries c.note_reservation.new.log.entries c.reserve-answer.ensures.step c.reserve-answer.ensures.back c.make_room.ensures.same c.note_reservation.ensures.draft c.note_reservation.ensures.request)

pub returns-clause-memory : goal.returns-clause-memory
returns-clause-memory g c =
    takes_memory (LacksRoomToReserve c.args.self.now c.args.q c.args.request) c.self.view_is c.reserve-answer.new.self.state (events.Reserve c.args.q c.args.request) (reserve_reply c.reserve-answer.result) c.reserve-answer.ensures.step

pub returns-clause-identifier : goal.returns-clause-identifier
returns-clause-identifier g c =
    subst (λ (b : BookContents). IfOk c.reserve-answer.result (λ draft. IsLowest b.world.host c.args.q draft.cid)) c.self.view_is c.reserve-answer.ensures.identifier
