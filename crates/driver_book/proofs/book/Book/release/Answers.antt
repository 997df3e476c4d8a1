use Rattle.std.proofs.Common.{◌≡◌, ◌++◌, vec_len, length, take, drop, Some, refl, subst, ap, sym, ◌∙◌}
use Rattle.step_core.specs.Replies.{accept_reply}
use Rattle.driver_book.proofs.Runs.{does_in, keeps_jobs, takes_no_memory}
use Rattle.driver_book.proofs.{StandsInReceipts.{length_settled, settles_in, settles_none, written_back}, book.Book.release.Goals.{then-is_ok, else-is_ok}}
use Rattle.driver_book.specs.{Calls.IsLogFull, Seats.AreSettled, State.BookContents}
use Rattle.machine_model.specs.Events as events
use Rattle.driver_book.proofs.book.Book.release.Goals as goal

pub invariant_of-self-2 : goal.invariant_of-self-2
invariant_of-self-2 g c =
    keeps_jobs (Some c.seat.inside.number) (events.Release c.args.finished) (accept_reply c.release-answer.result) c.self.invariant c.release-answer.ensures.step refl refl
    (rw (c.note.ensures, c.make_room.ensures.same, c.q-q.ensures, c.cid-cid.ensures, c.ended.ensures) refl)

pub returns-clause-step : goal.returns-clause-step
returns-clause-step g c =
    rw (← c.seat.view_is)
    (does_in c.self.view_is _ _ _ _ (Some c.seat.inside.number) (events.Release c.args.finished) (accept_reply c.release-answer.result) c.release-answer.ensures.step refl
    (rw (c.note.ensures, c.make_room.ensures.same, c.q-q.ensures, c.cid-cid.ensures, c.ended.ensures) refl))

pub returns-clause-memory : goal.returns-clause-memory
returns-clause-memory g c =
    takes_no_memory (IsLogFull c.args.self.now) c.self.inside.world.state c.release-answer.new.self.state (events.Release c.args.finished) (accept_reply c.release-answer.result) refl c.release-answer.ensures.step

pub invariant_of-seat : goal.invariant_of-seat
invariant_of-seat g c =
    let receipts = c.seat.inside.receipts.items in
    let long : vec_len c.seat.inside.receipts ≡ length receipts = sym c.as_mut_slice.ensures.len ∙ ap length c.as_mut_slice.ensures.value in
    let same : length c.settle-seat-inside.new.receipts ≡ length receipts = ap length c.settle-seat-inside.ensures.receipts ∙ length_settled c.q-q.result c.cid-cid.result c.status_of-status.result c.as_mut_slice.result.now ∙ ap length c.as_mut_slice.ensures.value in
    let back = written_back (vec_len c.seat.inside.receipts) receipts c.settle-seat-inside.new.receipts long same in
    (c.seat.invariant.0, c.seat.invariant.1 ∙ sym same ∙ sym (ap length back), subst (AreSettled c.settle-seat-inside.result) (sym back) c.settle-seat-inside.ensures.settled)

pub returns-clause-receipt : goal.returns-clause-receipt
returns-clause-receipt g c =
    let receipts = c.seat.inside.receipts.items in
    elim c.if-is_ok.branch [
      | then-is_ok w ↦
          let long : vec_len c.seat.inside.receipts ≡ length receipts = sym w.as_mut_slice.ensures.len ∙ ap length w.as_mut_slice.ensures.value in
          let same : length w.settle-seat-inside.new.receipts ≡ length receipts = ap length w.settle-seat-inside.ensures.receipts ∙ length_settled c.q-q.result c.cid-cid.result c.status_of-status.result w.as_mut_slice.result.now ∙ ap length w.as_mut_slice.ensures.value in
          rw w.seat-is
          (settles_in c.seat.view_is (ap (λ (b : BookContents). b.world) c.self.view_is) c.args.finished c.release-answer.result (sym c.is_ok.ensures.value ∙ w.if-is_ok.true)
          (take (vec_len c.seat.inside.receipts) (w.settle-seat-inside.new.receipts ++ drop (length w.settle-seat-inside.new.receipts) receipts))
          (written_back (vec_len c.seat.inside.receipts) receipts w.settle-seat-inside.new.receipts long same ∙ w.settle-seat-inside.ensures.receipts ∙ rw (c.status_of-status.ensures, c.q-q.ensures, c.cid-cid.ensures, w.as_mut_slice.ensures.value) refl))
      | else-is_ok w ↦ settles_none c.args.self.now.world c.args.finished c.release-answer.result (sym c.is_ok.ensures.value ∙ w.if-is_ok.false) w.seat-is
    ]
