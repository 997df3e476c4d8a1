use Rattle.std.proofs.Common.{◌≡◌, ◌⊎◌, ◌∷◌, [], ◌++◌, List, Bool, true, false, not, inl, ◌-◌, vec_capacity, vec_len, Some, length, length-append, refl, ap, sym, ◌∙◌, rules}
use Rattle.io_commands.specs.{Asked.Request, Drafts.DraftContents}
use Rattle.step_core.specs.Replies.{accept_reply}
use Rattle.driver_book.proofs.Runs.{accepts_book, draft_refused, draft_taken, keeps_jobs, of_drafts, refused_submission, submission_entries, submission_written, submits_in, lacks_as, takes_no_memory, wants_room}
use Rattle.driver_book.proofs.{Latest.{learns_in, learns_none}, StandsInReceipts.{receives_in, receives_none, settled_appended}}
use Rattle.driver_book.specs.{Calls.{LacksRoomToSubmit, AreReceiptsFull, HasNoTable}, History.entry_of, Latest.SubmissionsContents, State.BookContents}
use Rattle.machine_model.specs.Events as events
use Rattle.driver_book.proofs.book.Book.submit.Goals as goal

pub returns-in_default-clause-memory : goal.returns-in_default-clause-memory
returns-in_default-clause-memory g c =
    wants_room _ _ c.unlogged.ensures.why
    (inl (rw (← c.self.view_is) (lacks_as c.self.inside.log.room (length c.pieces-pieces.result.now) (length c.pages.result.now) _ _ (ap length c.pieces-pieces.ensures ∙ ap (λ (r : Request). length r.pieces) c.request.ensures.request) (ap length c.pages.ensures ∙ length-append c.args.draft.data_pages c.args.draft.chain_pages) c.in_default.ensures.full)))

pub invariant_of-self-then-is_err : goal.invariant_of-self-then-is_err
invariant_of-self-then-is_err g c =
    let isnt = c.is_err.ensures.negation ∙ ap not c.if-is_err.true in
    let written = submission_entries (Some c.seat.inside.number) c.self.inside.world.state c.submit-answer.new.self.state c.args.draft c.submit-answer.result c.self.inside.log.entries c.push_submission.new.self c.note_refused.new.log c.submit-answer.ensures.step (rw (c.push_submission.ensures.entries, c.make_room.ensures.same) refl) c.note_refused.ensures.accepted c.note_refused.ensures.refused in
    of_drafts
    (keeps_jobs (Some c.seat.inside.number) (events.Submit c.args.draft) (accept_reply c.submit-answer.result) c.self.invariant c.submit-answer.ensures.step refl (refused_submission c.args.draft c.submit-answer.result isnt) written)
    (ap (λ (s : SubmissionsContents). s.drafts) (c.begin_with.ensures.same ∙ c.in-Ok-make_table.ensures.made))

pub returns-then-is_err-clause-step : goal.returns-then-is_err-clause-step
returns-then-is_err-clause-step g c =
    let isnt = c.is_err.ensures.negation ∙ ap not c.if-is_err.true in
    let drafts = ap (λ (s : SubmissionsContents). s.drafts) (c.begin_with.ensures.same ∙ c.in-Ok-make_table.ensures.made) in
    let written = submission_entries (Some c.seat.inside.number) c.self.inside.world.state c.submit-answer.new.self.state c.args.draft c.submit-answer.result c.self.inside.log.entries c.push_submission.new.self c.note_refused.new.log c.submit-answer.ensures.step (rw (c.push_submission.ensures.entries, c.make_room.ensures.same) refl) c.note_refused.ensures.accepted c.note_refused.ensures.refused in
    rw (← c.seat.view_is)
    (submits_in c.self.view_is _ _ _ _ _ _ (Some c.seat.inside.number) c.args.draft c.submit-answer.result c.submit-answer.ensures.step (drafts ∙ draft_refused _ c.args.draft c.submit-answer.result isnt) written)

pub returns-then-is_err-clause-receipt : goal.returns-then-is_err-clause-receipt
returns-then-is_err-clause-receipt g c =
    receives_none c.args.self.now.log c.seat.view_is c.args.draft c.submit-answer.result (c.is_err.ensures.negation ∙ ap not c.if-is_err.true) c.reserve.new.self.items (vec_capacity c.reserve.new.self - vec_len c.reserve.new.self) c.reserve.ensures.items

pub returns-then-is_err-clause-known : goal.returns-then-is_err-clause-known
returns-then-is_err-clause-known g c =
    learns_none c.args.self.now.log c.seat.view_is c.args.draft c.submit-answer.result (c.is_err.ensures.negation ∙ ap not c.if-is_err.true) _ refl

pub returns-then-is_err-clause-memory : goal.returns-then-is_err-clause-memory
returns-then-is_err-clause-memory g c =
    takes_no_memory (LacksRoomToSubmit c.args.self.now c.args.draft ⊎ AreReceiptsFull c.args.seat.now ⊎ HasNoTable c.args.self.now) c.self.inside.world.state c.submit-answer.new.self.state (events.Submit c.args.draft) (accept_reply c.submit-answer.result) refl c.submit-answer.ensures.step

pub invariant_of-self-2 : goal.invariant_of-self-2
invariant_of-self-2 g c =
    let ok = c.is_err.ensures.negation ∙ ap not c.if-is_err.false in
    let before = ap (λ (s : SubmissionsContents). s.drafts) (c.begin_with.ensures.same ∙ c.in-Ok-make_table.ensures.made) in
    let after = ap (λ (s : SubmissionsContents). s.drafts) (c.known.ensures.same ∙ c.push.ensures) in
    let written = submission_written (Some c.seat.inside.number) c.args.draft c.submit-answer.result c.self.inside.log.entries c.push_submission.new.self c.note_refused.new.log (rw (c.push_submission.ensures.entries, c.make_room.ensures.same) refl) c.note_refused.ensures.accepted c.note_refused.ensures.refused in
    of_drafts (accepts_book c.seat.inside.number c.args.draft c.submit-answer.result ok c.self.invariant c.submit-answer.ensures.step written c.add.ensures.total)
    (after ∙ rw (before, c.of-submitted.ensures) refl)

pub invariant_of-seat-2 : goal.invariant_of-seat-2
invariant_of-seat-2 g c =
    (search rules, search rules, rw (c.push_reserved.ensures.items, c.reserve.ensures.items) (settled_appended c.seat.inside.settled c.seat.inside.receipts.items _ c.seat.invariant.2))

pub returns-clause-step : goal.returns-clause-step
returns-clause-step g c =
    let ok = c.is_err.ensures.negation ∙ ap not c.if-is_err.false in
    let before = ap (λ (s : SubmissionsContents). s.drafts) (c.begin_with.ensures.same ∙ c.in-Ok-make_table.ensures.made) in
    let after = ap (λ (s : SubmissionsContents). s.drafts) (c.known.ensures.same ∙ c.push.ensures) in
    let written = submission_entries (Some c.seat.inside.number) c.self.inside.world.state c.submit-answer.new.self.state c.args.draft c.submit-answer.result c.self.inside.log.entries c.push_submission.new.self c.note_refused.new.log c.submit-answer.ensures.step (rw (c.push_submission.ensures.entries, c.make_room.ensures.same) refl) c.note_refused.ensures.accepted c.note_refused.ensures.refused in
    rw (← c.seat.view_is)
    (submits_in c.self.view_is _ _ _ _ _ _ (Some c.seat.inside.number) c.args.draft c.submit-answer.result c.submit-answer.ensures.step (after ∙ rw (before, c.of-submitted.ensures) refl ∙ draft_taken _ c.args.draft c.submit-answer.result ok) written)

pub returns-clause-receipt : goal.returns-clause-receipt
returns-clause-receipt g c =
    let ok = c.is_err.ensures.negation ∙ ap not c.if-is_err.false in
    let before = ap (λ (s : SubmissionsContents). s.drafts) (c.begin_with.ensures.same ∙ c.in-Ok-make_table.ensures.made) in
    receives_in c.seat.view_is (ap (λ (b : BookContents). b.log) c.self.view_is) c.args.draft c.submit-answer.result ok c.push_reserved.new.self.items (vec_capacity c.push_reserved.new.self - vec_len c.push_reserved.new.self) _
    (rw (c.push_reserved.ensures.items, c.reserve.ensures.items, c.q-q.ensures, c.cid-cid.ensures, c.of-asked.ensures, c.request-2.ensures.request, c.len.ensures, before, c.self.invariant.numbered) refl)

pub returns-clause-known : goal.returns-clause-known
returns-clause-known g c =
    let ok = c.is_err.ensures.negation ∙ ap not c.if-is_err.false in
    let before = ap (λ (s : SubmissionsContents). s.drafts) (c.begin_with.ensures.same ∙ c.in-Ok-make_table.ensures.made) in
    let all = c.known.ensures.all ∙ ap (λ (s : SubmissionsContents). s.drafts) c.push.ensures in
    learns_in c.seat.view_is (ap (λ (b : BookContents). b.log) c.self.view_is) c.args.draft c.submit-answer.result ok c.begin_with.new.self.drafts c.begin_with.ensures.begin (ap length before ∙ c.self.invariant.numbered) _ (all ∙ rw c.of-submitted.ensures refl)
