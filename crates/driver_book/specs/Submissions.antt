-- What an entry of a log says of submissions and of how they ended.
use Rattle.std.specs.Prelude.{ℕ, ◌==◌, ◌&&◌, Option, Some, None, if◌then◌else◌}
use Rattle.entry_codec.specs.declared.status.{Status.Status, TheConstants.Status.ABORTED_SQ_DELETION}
use Rattle.machine_model.specs.declared.words.Reaped.TheVariants.{Done}
use Rattle.driver_book.specs.Entries.{Entry, asked_in}
use Rattle.driver_book.specs.declared.entry.{EndAt.{EndAt, TheVariants.{Nothing, One, Queue, All}}, Submission.Submission}
use Rattle.io_commands.specs.declared.request.RequestOf as declared_request
use Rattle.driver_book.specs.declared.entry.LoggedDraft as declared_draft
use Rattle.step_core.specs.declared.step.Reply as declared_reply
use Rattle.step_core.specs.declared.step.Step as declared_step
use Rattle.step_core.specs.declared.step.Reply.TheVariants as reply
use Rattle.step_core.specs.declared.step.Step.TheVariants as step

-- the submission that a step is, where it was accepted
abbrev pub submitted_by : {R B C P Q : Type 0} → Option ℕ → declared_step.Step R B → declared_reply.Reply C → Option (declared_draft.LoggedDraft (declared_request.RequestOf P) Q) → Option Submission
submitted_by seat (step.Submit q cid) reply.Accepted draft = Some (record { seat = seat; q = q; cid = cid; asked = asked_in draft })
submitted_by seat what answer draft = None

abbrev pub submission_of : Entry → Option Submission
submission_of e = submitted_by e.seat e.step e.answer e.draft

-- which submitted commands a step ended
abbrev pub ended_by : {R B C : Type 0} → declared_step.Step R B → declared_reply.Reply C → EndAt
ended_by (step.Reap q) (reply.Reaps (Done cid status)) = One q cid status
ended_by (step.Retire q) reply.Accepted = Queue q
ended_by step.Reset reply.Accepted = All
ended_by what answer = Nothing

abbrev pub end_of : Entry → EndAt
end_of e = ended_by e.step e.answer

-- the status that a command gets by such an end
abbrev pub given_by : ℕ → ℕ → EndAt → Option Status
given_by q cid Nothing = None
given_by q cid (One of ended status) = if (of == q) && (ended == cid) then Some status else None
given_by q cid (Queue of) = if of == q then Some ABORTED_SQ_DELETION else None
given_by q cid All = Some ABORTED_SQ_DELETION
