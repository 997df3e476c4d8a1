-- How commands end where nothing was forged: what a reap and a collect answer, and where that comes from.
use Rattle.std.specs.{List.list_any, Option.option_map_or}
use Rattle.std.specs.Prelude.{◌≡◌, ◌⊎◌, ℕ, ◌==◌, nat_lt, Bool, true, false, ◌&&◌, not, IsTrue, Some, List, [], ◌∷◌, ◌++◌, if◌then◌else◌}
use Rattle.entry_codec.specs.declared.{hints.TheConstants.Hints.NONE, status.Status.Status}
use Rattle.entry_codec.specs.declared.status.TheConstants.Status.{SUCCESS, ABORT_REQUESTED, ABORTED_SQ_DELETION, INVALID_OPCODE, INVALID_NAMESPACE, LBA_OUT_OF_RANGE, COMPARE_FAILURE}
use Rattle.io_commands.specs.Values.{FinishedContents}
use Rattle.machine_model.specs.{Events.{Event, Reply}, Image.Made, Refusals.{served_queue, conflicts, record_is, is_submitted}, State.{State, PostedCompletion}}
use Rattle.machine_model.specs.{Step.Step, Trusted.{TrustedRun, is_reset}, declared.words.Reaped.{Reaped, TheVariants.{Empty, Done, AdminDone}}}
use Rattle.run_laws.specs.Statuses.{status_given, has_cause, since_fetch, aborts, deletes, is_unknown, misses_namespace, passes_image, is_compare}
use Rattle.machine_model.specs.Events as events

-- What a reap answers: the oldest completion of the queue, and never a rejection
abbrev pub completions_of : State → ℕ → List PostedCompletion
completions_of s q = option_map_or (λ at. at.completions) (served_queue s q) []

abbrev pub front : ℕ → List PostedCompletion → Reaped
front q [] = Empty
front q (answer ∷ rest) = if q == 0 then AdminDone answer.cid answer.status answer.dw0 else Done answer.cid answer.status

abbrev pub reaps_answer_the_front : Type 0
reaps_answer_the_front =
    (image : List ℕ) (made : List Made) (s new : State) (q : ℕ) (what : Reaped)
    → TrustedRun image made s → Step s (events.Reap q) (events.Reaps what) new → what ≡ front q (completions_of s q)

-- No entry that is next to be fetched has the identifier of a job of its queue
abbrev pub nothing_conflicts : Type 0
nothing_conflicts = (image : List ℕ) (made : List Made) (s : State) (q : ℕ) → TrustedRun image made s → conflicts s q ≡ false

-- Steps that submit a command, and that retire a queue
abbrev pub submits_by : ℕ → ℕ → Event → Reply → Bool
submits_by q cid (events.Submit d) events.Accepted = (d.q == q) && (d.cid == cid)
submits_by q cid e reply = false

abbrev pub submits : ℕ → ℕ → Made → Bool
submits q cid m = submits_by q cid m.event m.reply

abbrev pub retires_by : ℕ → Event → Reply → Bool
retires_by q (events.Retire k) events.Accepted = k == q
retires_by q e reply = false

abbrev pub retires : ℕ → Made → Bool
retires q m = retires_by q m.event m.reply

-- A queue has another submission side once it is retired, once it is asked for anew, and once the controller is reset
abbrev pub renews_by : ℕ → Event → Reply → Bool
renews_by q (events.Retire k) events.Accepted = k == q
renews_by q (events.CreateSq k) (events.Sent id) = k == q
renews_by q events.Reset events.Accepted = true
renews_by q e reply = false

abbrev pub renews : ℕ → Made → Bool
renews q m = renews_by q m.event m.reply

-- the steps since then, and all of them where there was none of that
abbrev pub since_renewed : ℕ → List Made → List Made
since_renewed q [] = []
since_renewed q (m ∷ made) = if list_any (renews q) made then since_renewed q made else if renews q m then made else m ∷ made

-- A command completed with this status, which had its cause, and was not submitted anew since
pub record WasCompleted (earlier : List Made) (q cid : ℕ) (st : Status) : Type 0 where
  pub before : List Made
  pub completion : Made
  pub between : List Made
  pub parts : earlier ≡ before ++ completion ∷ between
  pub given : status_given completion q cid ≡ Some st
  pub since : IsTrue (not (list_any (submits q cid) between))
  pub cause : IsTrue (has_cause before completion q cid st)

-- A command was submitted as its queue was retired, and was not submitted anew since; a deletion of that queue, and of no queue of its number
-- that was there before, had been fetched: it was lost
pub record WasLost (earlier : List Made) (q cid : ℕ) (st : Status) : Type 0 where
  pub before : List Made
  pub retirement : Made
  pub between : List Made
  pub parts : earlier ≡ before ++ retirement ∷ between
  pub status : st ≡ ABORTED_SQ_DELETION
  pub retired : IsTrue (retires q retirement)
  pub submitted : IsTrue (record_is (λ r. is_submitted r.phase) retirement.before q cid)
  pub since : IsTrue (not (list_any (submits q cid) between))
  pub deleted : IsTrue (list_any (deletes q) (since_renewed q before))

-- A command was submitted as the controller was reset, and was not submitted anew since: it was lost
pub record WasLostByReset (earlier : List Made) (q cid : ℕ) (st : Status) : Type 0 where
  pub before : List Made
  pub reset : Made
  pub between : List Made
  pub parts : earlier ≡ before ++ reset ∷ between
  pub status : st ≡ ABORTED_SQ_DELETION
  pub resets : IsTrue (is_reset reset)
  pub submitted : IsTrue (record_is (λ r. is_submitted r.phase) reset.before q cid)
  pub since : IsTrue (not (list_any (submits q cid) between))

-- A reap answers for a command of an I/O queue what its completion gave
abbrev pub ends_come_from_completions : Type 0
ends_come_from_completions =
    (image : List ℕ) (earlier later : List Made) (m : Made) (end : State) (q cid : ℕ) (st : Status) → TrustedRun image (earlier ++ m ∷ later) end
    → IsTrue (nat_lt 0 q) → m.event ≡ events.Reap q → m.reply ≡ events.Reaps (Done cid st) → WasCompleted earlier q cid st

-- A queue that is retired was deleted: a Delete SQ of it was fetched before, since it was last retired, since it was last asked for anew, and
-- since the controller was last reset
abbrev pub retired_queues_were_deleted : Type 0
retired_queues_were_deleted =
    (image : List ℕ) (earlier later : List Made) (m : Made) (end : State) (q : ℕ) → TrustedRun image (earlier ++ m ∷ later) end
    → IsTrue (retires q m) → IsTrue (list_any (deletes q) (since_renewed q earlier))

-- The command's completion gave what a collect answers, or the command was lost, with its queue or by a reset
abbrev pub collects_tell_how_commands_ended : Type 0
collects_tell_how_commands_ended =
    (image : List ℕ) (earlier later : List Made) (m : Made) (end : State) (q cid : ℕ) (f : FinishedContents) → TrustedRun image (earlier ++ m ∷ later) end
    → m.event ≡ events.Collect q cid → m.reply ≡ events.Collects f → WasCompleted earlier q cid f.status ⊎ WasLost earlier q cid f.status ⊎ WasLostByReset earlier q cid f.status

-- and it reports no hint: the controller gives none
abbrev pub collects_tell_no_hints : Type 0
collects_tell_no_hints =
    (image : List ℕ) (earlier later : List Made) (m : Made) (end : State) (q cid : ℕ) (f : FinishedContents) → TrustedRun image (earlier ++ m ∷ later) end
    → m.event ≡ events.Collect q cid → m.reply ≡ events.Collects f → f.hints ≡ NONE

-- The seven statuses of a command that was collected, each with its cause: it succeeded; an Abort of it, or a deletion of its queue, was
-- fetched while it was at the controller; it was lost with its queue, or by a reset; the controller does not have it; its namespace was another than 1; its blocks passed the
-- image's end; a Compare found a difference
pub data CauseOfEnd (earlier : List Made) (q cid : ℕ) (st : Status) : Type 0 where
  Succeeded : WasCompleted earlier q cid st → st ≡ SUCCESS → CauseOfEnd earlier q cid st
  Aborted : (end : WasCompleted earlier q cid st) → st ≡ ABORT_REQUESTED → IsTrue (list_any (aborts q cid) (since_fetch q cid end.before)) → CauseOfEnd earlier q cid st
  Stopped : (end : WasCompleted earlier q cid st) → st ≡ ABORTED_SQ_DELETION → IsTrue (list_any (deletes q) (since_fetch q cid end.before)) → CauseOfEnd earlier q cid st
  Lost : WasLost earlier q cid st → CauseOfEnd earlier q cid st
  LostByReset : WasLostByReset earlier q cid st → CauseOfEnd earlier q cid st
  Unknown : (end : WasCompleted earlier q cid st) → st ≡ INVALID_OPCODE → IsTrue (is_unknown end.completion q cid) → CauseOfEnd earlier q cid st
  WithoutNamespace : (end : WasCompleted earlier q cid st) → st ≡ INVALID_NAMESPACE → IsTrue (misses_namespace end.completion q cid) → CauseOfEnd earlier q cid st
  PastImage : (end : WasCompleted earlier q cid st) → st ≡ LBA_OUT_OF_RANGE → IsTrue (passes_image end.completion q cid) → CauseOfEnd earlier q cid st
  Differed : (end : WasCompleted earlier q cid st) → st ≡ COMPARE_FAILURE → IsTrue (is_compare end.completion q cid) → CauseOfEnd earlier q cid st

abbrev pub every_collect_has_its_cause : Type 0
every_collect_has_its_cause =
    (image : List ℕ) (earlier later : List Made) (m : Made) (end : State) (q cid : ℕ) (f : FinishedContents) → TrustedRun image (earlier ++ m ∷ later) end
    → m.event ≡ events.Collect q cid → m.reply ≡ events.Collects f → CauseOfEnd earlier q cid f.status

-- Each command ends once: between two completions of its identifier it was submitted anew, and so between two reaps that end it, and
-- between two collects
abbrev pub commands_complete_once : Type 0
commands_complete_once =
    (image : List ℕ) (earlier : List Made) (first : Made) (between : List Made) (second : Made) (later : List Made) (end : State) (q cid : ℕ) (st st' : Status)
    → TrustedRun image (earlier ++ first ∷ between ++ second ∷ later) end → IsTrue (nat_lt 0 q)
    → status_given first q cid ≡ Some st → status_given second q cid ≡ Some st' → IsTrue (list_any (submits q cid) between)

abbrev pub ends_are_told_once : Type 0
ends_are_told_once =
    (image : List ℕ) (earlier : List Made) (first : Made) (between : List Made) (second : Made) (later : List Made) (end : State) (q cid : ℕ) (st st' : Status)
    → TrustedRun image (earlier ++ first ∷ between ++ second ∷ later) end → IsTrue (nat_lt 0 q)
    → first.event ≡ events.Reap q → first.reply ≡ events.Reaps (Done cid st) → second.event ≡ events.Reap q → second.reply ≡ events.Reaps (Done cid st')
    → IsTrue (list_any (submits q cid) between)

abbrev pub commands_are_collected_once : Type 0
commands_are_collected_once =
    (image : List ℕ) (earlier : List Made) (first : Made) (between : List Made) (second : Made) (later : List Made) (end : State) (q cid : ℕ) (f f' : FinishedContents)
    → TrustedRun image (earlier ++ first ∷ between ++ second ∷ later) end
    → first.event ≡ events.Collect q cid → first.reply ≡ events.Collects f → second.event ≡ events.Collect q cid → second.reply ≡ events.Collects f'
    → IsTrue (list_any (submits q cid) between)

-- A step ends a submitted command: a reap takes its completion, its queue is retired, or the controller is reset
abbrev pub ends_by : ℕ → ℕ → State → Event → Reply → Bool
ends_by q cid s (events.Reap k) (events.Reaps (Done c st)) = (k == q) && (c == cid)
ends_by q cid s (events.Retire k) events.Accepted = (k == q) && record_is (λ r. is_submitted r.phase) s q cid
ends_by q cid s events.Reset events.Accepted = record_is (λ r. is_submitted r.phase) s q cid
ends_by q cid s e reply = false

abbrev pub ends : ℕ → ℕ → Made → Bool
ends q cid m = ends_by q cid m.before m.event m.reply

-- and in one of these ways alone: between two such steps it was submitted anew
abbrev pub submitted_commands_end_once : Type 0
submitted_commands_end_once =
    (image : List ℕ) (earlier : List Made) (first : Made) (between : List Made) (second : Made) (later : List Made) (end : State) (q cid : ℕ)
    → TrustedRun image (earlier ++ first ∷ between ++ second ∷ later) end → IsTrue (nat_lt 0 q)
    → IsTrue (ends q cid first) → IsTrue (ends q cid second) → IsTrue (list_any (submits q cid) between)
