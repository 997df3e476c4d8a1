-- What walk steps answer, and how many a job has done; and what a Compare tells.
use Rattle.std.specs.List.{list_any}
use Rattle.std.specs.Prelude.{◌≡◌, ℕ, nat_lt, ◌==◌, Bool, false, ◌&&◌, ◌||◌, not, IsTrue, Some, List, ◌∷◌, ◌++◌, length, filter, is_none}
use Rattle.controller_walk.specs.{Walks.is_more, declared.walk.WalkState.WalkState}
use Rattle.entry_codec.specs.declared.status.Status.{Status}
use Rattle.entry_codec.specs.declared.status.TheConstants.Status.{ABORT_REQUESTED, ABORTED_SQ_DELETION, LBA_OUT_OF_RANGE, COMPARE_FAILURE}
use Rattle.io_commands.specs.{Drafts.DraftContents, declared.request.Kind.TheVariants.Compare}
use Rattle.machine_model.specs.{Events.{Event, Reply}, Image.{Made, draft_of}, Refusals.job_at, State.{State, Job}, Status.same_status, Step.Step}
use Rattle.machine_model.specs.Trusted.{TrustedRun, is_reset, drafts_of}
use Rattle.run_laws.specs.{Blocks.compared, Statuses.{since_fetch, status_given}}
use Rattle.machine_model.specs.Events as events

abbrev pub walks_by : ℕ → ℕ → Event → Reply → Bool
walks_by q cid (events.Walk q' cid') (events.Walked outcome touched) = (q' == q) && (cid' == cid)
walks_by q cid e reply = false

-- whether a step is an accepted walk step of this command
abbrev pub walks_of : ℕ → ℕ → Made → Bool
walks_of q cid m = walks_by q cid m.event m.reply

-- how often a command was walked since its fetch
abbrev pub times_walked : ℕ → ℕ → List Made → ℕ
times_walked q cid made = length (filter (walks_of q cid) (since_fetch q cid made))

abbrev pub units_done_count_the_walks : Type 0
units_done_count_the_walks =
    (image : List ℕ) (made : List Made) (end : State) (q cid : ℕ) (j : Job) → TrustedRun image made end → IsTrue (nat_lt 0 q)
    → job_at end q cid ≡ Some j → j.units_done ≡ times_walked q cid made

-- the job after a walk step has no verdict exactly where the step answers that the walk goes on
pub record HasJobSo (s : State) (q cid : ℕ) (outcome : WalkState) : Type 0 where
  pub job : Job
  pub found : job_at s q cid ≡ Some job
  pub undecided : is_none job.verdict ≡ is_more outcome

abbrev pub walks_go_on_without_a_verdict : Type 0
walks_go_on_without_a_verdict =
    (image : List ℕ) (made : List Made) (s new : State) (q cid : ℕ) (outcome : WalkState) (touched : List ℕ) → TrustedRun image made s
    → Step s (events.Walk q cid) (events.Walked outcome touched) new → HasJobSo new q cid outcome

abbrev pub completes_by : ℕ → ℕ → Event → Reply → Bool
completes_by q cid (events.Complete q' cid') (events.Completed touched) = (q' == q) && (cid' == cid)
completes_by q cid e reply = false

-- whether a step completes this command
abbrev pub completes : ℕ → ℕ → Made → Bool
completes q cid m = completes_by q cid m.event m.reply

-- whether this command's job is no longer there after a step: it completes the command, or resets the controller
abbrev pub ends_job : ℕ → ℕ → Made → Bool
ends_job q cid m = completes q cid m || is_reset m

abbrev pub ends_walk_by : ℕ → ℕ → Event → Reply → Bool
ends_walk_by q cid (events.Walk q' cid') (events.Walked outcome touched) = (q' == q) && (cid' == cid) && not (is_more outcome)
ends_walk_by q cid e reply = false

-- whether a step is a walk step of this command that answers an end or a fault
abbrev pub ends_walk : ℕ → ℕ → Made → Bool
ends_walk q cid m = ends_walk_by q cid m.event m.reply

-- between a walk step that ends the walk and a further walk step of its identifier, the command was completed, or the controller reset
abbrev pub only_the_last_walk_ends : Type 0
only_the_last_walk_ends =
    (image : List ℕ) (before : List Made) (walked : Made) (between : List Made) (again : Made) (later : List Made) (end : State) (q cid : ℕ)
    → TrustedRun image (before ++ walked ∷ between ++ again ∷ later) end
    → IsTrue (ends_walk q cid walked) → IsTrue (walks_of q cid again) → IsTrue (list_any (ends_job q cid) between)

-- a Compare, as its draft says, that was neither stopped nor beyond the image ends as its draft says, too
abbrev pub compares_by_their_drafts : Type 0
compares_by_their_drafts =
    (image : List ℕ) (earlier later : List Made) (m : Made) (end : State) (q cid : ℕ) (st : Status) (d : DraftContents) → TrustedRun image (earlier ++ m ∷ later) end
    → status_given m q cid ≡ Some st → draft_of q cid (drafts_of earlier) ≡ Some d → d.request.kind ≡ Compare
    → IsTrue (not (same_status st ABORT_REQUESTED || same_status st ABORTED_SQ_DELETION || same_status st LBA_OUT_OF_RANGE))
    → st ≡ compared d m.before.controller.image

-- and no other command fails as a Compare: the latest draft of a command that does is one
abbrev pub compare_failures_are_of_compares : Type 0
compare_failures_are_of_compares =
    (image : List ℕ) (earlier later : List Made) (m : Made) (end : State) (q cid : ℕ) → TrustedRun image (earlier ++ m ∷ later) end → IsTrue (nat_lt 0 q)
    → status_given m q cid ≡ Some COMPARE_FAILURE
    → (d : DraftContents) × (draft_of q cid (drafts_of earlier) ≡ Some d) × (d.request.kind ≡ Compare)
