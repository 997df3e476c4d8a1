-- Only the first verdict of a command counts.
use Rattle.std.specs.{List.list_any, Prelude.{◌≡◌, ◌⊎◌, ℕ, not, IsTrue, Some, None, List, [], ◌∷◌, ◌++◌, is_some}}
use Rattle.entry_codec.specs.declared.status.{Status.Status, TheConstants.Status.{SUCCESS, COMPARE_FAILURE}}
use Rattle.machine_model.specs.{Events.{Event, Reply}, Image.Made, Refusals.job_at, State.{State, Job}, Step.{Step, resets}, Trusted.{TrustedRun, forges_by}}
use Rattle.machine_model.specs.declared.words.Refusal.TheVariants.{Nothing}
use Rattle.run_laws.specs.Statuses.{status_by, status_given, fetches, is_compare}
use Rattle.machine_model.specs.Events as events

-- A job is there until it completes, or the controller is reset
abbrev pub jobs_stay : Type 0
jobs_stay =
    (image : List ℕ) (made : List Made) (old new : State) (e : Event) (reply : Reply) (q cid : ℕ) (job : Job)
    → TrustedRun image made old → Step old e reply new → IsTrue (not (forges_by e reply)) → IsTrue (not (resets e))
    → job_at old q cid ≡ Some job → status_by old e reply q cid ≡ None → IsTrue (is_some (job_at new q cid))

-- One that has a verdict keeps it for as long: no Abort, no deletion and no walk gives it another, or moves its data on
pub record KeepsVerdict (before after : Job) : Type 0 where
  pub verdict : after.verdict ≡ before.verdict
  pub units_done : after.units_done ≡ before.units_done
  pub bytes : after.bytes ≡ before.bytes

abbrev pub verdicts_stay : Type 0
verdicts_stay =
    (image : List ℕ) (made : List Made) (old new : State) (e : Event) (reply : Reply) (q cid : ℕ) (before after : Job) (st : Status)
    → TrustedRun image made old → Step old e reply new → IsTrue (not (forges_by e reply))
    → job_at old q cid ≡ Some before → before.verdict ≡ Some st → job_at new q cid ≡ Some after → KeepsVerdict before after

-- A walk of it is refused, and nothing changes
pub record IsRefusedWalk (s : State) (reply : Reply) (new : State) : Type 0 where
  pub refused : reply ≡ events.Refused Nothing []
  pub same : new ≡ s

abbrev pub verdicts_end_walks : Type 0
verdicts_end_walks =
    (image : List ℕ) (made : List Made) (s new : State) (reply : Reply) (q cid : ℕ) (job : Job) (st : Status)
    → TrustedRun image made s → Step s (events.Walk q cid) reply new → job_at s q cid ≡ Some job → job.verdict ≡ Some st → IsRefusedWalk s reply new

-- A Compare whose data came without a fault, and differs
pub record FoundDifference (completion : Made) (q cid : ℕ) (verdict st : Status) : Type 0 where
  pub compares : IsTrue (is_compare completion q cid)
  pub no_fault : verdict ≡ SUCCESS
  pub status : st ≡ COMPARE_FAILURE

-- So a command completes with the verdict that its job had at any step since its fetch; only a Compare may find a difference besides
abbrev pub first_verdicts_count : Type 0
first_verdicts_count =
    (image : List ℕ) (earlier : List Made) (m : Made) (between : List Made) (completion : Made) (later : List Made) (end : State) (q cid : ℕ) (job : Job) (verdict st : Status)
    → TrustedRun image (earlier ++ m ∷ between ++ completion ∷ later) end
    → job_at m.before q cid ≡ Some job → job.verdict ≡ Some verdict
    → IsTrue (not (list_any (fetches q cid) (m ∷ between))) → status_given completion q cid ≡ Some st
    → (st ≡ verdict) ⊎ FoundDifference completion q cid verdict st
