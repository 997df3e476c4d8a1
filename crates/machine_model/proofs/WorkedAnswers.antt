-- What the second step of a walk may answer, computed.
use Rattle.std.proofs.Common.{◌≡◌, ℕ, Option, Some, None, MatchOption, List, [], ◌∷◌, refl, subst}
use Rattle.page_memory.specs.{Memory.bytes_at, Pages.zero_page}
use Rattle.sgl_descriptor.specs.Spelling.{descriptor_of}
use Rattle.entry_codec.specs.{Completion.{completion_bytes, completion_of}, Submission.{submission_bytes, submission_of}}
use Rattle.controller_walk.specs.{Units.{moving, from_place}, declared.walk.WalkState.{WalkState, TheVariants.More}}
use Rattle.machine_model.specs.{After.{next_unit, next_answer}, Refusals.job_at, State.{State, Job}, Step.{Answers, unit_answered}}
use Rattle.machine_model.specs.WorkedLaws.{walking, SecondStepTouches}
use Rattle.machine_model.specs.Events as events

abbrev AnswersOf : State → WalkState → List ℕ → Option Job → Type 0
AnswersOf s outcome pages o = MatchOption o ⊥ (λ j. unit_answered (next_unit s j) (next_answer s j) outcome pages)

answers_by : (s : State) (q cid : ℕ) (outcome : WalkState) (pages : List ℕ) (o : Option Job) → job_at s q cid ≡ o → AnswersOf s outcome pages o → Answers s (events.Walk q cid) (events.Walked outcome pages)
answers_by s q cid outcome pages None e h = absurd h
answers_by s q cid outcome pages (Some j) e h = (j, e, h)

answered_by : (s : State) (outcome : WalkState) (pages : List ℕ) (o : Option Job) (j : Job) → o ≡ Some j → unit_answered (next_unit s j) (next_answer s j) outcome pages → AnswersOf s outcome pages o
answered_by s outcome pages None j e h = absurd cc
answered_by s outcome pages (Some k) j e h =
    let same : j ≡ k = cc in
    subst (λ (k : Job). unit_answered (next_unit s k) (next_answer s k) outcome pages) same h

pub touches : SecondStepTouches (7 ∷ [])
unfolding zero_page bytes_at descriptor_of submission_bytes submission_of completion_bytes completion_of moving from_place
touches = answers_by walking 1 0 More (7 ∷ []) (job_at walking 1 0) refl (refl, refl)

pub touches_something : SecondStepTouches [] → ⊥
unfolding zero_page bytes_at descriptor_of submission_bytes submission_of completion_bytes completion_of moving from_place
touches_something h =
    let pair = answered_by walking More [] (job_at walking 1 0) h.0 h.1 h.2 in
    let none : ◌≡◌ {A = List ℕ} (7 ∷ []) [] = pair.1 in
    absurd cc
