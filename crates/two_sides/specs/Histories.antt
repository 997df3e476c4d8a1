-- States with a history: some run from an opening leads there, in which nothing was forged.
use Rattle.std.specs.{List.list_any, Prelude.{ℕ, List, [], ◌∷◌, ◌||◌, if◌then◌else◌, IsTrue, not}}
use Rattle.machine_model.specs.{Events.{Event, Reply}, Image.Made, Opening.{opening, Opens}, State.State, Step.{Step, resets}}
use Rattle.machine_model.specs.Trusted.{Steps, TrustedRun, is_forgery, is_reset}
use Rattle.block_image.specs.Blocks.{IsImage}
use Rattle.machine_model.specs.Events as events

pub record HasHistory (s : State) : Type 0 where
  pub image : List ℕ
  pub made : List Made
  pub run : TrustedRun image made s

abbrev pub openings_have_histories : Type 0
openings_have_histories =
    (pages queues n s : ℕ) (image : List ℕ) → Opens pages queues n s → IsImage image → HasHistory (opening pages queues n s image)

-- a step that leads to a trusted state came from one or is a reset, and makes a history one step longer
abbrev pub steps_make_histories : Type 0
steps_make_histories =
    (old : State) (e : Event) (reply : Reply) (new : State) → Step old e reply new → IsTrue new.trusted
    → IsTrue (old.trusted || resets e) × (HasHistory old → HasHistory new)

-- a run in which nothing was forged ends in a trusted state
abbrev pub unforged_runs_end_trusted : Type 0
unforged_runs_end_trusted = (image : List ℕ) (made : List Made) (end : State) → TrustedRun image made end → IsTrue end.trusted

-- the steps after the last reset, and all of them where there is none
abbrev pub since_reset : List Made → List Made
since_reset [] = []
since_reset (m ∷ made) = if list_any is_reset made then since_reset made else if is_reset m then made else m ∷ made

-- and steps that lead to a trusted state forged nothing since the last reset, from wherever they began: no other event restores the trust
abbrev pub trusted_ends_are_unforged : Type 0
trusted_ends_are_unforged = (made : List Made) (s end : State) → Steps s made end → IsTrue end.trusted → IsTrue (not (list_any is_forgery (since_reset made)))

-- a reset leaves a trusted state, whatever was forged
abbrev pub resets_restore_trust : Type 0
resets_restore_trust = (old : State) (reply : Reply) (new : State) → Step old events.Reset reply new → IsTrue new.trusted
