-- What a bench does, with the tables between its steps, and the run of the machine that its steps make with the values that it keeps.
use Rattle.std.specs.{List.list_any, Prelude.{◌≡◌, ℕ, Bool, true, false, not, IsTrue, None, List, [], ◌∷◌, map, if◌then◌else◌}}
use Rattle.block_image.specs.Blocks.{IsImage}
use Rattle.machine_model.specs.{Image.Made, Script.{Table, table}, Trusted.TrustedRun}
use Rattle.step_core.specs.{Bench.{Does, DoesAll, event_at}, Going.forges_by, Laws.made_from, Opening.opening_of, Values.{Reply, Step}}
use Rattle.host_core.specs.{Opening.refusal_of_config, declared.config.Config.Config}
use Rattle.step_core.specs.declared.step.Step.TheVariants as step

-- Steps of a bench

-- a step of a bench as it was made: the table before it, the step, its answer, and the table after it
pub record Done : Type 0 where
  pub before : Table
  pub what : Step
  pub answer : Reply
  pub after : Table
  pub does : Does before what answer after

-- the steps, one after the other, from a table to a table
abbrev pub Goes : Table → List Done → Table → Type 0
Goes t [] end = end ≡ t
Goes t (d ∷ done) end = (d.before ≡ t) × Goes d.after done end

-- steps and answers with the tables between them
pub record HasTables (t : Table) (steps : List Step) (answers : List Reply) (end : Table) : Type 0 where
  pub done : List Done
  pub steps_are : map (λ (d : Done). d.what) done ≡ steps
  pub answers_are : map (λ (d : Done). d.answer) done ≡ answers
  pub goes : Goes t done end

abbrev pub benches_have_tables : Type 0
benches_have_tables = (t end : Table) (steps : List Step) (answers : List Reply) → DoesAll t steps answers end → HasTables t steps answers end

-- whether a step forged an entry
abbrev pub is_forgery : Done → Bool
is_forgery d = forges_by d.what d.answer

-- whether a step is a reset
abbrev pub resets_by : Step → Bool
resets_by step.Reset = true
resets_by what = false

abbrev pub is_reset : Done → Bool
is_reset d = resets_by d.what

-- the steps after the last reset, and all of them where there is none
abbrev pub since_reset : List Done → List Done
since_reset [] = []
since_reset (d ∷ done) = if list_any is_reset done then since_reset done else if is_reset d then done else d ∷ done

-- a bench that was opened and did these steps, resets among them or not, and in which nothing was forged: none of the steps is an accepted
-- forgery
pub record TrustedBench (image : List ℕ) (done : List Done) (end : Table) : Type 0 where
  pub config : Config
  pub opens : refusal_of_config config ≡ None
  pub is_image : IsImage image
  pub goes : Goes (table (opening_of config image)) done end
  pub unforged : IsTrue (not (list_any is_forgery done))

-- in a bench whose world is trusted nothing was forged since the last reset, or since it opened where there was none: no other step restores
-- the trust
abbrev pub benches_of_trusted_worlds_are_unforged : Type 0
benches_of_trusted_worlds_are_unforged =
    (config : Config) (image : List ℕ) (done : List Done) (end : Table) → Goes (table (opening_of config image)) done end → IsTrue end.world.trusted
    → IsTrue (not (list_any is_forgery (since_reset done)))

-- The machine's steps

-- the machine's steps that a bench's steps are, in their order, one for each that is an event: with the value that the bench keeps under the
-- step's name, and the reply that its answer reports
abbrev pub made_by : List Done → List Made
made_by [] = []
made_by (d ∷ done) = made_from (event_at d.before d.what) d.before d.what d.answer d.after d.does (made_by done)

abbrev pub benches_make_runs_of_their_values : Type 0
benches_make_runs_of_their_values = (image : List ℕ) (done : List Done) (end : Table) → TrustedBench image done end → TrustedRun image (made_by done) end.world
