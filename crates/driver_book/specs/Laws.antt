-- What holds of every log that leads from an opening.
use Rattle.std.specs.{List.list_any, Prelude.{◌≡◌, ℕ, Bool, true, false, ◌&&◌, not, IsTrue, None, List, [], ◌∷◌, ◌++◌, map, if◌then◌else◌}}
use Rattle.block_image.specs.Blocks.{IsImage}
use Rattle.machine_model.specs.{Image.Made, State.State, Touch.{stays_allowed, stays_own}, Trusted.TrustedRun}
use Rattle.host_core.specs.{Opening.refusal_of_config, declared.config.Config.Config}
use Rattle.step_core.specs.{Going.forges_by, Opening.opening_of, Values.Step}
use Rattle.driver_book.specs.{Entries.Entry, History.{asked, told, draft_of, TellsOf, LeadsTo}, State.AreOfJobs}
use Rattle.step_core.specs.declared.step.Step.TheVariants as step

-- the states before and after an entry of a log, and what it tells of: in a trusted world it names allowed pages alone, and only those of its own queue or command
pub record IsEntryOf (opening : State) (before : List Entry) (e : Entry) (after : List Entry) (world : State) : Type 0 where
  pub old : State
  pub new : State
  pub comes : LeadsTo opening before old
  pub tells : TellsOf old e new
  pub goes : LeadsTo new after world
  pub stays : IsTrue old.trusted → IsTrue (stays_allowed old tells.answer && stays_own old tells.event tells.answer)

abbrev pub entries_name_allowed_pages : Type 0
entries_name_allowed_pages =
    (config : Config) (image : List ℕ) (before : List Entry) (e : Entry) (after : List Entry) (world : State)
    → refusal_of_config config ≡ None → IsImage image → LeadsTo (opening_of config image) (before ++ e ∷ after) world
    → IsEntryOf (opening_of config image) before e after world

-- a log in which no forgery was accepted is a run covered by the machine's laws, resets and all; so is each prefix of it, and each state on the way is trusted
pub record IsTrustedLog (image : List ℕ) (log : List Entry) (world : State) : Type 0 where
  pub made : List Made
  pub happened : map (λ e. e.step) log ≡ map (λ m. asked m.event) made
  pub answered : map (λ e. e.answer) log ≡ map (λ m. told m.reply) made
  pub drafts : map (λ e. e.draft) log ≡ map (λ m. draft_of m.event m.reply) made
  pub run : TrustedRun image made world
  pub trusted : IsTrue world.trusted

abbrev pub is_forgery : Entry → Bool
is_forgery e = forges_by e.step e.answer

abbrev pub logs_are_trusted_runs : Type 0
logs_are_trusted_runs =
    (config : Config) (image : List ℕ) (log : List Entry) (world : State)
    → refusal_of_config config ≡ None → IsImage image → LeadsTo (opening_of config image) log world → IsTrue (not (list_any is_forgery log)) → IsTrustedLog image log world

-- so is a log of the steps of jobs alone
abbrev pub logs_of_jobs_are_trusted_runs : Type 0
logs_of_jobs_are_trusted_runs =
    (config : Config) (image : List ℕ) (log : List Entry) (world : State)
    → refusal_of_config config ≡ None → IsImage image → LeadsTo (opening_of config image) log world → AreOfJobs log → IsTrustedLog image log world

-- Pieces are one history: a log that leads from a state, and one that leads on from where it led, lead there one after the other.
abbrev pub pieces_are_one_history : Type 0
pieces_are_one_history =
    (opening : State) (first : List Entry) (mid : State) (second : List Entry) (world : State)
    → LeadsTo opening first mid → LeadsTo mid second world → LeadsTo opening (first ++ second) world

-- the entries after the last reset, and all of them where there is none
abbrev pub resets : Step → Bool
resets step.Reset = true
resets what = false

abbrev pub is_reset : Entry → Bool
is_reset e = resets e.step

abbrev pub since_reset : List Entry → List Entry
since_reset [] = []
since_reset (e ∷ log) = if list_any is_reset log then since_reset log else if is_reset e then log else e ∷ log

-- a log that leads to a trusted state, from wherever it began, has no accepted forgery since the last reset in it
abbrev pub trusted_ends_are_unforged : Type 0
trusted_ends_are_unforged = (old : State) (log : List Entry) (world : State) → LeadsTo old log world → IsTrue world.trusted → IsTrue (not (list_any is_forgery (since_reset log)))
