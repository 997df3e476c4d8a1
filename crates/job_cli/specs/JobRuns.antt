-- What a run of a script of jobs prints, and how it may end.
use Rattle.std.specs.Io.KnownBytes.{Keeps}
use Rattle.std.specs.Prelude.{◌≡◌, ◌<◌, ◌⊎◌, ◌==◌, ◌&&◌, ℕ, Bool, true, Option, Some, None, is_some, option_and_then, Ok, Err, List, [], ◌∷◌, ◌++◌, length, slice_get, if◌then◌else◌}
use Rattle.driver_book.specs.Laws.{IsTrustedLog}
use Rattle.driver_threads.specs.Values.{Job, JobEnd}
use Rattle.machine_model.specs.{Claims.counts_of, State.State, declared.words.OpenRefusal.OpenRefusal}
use Rattle.page_ledger.specs.declared.owner.{Counts.Counts, Owner.Owner}
use Rattle.script_cli.specs.{Inputs.{IsTold, Gains, IsFront}, Owners.{owners_text, counts_line}, Runs.AreOwners, declared.fault.RunFault.RunFault}
use Rattle.script_cli.specs.declared.fault.ScriptFault.{ScriptFault}
use Rattle.job_cli.specs.{GoneOn.{HasBegun, HasGoneOn, logs_of}, JobLines.{job_text, unwell_in}, Jobs.jobs_of, declared.jobs.JobLine.JobLine}
use Rattle.host_core.specs.{Opening.refusal_of_config, declared.config.Config.Config}
use Rattle.step_core.specs.Opening.{opening_of}
use Rattle.machine_model.specs.declared.words.OpenRefusal.TheVariants as opening
use Rattle.script_cli.specs.declared.fault.RunFault.TheVariants as run
use Rattle.script_cli.specs.declared.fault.ScriptFault.TheVariants as fault

-- Who does which job

-- a line is of this submitter
abbrev pub is_of : ℕ → JobLine → Bool
is_of submitter line = line.submitter == submitter

-- the jobs of a submitter, in the order of their lines
abbrev pub jobs_for : ℕ → List JobLine → List Job
jobs_for submitter [] = []
jobs_for submitter (line ∷ rest) = if is_of submitter line then line.job ∷ jobs_for submitter rest else jobs_for submitter rest

-- each of this many submitters has its jobs
pub record AreListsOf (submitters : ℕ) (lines : List JobLine) (lists : List (List Job)) : Type 0 where
  pub count : length lists ≡ submitters
  pub each : (s : ℕ) → s < submitters → slice_get lists s ≡ Some (jobs_for s lines)

-- What is printed

-- how the job of a line ended: the n-th job of a submitter, counted over the lines before it, ended as the n-th end of that submitter says
abbrev pub end_of : List (List JobEnd) → List JobLine → JobLine → Option JobEnd
end_of ends before line = option_and_then (λ list. slice_get list (length (jobs_for line.submitter before))) (slice_get ends line.submitter)

-- the line of a job that ended
abbrev pub ended_text : JobLine → Option JobEnd → List ℕ
ended_text line None = []
ended_text line (Some what) = job_text line.number line.submitter line.job.request.kind what

-- the lines of jobs in their order, after those before them
abbrev pub job_lines : List (List JobEnd) → List JobLine → List JobLine → List ℕ
job_lines ends before [] = []
job_lines ends before (line ∷ rest) = ended_text line (end_of ends before line) ++ job_lines ends (before ++ line ∷ []) rest

-- a job's line and more, where it has ended, and else nothing
abbrev pub line_and_more : JobLine → Option JobEnd → List ℕ → List ℕ
line_and_more line None more = []
line_and_more line (Some what) more = ended_text line (Some what) ++ more

-- the lines of jobs in their order, after those before them, up to the first that has not ended
abbrev pub lines_so_far : List (List JobEnd) → List JobLine → List JobLine → List ℕ
lines_so_far ends before [] = []
lines_so_far ends before (line ∷ rest) = line_and_more line (end_of ends before line) (lines_so_far ends (before ++ line ∷ []) rest)

-- each job has its end
abbrev pub all_ended : List (List JobEnd) → List JobLine → List JobLine → Bool
all_ended ends before [] = true
all_ended ends before (line ∷ rest) = is_some (end_of ends before line) && all_ended ends (before ++ line ∷ []) rest

-- what follows the lines of the jobs
abbrev pub closing_text : List Owner → Counts → List ℕ
closing_text owners counts = owners_text owners ++ counts_line counts

-- Rounds of threads, the first over this opening, each other over the world to which the one before led, left a world with these owners and counts, and these jobs ended so. Each was
-- submitted with its own request and bytes, and its end has what was gathered of a command that a book of its round collected under its receipt's queue and identifier; or a book of its
-- round refused it. Each command of theirs ended as its receipt in the report of its round's book says, and the reports have no further receipt. The logs of all
-- rounds have the steps of jobs alone, so that they are, one after the other, one run of which the machine's laws of trusted runs speak.
pub record IsLeftFrom (opening : State) (image : List ℕ) (lists : List (List Job)) (ends : List (List JobEnd)) (owners : List Owner) (counts : Counts) : Type 0 where
  pub world : State
  pub gone_on : HasGoneOn opening lists ends world
  pub trusted : IsTrustedLog image (logs_of gone_on.rounds) world
  pub owned : AreOwners world owners
  pub counted : counts ≡ counts_of world.host

-- what follows the lines of the jobs over a world that is left in this state
abbrev pub IsClosing : State → List ℕ → Type 0
IsClosing left text = (owners : List Owner) × AreOwners left owners × (text ≡ closing_text owners (counts_of left.host))

-- The text of a run of the jobs of these lines, each of its submitter, over a world that opens so over an image: the line of each job, in the order of the script's lines, by its
-- end; then the owners of the world that some rounds of threads left, and then its counts.
pub record IsJobsText (config : Config) (image : List ℕ) (lines : List JobLine) (text : List ℕ) : Type 0 where
  pub lists : List (List Job)
  pub ends : List (List JobEnd)
  pub owners : List Owner
  pub counts : Counts
  pub given : AreListsOf (length lists) lines lists
  pub left : IsLeftFrom (opening_of config image) image lists ends owners counts
  pub ended : all_ended ends [] lines ≡ true
  pub said : text ≡ job_lines ends [] lines ++ closing_text owners counts

-- such a text, in whose ends this many jobs were refused or have a status that is not 0:00
abbrev pub IsCountedText : ℕ → Config → List ℕ → List JobLine → List ℕ → Type 0
IsCountedText unwell config image lines text = (said : IsJobsText config image lines text) × (unwell ≡ unwell_in said.ends)

-- The text of a run of jobs whose later rounds are missing: the line of each job whose turn came, up to the first that has not ended.
pub record IsJobsTextSoFar (config : Config) (image : List ℕ) (lines : List JobLine) (text : List ℕ) : Type 0 where
  pub all : List (List Job)
  pub ends : List (List JobEnd)
  pub world : State
  pub given : AreListsOf (length all) lines all
  pub begun : HasBegun (opening_of config image) all ends world
  pub said : text ≡ lines_so_far ends [] lines

-- what was written of a run that was cut off: a prefix of such a text
abbrev pub IsCutJobsText : Config → List ℕ → List JobLine → List ℕ → Type 0
IsCutJobsText config image lines text =
    (whole : List ℕ) × (IsJobsText config image lines whole ⊎ IsJobsTextSoFar config image lines whole) × IsFront text whole

-- How a run ends

-- a reader has a script for this many submitters without faults, of which these are the jobs
abbrev pub HasJobs : Option (List ℕ) → ℕ → List JobLine → Type 0
HasJobs told submitters lines = (text : List ℕ) × IsTold told text × (jobs_of submitters text ≡ Ok lines)

-- a reader has a script whose first fault this is
abbrev pub HasJobFault : Option (List ℕ) → ℕ → ScriptFault → Type 0
HasJobFault told submitters why = (text : List ℕ) × IsTold told text × (jobs_of submitters text ≡ Err why)

-- why no jobs were read
abbrev pub IsNoJobs : Option (List ℕ) → ℕ → RunFault → Type 0
IsNoJobs told submitters (run.Line number why) = HasJobFault told submitters (fault.Line number why)
IsNoJobs told submitters run.TooLong = HasJobFault told submitters fault.TooLong
IsNoJobs told submitters run.Unreadable = Unit {0}
IsNoJobs told submitters run.Memory = Unit {0}
IsNoJobs told submitters other = ⊥

-- why no world was opened
abbrev pub IsNoWorld : Config → RunFault → Type 0
IsNoWorld config run.BadConfig = refusal_of_config config ≡ Some opening.BadConfig
IsNoWorld config (run.NoPages need free) = refusal_of_config config ≡ Some (opening.NoPages need free)
IsNoWorld config run.Memory = Unit {0}
IsNoWorld config other = ⊥

-- why jobs over a world that was opened did not all end
abbrev pub IsWanting : RunFault → Type 0
IsWanting run.NoThread = Unit {0}
IsWanting (run.Close why) = Unit {0}
IsWanting run.Memory = Unit {0}
IsWanting other = ⊥

-- a reader has a script without faults, and a text that meets a condition is written
abbrev pub WritesJobs : Option (List ℕ) → ℕ → Config → List ℕ → Option (List ℕ) → Option (List ℕ) → (Config → List ℕ → List JobLine → List ℕ → Type 0) → Type 0
WritesJobs told submitters config image before after Holds =
    (lines : List JobLine) × HasJobs told submitters lines × Gains before after (Holds config image lines)

-- a reader has a script without faults, the configuration's refusal is exactly this, and nothing was written
abbrev pub EndsUnwritten : Option (List ℕ) → ℕ → Config → Option OpenRefusal → Option (List ℕ) → Option (List ℕ) → Type 0
EndsUnwritten told submitters config refusal before after =
    (lines : List JobLine) × HasJobs told submitters lines × (refusal_of_config config ≡ refusal) × Keeps before after

-- a reader has a script without faults, the configuration is not refused, and the lines of all jobs whose turn came were written
abbrev pub EndsSoFar : Option (List ℕ) → ℕ → Config → List ℕ → Option (List ℕ) → Option (List ℕ) → Type 0
EndsSoFar told submitters config image before after =
    (lines : List JobLine) × HasJobs told submitters lines × (refusal_of_config config ≡ None) × Gains before after (IsJobsTextSoFar config image lines)

-- what a fault of a run says, and what was then written
abbrev pub EndsJobsWith : Option (List ℕ) → ℕ → Config → List ℕ → Option (List ℕ) → Option (List ℕ) → RunFault → Type 0
EndsJobsWith told submitters config image before after (run.Line number why) = HasJobFault told submitters (fault.Line number why) × Keeps before after
EndsJobsWith told submitters config image before after run.TooLong = HasJobFault told submitters fault.TooLong × Keeps before after
EndsJobsWith told submitters config image before after run.Unreadable = Keeps before after
EndsJobsWith told submitters config image before after run.BadConfig = EndsUnwritten told submitters config (Some opening.BadConfig) before after
EndsJobsWith told submitters config image before after (run.NoPages need free) = EndsUnwritten told submitters config (Some (opening.NoPages need free)) before after
EndsJobsWith told submitters config image before after run.NoThread = EndsSoFar told submitters config image before after
EndsJobsWith told submitters config image before after (run.Close why) = EndsSoFar told submitters config image before after
EndsJobsWith told submitters config image before after run.Memory = Keeps before after ⊎ WritesJobs told submitters config image before after IsCutJobsText
EndsJobsWith told submitters config image before after run.OutputFailed = WritesJobs told submitters config image before after IsCutJobsText
