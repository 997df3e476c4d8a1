-- What is kept of the lines of jobs while these run.
use Rattle.std.specs.Io.KnownBytes.{Keeps}
use Rattle.std.specs.Prelude.{◌≡◌, ◌⊎◌, ℕ, Option, Some, None, option_and_then, is_some, List, [], ◌∷◌, ◌++◌, length, slice_get, if◌then◌else◌}
use Rattle.driver_threads.specs.Values.{Job, JobEnd}
use Rattle.host_core.specs.{Opening.refusal_of_config, declared.config.Config.Config}
use Rattle.job_cli.specs.{GoneOn.HasBegun, JobLines.job_text, JobRuns.{IsNoWorld, jobs_for}, declared.{job_runs.Heading.Heading, jobs.JobLine.JobLine}}
use Rattle.machine_model.specs.State.{State}
use Rattle.script_cli.specs.{Inputs.{Gains, IsFront}, declared.fault.RunFault.RunFault}
use Rattle.step_core.specs.Opening.{opening_of}
use Rattle.script_cli.specs.declared.fault.RunFault.TheVariants as run

-- the heading of a job that has this position among the jobs of its submitter
abbrev pub heading_at : ℕ → JobLine → Heading
heading_at place line = record { number = line.number; submitter = line.submitter; kind = line.job.request.kind; place = place }

-- the heading of a job, after the lines before it
abbrev pub heading : List JobLine → JobLine → Heading
heading before line = heading_at (length (jobs_for line.submitter before)) line

abbrev pub headings_from : List JobLine → List JobLine → List Heading
headings_from before [] = []
headings_from before (line ∷ rest) = heading before line ∷ headings_from (before ++ line ∷ []) rest

abbrev pub headings_of : List JobLine → List Heading
headings_of lines = headings_from [] lines

-- how its job ended
abbrev pub end_at : List (List JobEnd) → Heading → Option JobEnd
end_at ends h = option_and_then (λ list. slice_get list h.place) (slice_get ends h.submitter)

abbrev pub headed_text : Heading → Option JobEnd → List ℕ
headed_text h None = []
headed_text h (Some what) = job_text h.number h.submitter h.kind what

-- a job's line and more, where it has ended, and else nothing
abbrev pub headed_and_more : Heading → Option JobEnd → List ℕ → List ℕ
headed_and_more h None more = []
headed_and_more h (Some what) more = headed_text h (Some what) ++ more

-- the lines of the jobs with these headings, up to the first that has not ended
abbrev pub headed_so_far : List (List JobEnd) → List Heading → List ℕ
headed_so_far ends [] = []
headed_so_far ends (h ∷ rest) = headed_and_more h (end_at ends h) (headed_so_far ends rest)

-- the headings starting at that one
abbrev pub without_end : List (List JobEnd) → List Heading → List Heading
without_end ends [] = []
without_end ends (h ∷ rest) = if is_some (end_at ends h) then without_end ends rest else h ∷ rest

-- How a run ends

-- how much of a text is written where jobs over a world that was opened did not all end, or were not all told: all of it where a thread or the close of a book is
-- missing
abbrev pub IsWrittenOf : RunFault → List ℕ → List ℕ → Type 0
IsWrittenOf run.NoThread text whole = text ≡ whole
IsWrittenOf (run.Close why) text whole = text ≡ whole
IsWrittenOf run.Memory text whole = IsFront text whole
IsWrittenOf run.OutputFailed text whole = IsFront text whole
IsWrittenOf other text whole = ⊥

-- These jobs, with these headings, went on from this state to some ends, and this much is written of the lines of those whose turn came.
pub record IsCutShort (before : State) (all : List (List Job)) (headings : List Heading) (old new : Option (List ℕ)) (why : RunFault) : Type 0 where
  pub ends : List (List JobEnd)
  pub world : State
  pub begun : HasBegun before all ends world
  pub written : Gains old new (λ text. IsWrittenOf why text (headed_so_far ends headings))

-- why a run of jobs left no world, and what was then written: none was opened, and nothing was written, or the jobs were cut short
abbrev pub IsNoRun : Config → List ℕ → List (List Job) → List Heading → Option (List ℕ) → Option (List ℕ) → RunFault → Type 0
IsNoRun config image all headings old new why =
    (IsNoWorld config why × Keeps old new) ⊎ ((refusal_of_config config ≡ None) × IsCutShort (opening_of config image) all headings old new why)
