-- Jobs and their ends, as contracts see them: with requests and lists, wherever their bytes are.
use Rattle.std.specs.Prelude.{ℕ, List}
use Rattle.io_commands.specs.Asked.{Request}
use Rattle.driver_threads.specs.declared.jobs.Job as declared_job
use Rattle.driver_threads.specs.declared.jobs.JobEnd as declared_end

-- a job with data of this type
abbrev pub JobOf : Type 0 → Type 0
JobOf D = declared_job.Job Request D

-- an end that keeps a value of this type
abbrev pub EndOf : Type 0 → Type 0
EndOf K = declared_end.JobEnd K

-- a job whose data are its bytes, and an end that keeps those that were gathered
abbrev pub Job : Type 0
Job = JobOf (List ℕ)

abbrev pub JobEnd : Type 0
JobEnd = EndOf (List ℕ)
