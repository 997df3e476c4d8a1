-- What is said of a script that is checked.
use Rattle.std.specs.Prelude.{◌≡◌, ℕ, List, Ok, Err}
use Rattle.job_cli.specs.{Jobs.{IsReadAs, jobs_of}, declared.jobs.JobLine.JobLine}
use Rattle.script_cli.specs.{Faults.fault_of_script, Scripts.{IsReading, script_of}, declared.fault.{RunFault.RunFault, ScriptFault.ScriptFault}}
use Rattle.script_cli.specs.declared.script.Numbered.{Numbered}

-- a text is a script of steps without faults
abbrev pub AreSteps : List ℕ → Type 0
AreSteps text = (script : List Numbered) × (script_of text ≡ Ok script)

-- a text is none, for this cause
abbrev pub AreNoSteps : List ℕ → RunFault → Type 0
AreNoSteps text fault = (why : ScriptFault) × (fault ≡ fault_of_script why) × IsReading text (Err why)

-- the same of jobs for this many submitters
abbrev pub AreJobs : ℕ → List ℕ → Type 0
AreJobs submitters text = (lines : List JobLine) × (jobs_of submitters text ≡ Ok lines)

abbrev pub AreNoJobs : ℕ → List ℕ → RunFault → Type 0
AreNoJobs submitters text fault = (why : ScriptFault) × (fault ≡ fault_of_script why) × IsReadAs (jobs_of submitters text) (Err why)
