-- What was read of the reader has the same jobs as all that it had.
use Rattle.std.proofs.Common.{ℕ, List, Err, sym, ap, subst, ◌∙◌}
use Rattle.job_cli.{proofs.JobRuns.{jobs_are_told, no_jobs_are_told}, specs.Jobs.{jobs_of, IsReadAs}}
use Rattle.job_cli.proofs.job_runs.load_jobs.Goals as goal

pub returns-in-Ok-read_jobs-clause-script : goal.returns-in-Ok-read_jobs-clause-script
returns-in-Ok-read_jobs-clause-script g c =
    jobs_are_told _ c.args.submitters c.in-Ok.text.items c.in-Ok-read_jobs.script c.in-Ok.ensures (ap (jobs_of c.args.submitters) (sym c.deref.ensures.value) ∙ c.in-Ok-read_jobs.ensures.script)

pub returns-clause-fault : goal.returns-clause-fault
returns-clause-fault g c =
    rw c.script_at_fault.ensures (no_jobs_are_told _ c.args.submitters c.in-Ok.text.items c.in-Err.why c.in-Ok.ensures
    (subst (λ (text : List ℕ). IsReadAs (jobs_of c.args.submitters text) (Err c.in-Err.why)) c.deref.ensures.value c.in-Err.ensures.script))
