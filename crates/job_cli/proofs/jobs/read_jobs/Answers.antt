-- Each submitter is below their number.
use Rattle.job_cli.proofs.JobRuns.{jobs_are_below}
use Rattle.job_cli.proofs.jobs.read_jobs.Goals as goal

pub returns-clause-below : goal.returns-clause-below
returns-clause-below c = jobs_are_below c.args.submitters c.args.text.now c.read_job_lines.result c.read_job_lines.ensures
