-- the lines left go on to the same jobs from the jobs so far
use Rattle.std.proofs.Common.{◌≡◌, ◌≤◌, ◌+◌, length}
use Rattle.job_cli.specs.Jobs.{jobs_from, jobs_in}
use Rattle.script_cli.specs.Lines.{lines}
use Rattle.job_cli.proofs.jobs.read_job_lines.Given as goal

abbrev pub invariant-loop-rest : goal.invariant-loop-rest
invariant-loop-rest l = record { most : l.number + length l.rest ≤ length l.fn.text + 1; same : jobs_from l.submitters l.jobs.items l.number (lines l.rest) ≡ jobs_in l.submitters l.fn.text }

abbrev pub decreases-loop-rest : goal.decreases-loop-rest
decreases-loop-rest l = length l.rest
