-- the submitters that are left are counted after those that came
use Rattle.std.proofs.Common.{◌≡◌, length, map}
use Rattle.job_cli.specs.JobLines.{unwell_from, unwell_in}
use Rattle.job_cli.proofs.job_lines.unwell_jobs.Given as goal

abbrev pub invariant-loop-list : goal.invariant-loop-list
invariant-loop-list l = unwell_from l.unwell (map (λ list. list.items) l.left) ≡ unwell_in l.ends

abbrev pub decreases-loop-list : goal.decreases-loop-list
decreases-loop-list l = length l.left
