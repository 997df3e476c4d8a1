-- the jobs so far are those of the commands that came
use Rattle.std.proofs.Common.{◌≡◌, map, take}
use Rattle.load.specs.Planning.{job_for}
use Rattle.load.proofs.plan.jobs_of.Given as goal

abbrev pub invariant-loop-planned : goal.invariant-loop-planned
invariant-loop-planned l = l.jobs.items ≡ map (job_for l.layout l.seed l.content l.q) (take l.planned-index l.plan)
