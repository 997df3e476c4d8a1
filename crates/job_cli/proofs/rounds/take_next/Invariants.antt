-- the jobs taken and those left are all
use Rattle.std.proofs.Common.{◌≡◌, ◌-◌, ◌≤◌, ◌++◌, vec_len, vec_capacity}
use Rattle.job_cli.proofs.rounds.take_next.Given as goal

abbrev pub invariant-loop-left : goal.invariant-loop-left
invariant-loop-left l = record {
  few : vec_len l.jobs ≤ l.count;
  room : vec_capacity l.jobs ≡ l.count;
  next : l.jobs.items ++ l.left.items ≡ l.initial.left.items;
}

abbrev pub decreases-loop-left : goal.decreases-loop-left
decreases-loop-left l = l.count - vec_len l.jobs
