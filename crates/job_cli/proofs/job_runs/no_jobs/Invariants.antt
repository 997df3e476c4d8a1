-- this many lists are there, all of them empty
use Rattle.std.proofs.Common.{◌≡◌, ◌-◌, ◌≤◌, [], map, replicate, vec_len, vec_capacity}
use Rattle.job_cli.proofs.job_runs.no_jobs.Given as goal

abbrev pub invariant-loop-alloc : goal.invariant-loop-alloc
invariant-loop-alloc l = record {
  few : vec_len l.lists ≤ l.count;
  room : vec_capacity l.lists ≡ l.count;
  empty : map (λ list. list.items) l.lists.items ≡ replicate (vec_len l.lists) [];
}

abbrev pub decreases-loop-alloc : goal.decreases-loop-alloc
decreases-loop-alloc l = l.count - vec_len l.lists
