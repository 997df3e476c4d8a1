-- the jobs taken and those left are all, of each submitter
use Rattle.std.proofs.Common.{◌≡◌, ◌+◌, ◌-◌, ◌≤◌, map, vec_len, vec_capacity}
use Rattle.driver_threads.specs.Behind.{behind}
use Rattle.job_cli.proofs.rounds.next_round.Given as goal

abbrev pub invariant-loop-place : goal.invariant-loop-place
invariant-loop-place l = record {
  count : vec_len l.round ≡ l.place;
  room : vec_len l.round + (l.count - l.place) ≤ vec_capacity l.round;
  left : vec_len l.left ≡ l.count;
  next : behind (map (λ list. list.items) l.round.items) (map (λ queue. queue.items) l.left.items) ≡ map (λ queue. queue.items) l.initial.left.items;
}
