-- the lists that came are after those that were there
use Rattle.std.{proofs.Common.{◌≡◌, ◌+◌, length, map, vec_len}, specs.Vec.Iter.into_iter_len}
use Rattle.driver_threads.specs.Behind.{behind}
use Rattle.driver_threads.proofs.jobs.add_all.Given as goal

abbrev pub invariant-loop-list : goal.invariant-loop-list
invariant-loop-list g l = record {
  place : l.submitter ≡ length l.yielded;
  left : length l.yielded + into_iter_len l.list-iterator ≡ vec_len l.fn.later;
  all : map (λ list. list.items) l.lists.items ≡ behind (map (λ list. list.items) l.initial.lists.items) (map (λ list. list.items) l.yielded);
}
