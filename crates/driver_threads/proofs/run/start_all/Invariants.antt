-- the submitters that were started have the first lists of jobs, there is room for the others, and their lists are left
use Rattle.std.{proofs.Common.{◌≡◌, ◌++◌, ◌+◌, ◌≤◌, map, vec_capacity, vec_len}, specs.{Iterator.Adapters.zip_second, Vec.Iter.{into_iter_items, into_iter_len}}}
use Rattle.driver_threads.proofs.run.start_all.Given as goal

abbrev pub invariant-loop-worker : goal.invariant-loop-worker
invariant-loop-worker g l = record {
  next : (goal.iterator-loop-worker g).can_next l.worker-iterator;
  finite : (goal.iterator-loop-worker g).is_finite l.worker-iterator;
  begun : map (λ handle. handle.promise.0.value.items) l.submitters.items ++ map (λ list. list.items) (into_iter_items (zip_second l.worker-iterator)) ≡ map (λ list. list.items) l.fn.jobs.items;
  room : vec_len l.submitters + into_iter_len (zip_second l.worker-iterator) ≤ vec_capacity l.submitters;
  few : vec_len l.submitters + into_iter_len (zip_second l.worker-iterator) ≤ vec_len l.fn.jobs;
}
