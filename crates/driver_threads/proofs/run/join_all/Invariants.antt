-- each submitter so far has given back what it promised, and there is room for the others
use Rattle.std.{proofs.Common.{◌+◌, ◌≤◌, IfOk, vec_capacity, vec_len}, specs.{List.AllZip, Vec.Iter.into_iter_len}}
use Rattle.driver_threads.specs.Jobs.{WentBy}
use Rattle.driver_threads.proofs.run.join_all.Given as goal

abbrev pub invariant-loop-handle : goal.invariant-loop-handle
invariant-loop-handle g l = record {
  room : vec_len l.workers + into_iter_len l.handle-iterator ≤ vec_capacity l.workers;
  kept : AllZip (λ handle returned. IfOk returned.carried (λ carried. WentBy g.D.Data.bytes g.D.Data.keeps g.L.LogBrand.opening carried.seat.number handle.promise.0.value.items carried.seat.receipts carried.ends.items)) l.yielded l.workers.items;
}
