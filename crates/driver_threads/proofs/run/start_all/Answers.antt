-- The submitters that were started have the first lists of jobs.
use Rattle.std.{proofs.Common.{◌∙◌, ap, arith, map}, specs.{Iterator.Adapters.zip_second, Vec.Iter.{into_iter_items, into_iter_len}}}
use Rattle.driver_threads.proofs.Carried.{begun_more, no_items}
use Rattle.driver_threads.proofs.run.start_all.Goals as goal

pub loop-worker-init : goal.loop-worker-init
loop-worker-init g c =
    let empty = no_items c.args.room.items _ c.args.room.ok.0 c.requires.empty in
    let same = c.into_iter-worker-iterator.ensures.into_iter_gives in
    let long = ap (λ it. into_iter_len (zip_second it)) same ∙ c.zip-worker-items.ensures.second.1 in
    record {
      next = (tt, tt);
      finite = tt;
      begun = rw c.requires.empty (ap (λ it. map (λ list. list.items) (into_iter_items (zip_second it))) same ∙ ap (map (λ list. list.items)) c.zip-worker-items.ensures.second.0);
      room = omega (arith, empty, long, c.requires.room);
      few = omega (arith, empty, long);
    }

pub loop-worker-preserved : goal.loop-worker-preserved
loop-worker-preserved g c =
    let step = c.in-Some.ensures.steps.1 in
    let inv = c.loop-worker.invariant in
    record {
      next = (tt, tt);
      finite = tt;
      begun =
          rw c.push_reserved.ensures.items
          (begun_more (λ submitter. submitter.promise.0.value.items) (λ list. list.items) c.loop-worker.submitters.items c.in-Some-start.submitter (into_iter_items (zip_second c.loop-worker.worker-iterator))
          (into_iter_items (zip_second c.next.new.self)) c.in-Some.list _ inv.begun step.0 (ap (λ list. list.items) c.in-Some-start.ensures));
      room = omega (arith, c.push_reserved.ensures.len, c.push_reserved.ensures.capacity, step.1, inv.room);
      few = omega (arith, c.push_reserved.ensures.len, step.1, inv.few);
    }
