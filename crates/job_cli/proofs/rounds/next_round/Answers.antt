-- The jobs that were taken of one more submitter follow those taken before.
use Rattle.std.proofs.{Common.{◌∷◌, [], List, arith, ap, map, slice_set, ◌∙◌}, lemmas.List.{length-map, map-append}}
use Rattle.driver_threads.specs.{Behind.behind, Values.Job}
use Rattle.job_cli.proofs.JobRuns.{one_taken}
use Rattle.job_cli.proofs.rounds.next_round.Goals as goal

pub loop-place-preserved : goal.loop-place-preserved
loop-place-preserved c =
    let inv = c.loop-place.invariant in
    let rest = map (λ queue. queue.items) (slice_set c.loop-place.left.items c.loop-place.place c.next_jobs.new.left) in
    let at = length-map c.loop-place.round.items (λ list. list.items) in
    record {
      count = omega (arith, c.push_reserved.ensures.len, inv.count);
      room = omega (arith, c.push_reserved.ensures.len, c.push_reserved.ensures.capacity, inv.room, inv.count, c.loop-place-test.true);
      left = inv.left;
      next =
          ap (λ (round : List (List Job)). behind round rest) (ap (map (λ list. list.items)) c.push_reserved.ensures.items ∙ map-append (λ list. list.items) c.loop-place.round.items (c.in_ok-jobs.jobs ∷ []))
          ∙ (one_taken (λ queue. queue.items) (map (λ list. list.items) c.loop-place.round.items) c.loop-place.left.items c.loop-place.place c.index_mut.result.now c.next_jobs.new.left c.in_ok-jobs.jobs.items
          (omega (arith, at, inv.count, c.loop-place.round.ok.0)) (omega (arith, c.loop-place-test.true, inv.left, c.loop-place.left.ok.0)) c.index_mut.ensures.value c.in_ok-jobs.ensures.next ∙ inv.next);
    }
