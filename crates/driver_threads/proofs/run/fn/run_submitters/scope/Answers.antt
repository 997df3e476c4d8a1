-- The submitters that were started have the first lists of jobs.
use Rattle.std.proofs.Common.{IfOk, map}
use Rattle.driver_threads.{proofs.Carried.fits_first, specs.Jobs.WentBy}
use Rattle.driver_threads.proofs.run.fn.run_submitters.scope.Goals as goal

pub returns-in-Ok : goal.returns-in-Ok
returns-in-Ok g c =
    fits_first (λ list returned. IfOk returned.carried (λ carried. WentBy g.D.Data.bytes g.D.Data.keeps g.L.LogBrand.opening carried.seat.number list carried.seat.receipts carried.ends.items)) (λ submitter. submitter.promise.0.value.items) c.in-Ok.started.items
    (map (λ list. list.items) c.captures.jobs.items) c.in-Ok.ensures.started.0 c.join_all.result.items c.in-Ok.ensures.started.1 c.join_all.ensures
