-- The lists of ends are as long as the lists of jobs were before they were moved into the threads.
use Rattle.std.proofs.Common.{ap, arith, length, map}
use Rattle.std.proofs.lemmas.List.{length-map}
use Rattle.driver_threads.proofs.run.work_over.Goals as goal

pub returns-clause-long : goal.returns-clause-long
returns-clause-long g c = cc (c.in_ok-hand.ensures.long, c.deref-3.ensures.value, c.in-Ok.ensures, c.deref.ensures.value)

pub returns-clause-went : goal.returns-clause-went
returns-clause-went g c =
    c.in_ok-hand.ensures.went (map (λ list. list.items) c.args.jobs.items) c.in_ok-workers.ensures
    (omega (arith, ap length c.deref-3.ensures.value, ap length c.in-Ok.ensures, length-map c.deref.result.now (λ list. length list.items), ap length c.deref.ensures.value, length-map c.args.jobs.items (λ list. list.items)))
