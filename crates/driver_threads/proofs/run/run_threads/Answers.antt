-- A run over a book that takes the steps of jobs alone is trusted.
use Rattle.std.proofs.Common.{subst}
use Rattle.driver_threads.{proofs.UnderWay.run_of_jobs, specs.Runs.RanFrom}
use Rattle.machine_model.specs.State.{State}
use Rattle.step_core.specs.Opening.{opening_of}
use Rattle.driver_threads.proofs.run.run_threads.Goals as goal

pub returns-in-Ok-run_over-clause-trusted : goal.returns-in-Ok-run_over-clause-trusted
returns-in-Ok-run_over-clause-trusted g c =
    let ran : RanFrom (opening_of c.args.config c.args.image) c.in-Ok-run_over.ran.report c.in-Ok-run_over.ran.book =
    subst (λ (opening : State). RanFrom opening c.in-Ok-run_over.ran.report c.in-Ok-run_over.ran.book) c.requires.opening c.in-Ok-run_over.ensures.closed in
    run_of_jobs g.L.LogBrand.jobs_alone c.args.config c.args.image c.in-Ok-run_over.ran.report c.in-Ok-run_over.ran.book c.in-Ok.ensures.fits c.blocks-2.ensures.image ran c.in-Ok-run_over.ensures.jobs
