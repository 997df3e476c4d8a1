-- What was written is the text of the run, or a prefix of it.
use Rattle.job_cli.proofs.Told.{closing_is_cut, jobs_are_written, no_run_failed}
use Rattle.job_cli.proofs.job_runs.run_jobs.Goals as goal

pub returns-in_err-done-clause-failed : goal.returns-in_err-done-clause-failed
returns-in_err-done-clause-failed g c lines =
    no_run_failed c.from_residual-in_err-done.result (g.I.Read.remaining c.args.reader.now) c.args.submitters c.args.config c.args.image _ _ c.in_ok-script.script c.into_jobs.result.items
    c.in_ok-orders.orders.headings.items _ c.in_err-done.field-0.0 c.from_residual-in_err-done.ensures.1 c.in_ok-script.ensures.script c.into_jobs.ensures c.in_ok-orders.ensures.headings
    c.in_ok-orders.ensures.lists
    (c.in_err-done.ensures.failed lines)

pub returns-in-Ok-clause-ran : goal.returns-in-Ok-clause-ran
returns-in-Ok-clause-ran g c lines = (
  c.in_ok-script.script,
  c.in_ok-script.ensures.script,
  jobs_are_written (λ list. list.items) c.args.submitters c.args.config c.args.image c.in_ok-script.script c.into_jobs.result.items c.in_ok-orders.orders.headings.items
      c.in_ok-orders.orders.lists.items c.in_ok-done.done.ends c.in_ok-done.done.world.state _ _ _ c.unwell_jobs.result c.into_jobs.ensures c.in_ok-orders.ensures.headings c.in_ok-orders.ensures.lists
      c.in_ok-done.ensures.ended c.in_ok-script.ensures.below c.in_ok-done.ensures.opened c.in_ok-done.ensures.image c.in_ok-done.ensures.gone_on (c.in_ok-done.ensures.written lines)
      (c.in-Ok.ensures.written lines) c.unwell_jobs.ensures,
)

pub returns-clause-failed : goal.returns-clause-failed
returns-clause-failed g c lines =
    closing_is_cut (λ list. list.items) (g.I.Read.remaining c.args.reader.now) c.args.submitters c.args.config c.args.image c.in_ok-script.script c.into_jobs.result.items
    c.in_ok-orders.orders.headings.items c.in_ok-orders.orders.lists.items c.in_ok-done.done.ends c.in_ok-done.done.world.state _ _ _ c.in-Err.why c.in_ok-script.ensures.script c.into_jobs.ensures
    c.in_ok-orders.ensures.headings c.in_ok-orders.ensures.lists c.in_ok-done.ensures.ended c.in_ok-script.ensures.below c.in_ok-done.ensures.opened c.in_ok-done.ensures.image
    c.in_ok-done.ensures.gone_on (c.in_ok-done.ensures.written lines) (c.in-Err.ensures.cut lines) c.in-Err.ensures.fault
