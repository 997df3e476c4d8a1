use Rattle.std.proofs.Common.{inl, ◌∙◌}
use Rattle.program.proofs.Telling.{jobs_end, jobs_ended, jobs_ran, kept, objects_end, objects_failed}
use Rattle.command_line.specs.Asked.{given_of}
use Rattle.program.proofs.commands.run_threads.Goals as goal

pub returns-in-Err-clause-failed : goal.returns-in-Err-clause-failed
returns-in-Err-clause-failed g c lines = inl (c.in-Err.ensures.failed, kept _)

pub returns-in-Err-clause-objects : goal.returns-in-Err-clause-objects
returns-in-Err-clause-objects g c = inl (c.in-Err.ensures.failed, kept _)

pub returns-in-Ok-run_jobs-clause-ran : goal.returns-in-Ok-run_jobs-clause-ran
returns-in-Ok-run_jobs-clause-ran g c lines =
    jobs_ran c.end_strictly.result _ (given_of c.args.options) (given_of c.in-Ok.begun.0.said) c.args.threading c.args.serving c.in-Ok.begun.1 c.in-Ok.begun.0.text.items c.in-Ok.begun.0.image _ _
    c.in-Ok-run_jobs.unwell c.in-Ok.ensures.read c.in-Ok.ensures.said c.in-Ok.ensures.image (rw c.as_slice-script.ensures.value at (c.in-Ok-run_jobs.ensures.ran (c.pace_of-pace.ensures.form ∙ lines))) c.end_strictly.ensures.well

pub returns-in-Ok-run_jobs-clause-failed : goal.returns-in-Ok-run_jobs-clause-failed
returns-in-Ok-run_jobs-clause-failed g c lines =
    jobs_end c.end_strictly.result (λ told. told.fault) _ (given_of c.args.options) (given_of c.in-Ok.begun.0.said) c.args.threading c.args.serving c.in-Ok.begun.1 c.in-Ok.begun.0.text.items
    c.in-Ok.begun.0.image _ _ c.in-Ok-run_jobs.unwell c.in-Ok.ensures.read c.in-Ok.ensures.said c.in-Ok.ensures.image
    (rw c.as_slice-script.ensures.value at (c.in-Ok-run_jobs.ensures.ran (c.pace_of-pace.ensures.form ∙ lines))) c.end_strictly.ensures.some c.end_strictly.ensures.unwell

pub returns-in-Ok-run_jobs-clause-objects : goal.returns-in-Ok-run_jobs-clause-objects
returns-in-Ok-run_jobs-clause-objects g c = objects_end c.end_strictly.result (λ told. told.fault) _ (given_of c.args.options) c.args.threading c.args.serving _ _ c.end_strictly.ensures.unwell

pub returns-clause-failed : goal.returns-clause-failed
returns-clause-failed g c lines =
    jobs_ended _ (given_of c.args.options) (given_of c.in-Ok.begun.0.said) c.args.threading c.args.serving c.in-Ok.begun.1 c.in-Ok.begun.0.text.items c.in-Ok.begun.0.image _ _ c.in-Err-run_jobs.fault
    c.told_of_run.result.fault c.told_of_run.ensures
    c.in-Ok.ensures.read c.in-Ok.ensures.said c.in-Ok.ensures.image (rw c.as_slice-script.ensures.value at (c.in-Err-run_jobs.ensures.failed (c.pace_of-pace.ensures.form ∙ lines)))

pub returns-clause-objects : goal.returns-clause-objects
returns-clause-objects g c = objects_failed _ (given_of c.args.options) c.args.threading c.args.serving _ _ c.in-Err-run_jobs.fault c.told_of_run.result.fault c.told_of_run.ensures
