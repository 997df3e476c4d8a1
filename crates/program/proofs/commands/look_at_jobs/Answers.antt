use Rattle.std.proofs.Common.{◌≡◌, List, ℕ, Some, subst, unwrap_or}
use Rattle.program.{proofs.Telling.{bad_check, jobs_told, no_jobs_told, played, unread_check}, specs.{Checking.{AreJobs, AreNoJobs}, Performing.line_said}}
use Rattle.job_cli.specs.{JobRuns.{HasJobs, IsNoJobs}, declared.jobs.JobLine.JobLine}
use Rattle.script_cli.specs.declared.transcripts.options.ScriptKind.TheVariants.{Jobs}
use Rattle.program.proofs.commands.look_at_jobs.Goals as goal

pub returns-in_err-text-clause-fault : goal.returns-in_err-text-clause-fault
returns-in_err-text-clause-fault g c =
    unread_check c.from_residual.result (λ told. told.fault) _ Jobs (λ script said cause. IsNoJobs (Some script) (unwrap_or said.submitters c.args.submitters) cause) c.in_err-text.field-0.0.fault
    c.from_residual.ensures.1 c.in_err-text.ensures.fault

pub returns-in_err-check_jobs-clause-fault : goal.returns-in_err-check_jobs-clause-fault
returns-in_err-check_jobs-clause-fault g c =
    bad_check c.from_residual-in_err-check_jobs.result (λ told. told.fault) _ c.in_ok-text.text.items Jobs
    (λ script said cause. IsNoJobs (Some script) (unwrap_or said.submitters c.args.submitters) cause)
    c.in_ok-said.said c.in_err-check_jobs.field-0.0.fault c.from_residual-in_err-check_jobs.ensures.1 c.in_ok-text.ensures.text
    (subst (λ (text : List ℕ). line_said Jobs text ≡ Some c.in_ok-said.said) c.deref.ensures.value c.in_ok-said.ensures.said)
    (λ all read. no_jobs_told (Some all) (unwrap_or c.in_ok-said.said.submitters c.args.submitters) c.in_ok-text.text.items c.in_err-check_jobs.field-0.0.fault read
    (subst (λ (n : ℕ). AreNoJobs n c.in_ok-text.text.items c.in_err-check_jobs.field-0.0.fault) c.submitters_or.ensures
    (subst (λ (text : List ℕ). AreNoJobs c.submitters_or.result text c.in_err-check_jobs.field-0.0.fault) c.deref-2.ensures.value c.in_err-check_jobs.ensures.fault)))

pub returns-clause-jobs : goal.returns-clause-jobs
returns-clause-jobs g c =
    played _ c.in_ok-text.text.items (line_said Jobs) c.in_ok-said.said (λ script said. (lines : List JobLine) × HasJobs (Some script) (unwrap_or said.submitters c.args.submitters) lines)
    c.in_ok-text.ensures.text (subst (λ (text : List ℕ). line_said Jobs text ≡ Some c.in_ok-said.said) c.deref.ensures.value c.in_ok-said.ensures.said)
    (λ all read. jobs_told (Some all) (unwrap_or c.in_ok-said.said.submitters c.args.submitters) c.in_ok-text.text.items read
    (subst (λ (n : ℕ). AreJobs n c.in_ok-text.text.items) c.submitters_or.ensures (subst (AreJobs c.submitters_or.result) c.deref-2.ensures.value c.in_ok-check_jobs.ensures.jobs)))
