use Rattle.std.proofs.Common.{◌≡◌, List, ℕ, Some, subst}
use Rattle.program.{proofs.Telling.{bad_check, no_steps_told, played, steps_told, unread_check}, specs.{Checking.{AreNoSteps, AreSteps}, Performing.line_said}}
use Rattle.script_cli.specs.{Runs.{HasScript, IsNoScript}, declared.{script.Numbered.Numbered, transcripts.options.ScriptKind.TheVariants.Steps}}
use Rattle.program.proofs.commands.look_at_steps.Goals as goal

pub returns-in_err-text-clause-fault : goal.returns-in_err-text-clause-fault
returns-in_err-text-clause-fault g c =
    unread_check c.from_residual.result (λ told. told.fault) _ Steps (λ script said cause. IsNoScript (Some script) cause) c.in_err-text.field-0.0.fault
    c.from_residual.ensures.1 c.in_err-text.ensures.fault

pub returns-in_err-check_steps-clause-fault : goal.returns-in_err-check_steps-clause-fault
returns-in_err-check_steps-clause-fault g c =
    bad_check c.from_residual-in_err-check_steps.result (λ told. told.fault) _ c.in_ok-text.text.items Steps (λ script said cause. IsNoScript (Some script) cause)
    c.in_ok-read_options.field-0 c.in_err-check_steps.field-0.0.fault c.from_residual-in_err-check_steps.ensures.1 c.in_ok-text.ensures.text
    (subst (λ (text : List ℕ). line_said Steps text ≡ Some c.in_ok-read_options.field-0) c.deref.ensures.value c.in_ok-read_options.ensures.said)
    (λ all read. no_steps_told (Some all) c.in_ok-text.text.items c.in_err-check_steps.field-0.0.fault read
    (subst (λ (text : List ℕ). AreNoSteps text c.in_err-check_steps.field-0.0.fault) c.deref-2.ensures.value c.in_err-check_steps.ensures.fault))

pub returns-clause-steps : goal.returns-clause-steps
returns-clause-steps g c =
    played _ c.in_ok-text.text.items (line_said Steps) c.in_ok-read_options.field-0 (λ script said. (lines : List Numbered) × HasScript (Some script) lines) c.in_ok-text.ensures.text
    (subst (λ (text : List ℕ). line_said Steps text ≡ Some c.in_ok-read_options.field-0) c.deref.ensures.value c.in_ok-read_options.ensures.said)
    (λ all read. steps_told (Some all) c.in_ok-text.text.items read (subst AreSteps c.deref-2.ensures.value c.in_ok-check_steps.ensures.steps))
