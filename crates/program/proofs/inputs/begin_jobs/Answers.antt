use Rattle.std.proofs.Common.{◌≡◌, List, ℕ, None, Some, subst}
use Rattle.program.proofs.Telling.{no_image, unread, unsaid}
use Rattle.command_line.specs.Asked.{given_of}
use Rattle.program.specs.Performing.{jobs_said}
use Rattle.program.proofs.inputs.begin_jobs.Goals as goal

pub returns-in_err-text-clause-failed : goal.returns-in_err-text-clause-failed
returns-in_err-text-clause-failed g c =
    unread c.from_residual.result (λ told. told.fault) _ (jobs_said (given_of c.args.options) c.args.submitters) (λ said. said.0) c.in_err-text.field-0.0.fault c.from_residual.ensures.1 c.in_err-text.ensures.fault

pub returns-in_err-said-clause-failed : goal.returns-in_err-said-clause-failed
returns-in_err-said-clause-failed g c =
    unsaid c.from_residual-in_err-said.result (λ told. told.fault) _ c.in_ok-text.text.items (jobs_said (given_of c.args.options) c.args.submitters) (λ said. said.0) c.in_err-said.field-0.0
    c.from_residual-in_err-said.ensures.1 c.in_err-said.ensures.fault c.in_ok-text.ensures.text
    (subst (λ (text : List ℕ). jobs_said (given_of c.args.options) c.args.submitters text ≡ None) c.deref.ensures.value c.in_err-said.ensures.none)

pub returns-in_err-image-clause-failed : goal.returns-in_err-image-clause-failed
returns-in_err-image-clause-failed g c =
    no_image c.from_residual-in_err-image.result (λ told. told.fault) _ c.in_ok-text.text.items (jobs_said (given_of c.args.options) c.args.submitters) (λ said. said.0) ((given_of c.in_ok-said.said, c.in_ok-said.submitters)) c.in_err-image.field-0.0.fault
    c.from_residual-in_err-image.ensures.1 c.in_ok-text.ensures.text
    (subst (λ (text : List ℕ). jobs_said (given_of c.args.options) c.args.submitters text ≡ Some ((given_of c.in_ok-said.said, c.in_ok-said.submitters))) c.deref.ensures.value c.in_ok-said.ensures.said) c.in_err-image.ensures.no_image

pub returns-clause-read : goal.returns-clause-read
returns-clause-read g c = c.in_ok-text.ensures.text

pub returns-clause-said : goal.returns-clause-said
returns-clause-said g c = subst (λ (text : List ℕ). jobs_said (given_of c.args.options) c.args.submitters text ≡ Some ((given_of c.in_ok-said.said, c.in_ok-said.submitters))) c.deref.ensures.value c.in_ok-said.ensures.said

pub returns-clause-image : goal.returns-clause-image
returns-clause-image g c = c.in_ok-image.ensures.image
