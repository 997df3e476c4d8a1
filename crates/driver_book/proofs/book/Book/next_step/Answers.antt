use Rattle.std.proofs.Common.{◌≡◌, None, IfNone, IfSome, IsTrue, subst}
use Rattle.machine_model.specs.Refusals.{refusal_of}
use Rattle.step_core.specs.Looks.{event_of, IsAtRest}
use Rattle.driver_book.specs.State.{BookContents}
use Rattle.driver_book.proofs.book.Book.next_step.Goals as goal

pub returns-clause-rest : goal.returns-clause-rest
returns-clause-rest g c =
    subst (λ (b : BookContents). IfNone c.next_step.result (IsTrue b.world.trusted → IsAtRest b.world)) c.self.view_is c.next_step.ensures.rest

pub returns-clause-possible : goal.returns-clause-possible
returns-clause-possible g c =
    subst (λ (b : BookContents). IfSome c.next_step.result (λ step. IsTrue b.world.trusted → refusal_of b.world (event_of step) ≡ None)) c.self.view_is c.next_step.ensures.possible
