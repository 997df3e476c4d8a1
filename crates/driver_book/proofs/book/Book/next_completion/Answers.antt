use Rattle.std.proofs.Common.{◌≡◌, ℕ, ◌<◌, true, false, IfSome, IfNone, subst}
use Rattle.step_core.specs.Looks.{has_completion}
use Rattle.driver_book.specs.State.{BookContents}
use Rattle.driver_book.proofs.book.Book.next_completion.Goals as goal

pub returns-clause-some : goal.returns-clause-some
returns-clause-some g c =
    subst (λ (b : BookContents). IfSome c.next_completion.result (λ q. has_completion b.world q ≡ true)) c.self.view_is c.next_completion.ensures.some

pub returns-clause-first : goal.returns-clause-first
returns-clause-first g c =
    subst (λ (b : BookContents). IfSome c.next_completion.result (λ q. (p : ℕ) → p < q → has_completion b.world p ≡ false)) c.self.view_is c.next_completion.ensures.first

pub returns-clause-none : goal.returns-clause-none
returns-clause-none g c =
    subst (λ (b : BookContents). IfNone c.next_completion.result ((q : ℕ) → has_completion b.world q ≡ false)) c.self.view_is c.next_completion.ensures.none
