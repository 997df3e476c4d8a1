use Rattle.std.proofs.Common.{ℕ, Option, IsSome, subst, sym, ◌∙◌}
use Rattle.host_core.proofs.open.grant_half.Goals as goal

pub unwrap-requires : goal.unwrap-requires
unwrap-requires g c = subst (λ (o : Option ℕ). IsSome o) (sym c.grant_run.ensures.lowest) c.requires.run

pub returns-clause-first : goal.returns-clause-first
returns-clause-first g c = sym c.grant_run.ensures.lowest ∙ c.unwrap.ensures

pub returns-clause-granted : goal.returns-clause-granted
returns-clause-granted g c = rw c.unwrap.ensures at c.grant_run.ensures.owners
