use Rattle.std.proofs.Common.{ap, ◌∙◌}
use Rattle.page_ledger.{proofs.Tables.counts_sum, specs.Counting.total}
use Rattle.page_ledger.proofs.ledger.Ledger.counts.Goals as goal

pub returns-clause-sum : goal.returns-clause-sum
returns-clause-sum g c = rw (← c.self.view_is) (ap total c.self.invariant.2 ∙ counts_sum c.self.inside.owners.items)

pub returns-clause-counts : goal.returns-clause-counts
returns-clause-counts g c = cc
