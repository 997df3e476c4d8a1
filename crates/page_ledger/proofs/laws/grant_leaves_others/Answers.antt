use Rattle.page_ledger.proofs.Tables.{free-others}
use Rattle.page_ledger.proofs.laws.grant_leaves_others.Goals as goal

pub returns : goal.returns
returns c = λ pages owner owners. free-others pages owner owners
