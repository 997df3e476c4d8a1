use Rattle.page_ledger.proofs.Pages.{finds_lowest}
use Rattle.page_ledger.proofs.laws.finds_lowest_run.Goals as goal

pub returns : goal.returns
returns c = λ k owners some. finds_lowest k owners some
