use Rattle.driver_book.proofs.Runs.{leads_on}
use Rattle.driver_book.proofs.laws.law_of_pieces.Goals as goal

pub returns : goal.returns
returns c = leads_on
