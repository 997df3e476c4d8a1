use Rattle.driver_book.proofs.Runs.{entries_stay}
use Rattle.driver_book.proofs.laws.law_of_entries.Goals as goal

pub returns : goal.returns
returns c = entries_stay
