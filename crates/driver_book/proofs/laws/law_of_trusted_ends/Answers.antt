use Rattle.driver_book.proofs.Runs.{trusted_logs}
use Rattle.driver_book.proofs.laws.law_of_trusted_ends.Goals as goal

pub returns : goal.returns
returns c = trusted_logs
