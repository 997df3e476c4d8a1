use Rattle.run_laws.proofs.DataLaws.{data_kept, bytes_kept, was_deleted, successes_fetched, reserved_zeros, zeros_kept}
use Rattle.run_laws.proofs.data.law_of_unfetched_commands.Goals as goal

pub returns-clause-pages : goal.returns-clause-pages
returns-clause-pages c = data_kept

pub returns-clause-bytes : goal.returns-clause-bytes
returns-clause-bytes c = bytes_kept

pub returns-clause-status : goal.returns-clause-status
returns-clause-status c = was_deleted

pub returns-clause-successes : goal.returns-clause-successes
returns-clause-successes c = successes_fetched

pub returns-clause-reserved : goal.returns-clause-reserved
returns-clause-reserved c = reserved_zeros

pub returns-clause-zeros : goal.returns-clause-zeros
returns-clause-zeros c = zeros_kept
