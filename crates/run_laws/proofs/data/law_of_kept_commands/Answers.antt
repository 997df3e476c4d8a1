use Rattle.run_laws.proofs.{DataKept.{request_stays, data_numbers_stay, chain_numbers_stay}, DataLaws.were_submitted}
use Rattle.run_laws.proofs.data.law_of_kept_commands.Goals as goal

pub returns-clause-submission : goal.returns-clause-submission
returns-clause-submission c = were_submitted

pub returns-clause-request : goal.returns-clause-request
returns-clause-request c = request_stays

pub returns-clause-data_pages : goal.returns-clause-data_pages
returns-clause-data_pages c = data_numbers_stay

pub returns-clause-chain_pages : goal.returns-clause-chain_pages
returns-clause-chain_pages c = chain_numbers_stay
