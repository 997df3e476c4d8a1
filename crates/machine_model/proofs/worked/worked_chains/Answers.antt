use Rattle.machine_model.proofs.FourPages.{four_pages_run}
use Rattle.machine_model.proofs.worked.worked_chains.Goals as goal

pub returns-clause-four_pages : goal.returns-clause-four_pages
returns-clause-four_pages c = four_pages_run
