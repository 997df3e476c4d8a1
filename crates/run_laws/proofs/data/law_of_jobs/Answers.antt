use Rattle.run_laws.proofs.JobTies.{of_their_submissions}
use Rattle.run_laws.proofs.data.law_of_jobs.Goals as goal

pub returns : goal.returns
returns c = of_their_submissions
