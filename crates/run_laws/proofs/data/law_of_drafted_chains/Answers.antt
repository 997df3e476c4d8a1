use Rattle.run_laws.proofs.DataOnce.{chains_drafted}
use Rattle.run_laws.proofs.data.law_of_drafted_chains.Goals as goal

pub returns : goal.returns
returns c = chains_drafted
