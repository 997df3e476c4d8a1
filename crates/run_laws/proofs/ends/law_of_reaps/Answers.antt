use Rattle.run_laws.proofs.OneEnd.{reaps_answer}
use Rattle.run_laws.proofs.ends.law_of_reaps.Goals as goal

pub returns : goal.returns
returns c = reaps_answer
