use Rattle.run_laws.proofs.KeptValues.{writes_told}
use Rattle.run_laws.proofs.bench_laws.law_of_writes.Goals as goal

pub returns : goal.returns
returns c = writes_told
