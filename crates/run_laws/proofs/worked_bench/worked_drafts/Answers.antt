use Rattle.run_laws.proofs.WorkedBench.{fills_twice}
use Rattle.run_laws.proofs.worked_bench.worked_drafts.Goals as goal

pub returns-clause-bench : goal.returns-clause-bench
returns-clause-bench c = fills_twice
