use Rattle.run_laws.proofs.ReadLaws.{reads_give, stopped_reads}
use Rattle.run_laws.proofs.laws.law_of_reads.Goals as goal

pub returns-clause-blocks : goal.returns-clause-blocks
returns-clause-blocks c = reads_give

pub returns-clause-stopped : goal.returns-clause-stopped
returns-clause-stopped c = stopped_reads
