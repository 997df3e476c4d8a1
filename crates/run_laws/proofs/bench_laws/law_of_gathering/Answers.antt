use Rattle.run_laws.proofs.KeptValues.{gathers_command, reads_have_blocks}
use Rattle.run_laws.proofs.bench_laws.law_of_gathering.Goals as goal

pub returns-clause-commands : goal.returns-clause-commands
returns-clause-commands c = gathers_command

pub returns-clause-reads : goal.returns-clause-reads
returns-clause-reads c = reads_have_blocks
