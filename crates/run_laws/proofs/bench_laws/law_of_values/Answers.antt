use Rattle.run_laws.proofs.KeptValues.{have_tables, makes_run, unforged_where_trusted}
use Rattle.run_laws.proofs.bench_laws.law_of_values.Goals as goal

pub returns-clause-tables : goal.returns-clause-tables
returns-clause-tables c = have_tables

pub returns-clause-runs : goal.returns-clause-runs
returns-clause-runs c = makes_run

pub returns-clause-unforged : goal.returns-clause-unforged
returns-clause-unforged c = unforged_where_trusted
