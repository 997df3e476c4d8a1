use Rattle.run_laws.proofs.Images.{compares_told, failures_of_compares}
use Rattle.run_laws.proofs.answers.law_of_drafted_compares.Goals as goal

pub returns-clause-compares : goal.returns-clause-compares
returns-clause-compares c = compares_told

pub returns-clause-failures : goal.returns-clause-failures
returns-clause-failures c = failures_of_compares
