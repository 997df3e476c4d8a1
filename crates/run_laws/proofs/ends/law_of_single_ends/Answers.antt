use Rattle.run_laws.proofs.{EndsOnce.runs_complete_once, OneEnd.{runs_tell_once, runs_collect_once, runs_end_once}}
use Rattle.run_laws.proofs.ends.law_of_single_ends.Goals as goal

pub returns-clause-completions : goal.returns-clause-completions
returns-clause-completions c = runs_complete_once

pub returns-clause-reaps : goal.returns-clause-reaps
returns-clause-reaps c = runs_tell_once

pub returns-clause-collects : goal.returns-clause-collects
returns-clause-collects c = runs_collect_once

pub returns-clause-ends : goal.returns-clause-ends
returns-clause-ends c = runs_end_once
