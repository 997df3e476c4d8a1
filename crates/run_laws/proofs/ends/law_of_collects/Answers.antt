use Rattle.run_laws.proofs.{Hints.runs_tell_no_hints, ReadLaws.{runs_tell_ends, runs_have_causes}}
use Rattle.run_laws.proofs.ends.law_of_collects.Goals as goal

pub returns-clause-ends : goal.returns-clause-ends
returns-clause-ends c = runs_tell_ends

pub returns-clause-hints : goal.returns-clause-hints
returns-clause-hints c = runs_tell_no_hints

pub returns-clause-causes : goal.returns-clause-causes
returns-clause-causes c = runs_have_causes
