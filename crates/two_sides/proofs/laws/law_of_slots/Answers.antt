use Rattle.two_sides.proofs.PoolBytes.{entries_written, completions_written}
use Rattle.two_sides.proofs.laws.law_of_slots.Goals as goal

pub returns-clause-entries_written : goal.returns-clause-entries_written
returns-clause-entries_written c = entries_written

pub returns-clause-completions_written : goal.returns-clause-completions_written
returns-clause-completions_written c = completions_written
